use Rattle.stm_service_tests.proofs.looks.looked.Given as goal

-- the service is of this program and of the store's values, and shows its history in the book that was opened
abbrev pub ghosts-is_seen_of : goal.ghosts-is_seen_of
ghosts-is_seen_of g a = record { catalogue = a.store.catalogue.now; first = a.store.book.present.state; book = a.opened.seen.book }
