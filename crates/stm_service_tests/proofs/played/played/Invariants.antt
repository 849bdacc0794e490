use Rattle.stm_service_tests.proofs.played.played.Given as goal

-- the service is of this program and of the store's values, and shows its history in the book that was opened
abbrev pub ghosts-played_by : goal.ghosts-played_by
ghosts-played_by g a = record { catalogue = a.store.catalogue.now; first = a.store.book.present.state; book = a.opened.seen.book }
