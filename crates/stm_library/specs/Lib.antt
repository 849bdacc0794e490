-- programs, what they mean, and reports
pub use Rattle.txn_programs.specs.Tree
pub use Rattle.txn_programs.specs.Listing
pub use Rattle.txn_programs.specs.Meaning
pub use Rattle.txn_programs.specs.Standing
pub use Rattle.txn_programs.specs.Replay
pub use Rattle.txn_programs.specs.Told
pub use Rattle.txn_programs.specs.LawfulReport
-- text
pub use Rattle.text_grammar.specs.Spelling
pub use Rattle.text_file_printer.specs.Canonical
pub use Rattle.text_report_printer.specs.ReportText
-- verdicts
pub use Rattle.checker.specs.Verdicts
-- books and stores
pub use Rattle.book.specs.View
pub use Rattle.book.specs.LawfulBook
pub use Rattle.book.specs.Turns
pub use Rattle.book.specs.Chapters
pub use Rattle.stm_store.specs.Working
pub use Rattle.stm_store.specs.Keeping
pub use Rattle.stm_store.specs.Tickets
pub use Rattle.stm_store.specs.Entering
pub use Rattle.stm_store.specs.Asking
pub use Rattle.stm_store.specs.Bringing
pub use Rattle.stm_store.specs.Turning
pub use Rattle.stm_store.specs.Telling
-- services
pub use Rattle.stm_desk.specs.History
pub use Rattle.stm_desk.specs.Keeping as Entries
pub use Rattle.stm_service.specs.Telling as Answering
pub use Rattle.stm_service.specs.Keeping as Kept
pub use Rattle.stm_service.specs.Looking
-- journals in lines
pub use Rattle.book_storage.specs.PackedEntries
