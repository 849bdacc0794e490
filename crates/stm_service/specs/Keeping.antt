-- What is told of a chapter of a service that ended.
use Rattle.std.specs.Prelude.{◌≡◌}
use Rattle.txn_programs.specs.Meaning.{State}
use Rattle.txn_programs.specs.Listing.{Listing}
use Rattle.book.specs.View.{BookView}
use Rattle.stm_store.specs.Working.{declaring}
use Rattle.stm_desk.specs.declared.ended.Ended.{Ended}
use Rattle.stm_desk.specs.History.{Begins, History, led}
use Rattle.stm_desk.specs.Telling.{TellsOf}

-- file and report tell of a book of the program: the file begins at the values to which the history led when the
-- chapter began, and the report ends at those to which it led when the chapter ended
pub record IsChapter (l : Listing) (first : State) (began until : History) (e : Ended) : Type 0 where
  pub book : BookView
  pub tells : TellsOf book e.file e.report
  pub program : declaring book.catalogue ≡ declaring l
  pub grows : Begins began until
  pub begins : book.catalogue.initial ≡ led l first began
  pub ends : book.present.state ≡ led l first until

-- the later file declares the same as the earlier one, and begins at the values at which the earlier report ends
pub record Follows (earlier later : Ended) : Type 0 where
  pub before : BookView
  pub now : BookView
  pub tells_before : TellsOf before earlier.file earlier.report
  pub tells_now : TellsOf now later.file later.report
  pub program : declaring now.catalogue ≡ declaring before.catalogue
  pub values : now.catalogue.initial ≡ before.present.state
