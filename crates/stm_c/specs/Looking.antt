-- What a host is told of a store.
use Rattle.std.specs.Prelude.{◌≡◌, ◌<◌, ◌≤◌, ℕ, ℤ, pos, List, length, Some, None, Result, IsUtf8}
use Rattle.txn_programs.specs.Listing.{IsCallable}
use Rattle.book.specs.View.{BookView}
use Rattle.book.specs.declared.counting.Counts.{Counts}
use Rattle.stm_store.specs.declared.job.Ticket.{Ticket}
use Rattle.stm_store.specs.declared.answers.Refused.{Refused}
use Rattle.stm_store.specs.declared.store.Store.{Store}
use Rattle.stm_store.specs.Asking.{Submits}
use Rattle.stm_store.specs.Keeping.{KeepsStore}
use Rattle.stm_store.specs.Telling.{IsValueOf, IsCellOf, CopiesCells}
use Rattle.stm_c.specs.Numbers.{not_there, ticket_told}
use Rattle.stm_c.specs.declared.looking.Counted.{Counted}

-- `stm_submit`: -9 and nothing changed where the transaction cannot be called with these arguments
pub record SubmitsBy (old : Store) (tx : ℕ) (arguments : List ℤ) (answer : ℤ) (new : Store) : Type 0 where
  pub unknown : (IsCallable old.catalogue.now (record { 0 = tx }) arguments → ⊥) → (answer ≡ not_there) × (new ≡ old)
  pub submitted : IsCallable old.catalogue.now (record { 0 = tx }) arguments
      → (ticket : Result Ticket Refused) × Submits old (record { 0 = tx }) arguments ticket new × (answer ≡ ticket_told ticket)
  pub kept : KeepsStore old new

-- the counts that were written
abbrev pub counts_in : Counted → Counts
counts_in s = record { ready = s.ready; running = s.running; parked = s.parked; done = s.done; given_up = s.given_up }

-- `stm_value`: the present value and version of the variable of this name, or of the cell that is written so
abbrev pub ValueIs : BookView → List ℕ → ℤ → ℕ → Type 0
ValueIs b name value version = IsValueOf b name (Some (value, version))

-- there is neither, where the name is text; else it is none's
abbrev pub NoValue : BookView → List ℕ → Type 0
NoValue b name = IsUtf8 name → IsValueOf b name None

-- `stm_cell`: the present value and version of the cell of this number in the table at this place
abbrev pub CellIs : BookView → ℕ → ℕ → ℤ → ℕ → Type 0
CellIs b table index value version = IsCellOf b table index (Some (value, version))

-- there is no such cell
abbrev pub NoCell : BookView → ℕ → ℕ → Type 0
NoCell b table index = IsCellOf b table index None

-- `stm_cells`: how many were copied; -9 and nothing was copied where there is no such table
pub record CopiesBy (b : BookView) (table from : ℕ) (old : List ℤ) (answer : ℤ) (new : List ℤ) : Type 0 where
  pub copied : table < length b.catalogue.tables
      → (count : ℕ) × (answer ≡ pos count) × CopiesCells b table from old count new
  pub unknown : length b.catalogue.tables ≤ table → (answer ≡ not_there) × (new ≡ old)
