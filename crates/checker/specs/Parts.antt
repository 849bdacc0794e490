-- The parts of a lawful report, in the order in which they are judged.
use Rattle.std.specs.Prelude.{◌≡◌, ◌+◌, ◌≤◌, List, [], ◌∷◌, ◌++◌, map, length, All}
use Rattle.txn_programs.specs.declared.ast.TaskId.{TaskId}
use Rattle.txn_programs.specs.declared.ast.TxId.{TxId}
use Rattle.txn_programs.specs.declared.ast.Outcome.TheVariants.{Retries}
use Rattle.txn_programs.specs.declared.report.Entry.{Entry}
use Rattle.txn_programs.specs.Meaning.{outcome}
use Rattle.txn_programs.specs.Listing.{Listing, tasks, task_tx, transaction_at, arity, program_as}
use Rattle.txn_programs.specs.Replay.{Snapshot, applied, opening, Once}
use Rattle.txn_programs.specs.Standing.{Upholds}
use Rattle.txn_programs.specs.Told.{Told, base_of, now_of}
use Rattle.txn_programs.specs.LawfulReport.{on_lines, Ascends, HasOwn}

-- a base of number 0 is the opening snapshot, no version of a base is above its number, and each standing condition
-- is true on its values
pub record BaseHolds (l : Listing) (r : Told) : Type 0 where
  pub from_opening : r.base ≡ 0 → base_of r ≡ opening l
  pub versions : All (λ v. v.1 ≤ r.base) r.base_vars
  pub upheld : Upholds l (base_of r).state

-- an entry goes on from a snapshot: it has the next number, the transaction that it names takes as many arguments as
-- its task has, and with these it ends so there
pub record GoesOn (l : Listing) (e : Entry) (s : Snapshot) : Type 0 where
  pub number : e.number ≡ s.number + 1
  -- a task has as many arguments as its own transaction takes
  pub takes : arity (transaction_at l e.tx) ≡ arity (transaction_at l (task_tx l e.task))
  pub outcome_is : e.outcome ≡ outcome (program_as l e.task e.tx) s.state

-- each entry goes on from where those before it lead
abbrev pub AllGoOn : Listing → Snapshot → List Entry → Type 0
AllGoOn l s [] = Unit {0}
AllGoOn l s (e ∷ es) = GoesOn l e s × AllGoOn l (applied l e s) es

-- where the entries lead
abbrev pub led_to : Listing → Snapshot → List Entry → Snapshot
led_to l s [] = s
led_to l s (e ∷ es) = led_to l (applied l e s) es

abbrev pub EntriesHold : Listing → Told → Type 0
EntriesHold l r = AllGoOn l (base_of r) r.entries

-- the present is where they lead
abbrev pub PresentHolds : Listing → Told → Type 0
PresentHolds l r = now_of r ≡ led_to l (base_of r) r.entries

-- the tasks on the report's lines, entries first, each with the transaction named there
abbrev pub on_line : Entry → TaskId × TxId
on_line e = (e.task, e.tx)

abbrev pub named : Told → List (TaskId × TxId)
named r = map on_line r.entries ++ (r.parked ++ r.memory)

-- each task stands on at most one line, with its own transaction, in order, and all are accounted for
pub record TasksHold (l : Listing) (r : Told) : Type 0 where
  pub own : All (λ p. HasOwn l p.0 p.1) (named r)
  pub once : Once (on_lines r)
  pub parked_ascend : Ascends (map (λ p. p.0.0) r.parked)
  pub memory_ascend : Ascends (map (λ p. p.0.0) r.memory)
  pub accounted : r.base + (length r.entries + (length r.parked + length r.memory)) ≡ length (tasks l)

-- each parked task waits for a change
abbrev pub ParkedHold : Listing → Told → Type 0
ParkedHold l r = All (λ p. outcome (program_as l p.0 p.1) (now_of r).state ≡ Retries) r.parked
