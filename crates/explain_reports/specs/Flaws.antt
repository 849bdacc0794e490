-- What does not hold of a report, and that it is the first in its part.
use Rattle.std.specs.Prelude.{◌≡◌, ◌≢◌, ℕ, ◌+◌, ◌<◌, Option, Some, None, length, take, slice_get}
use Rattle.txn_programs.specs.declared.ast.TaskId.{TaskId}
use Rattle.txn_programs.specs.declared.ast.TxId.{TxId}
use Rattle.txn_programs.specs.declared.report.Entry as entry
use Rattle.txn_programs.specs.Meaning.{outcome}
use Rattle.txn_programs.specs.Listing.{Listing, conditions, tasks, program_as}
use Rattle.txn_programs.specs.Replay.{Snapshot}
use Rattle.txn_programs.specs.LawfulReport.{LawfulReport}
use Rattle.txn_programs.specs.Told.{Told, base_of, now_of}
use Rattle.checker.specs.declared.verdict.Part.{Part}
use Rattle.checker.specs.declared.verdict.Part.TheVariants as part
use Rattle.checker.specs.Parts.{BaseHolds, EntriesHold, PresentHolds, TasksHold, ParkedHold, led_to, named}
use Rattle.checker.specs.Verdicts.{FailsFirst}
use Rattle.explain_reports.specs.declared.flaw.TaskLine.{TaskLine}
use Rattle.explain_reports.specs.declared.flaw.TaskLine.TheVariants as line
use Rattle.explain_reports.specs.declared.flaw.Flaw.{Flaw}
use Rattle.explain_reports.specs.declared.flaw.Flaw.TheVariants.{Untrue, Opening, Late, Entry, Number, Present, NotOwn}
use Rattle.explain_reports.specs.declared.flaw.Flaw.TheVariants.{Again, Falls, Count, Ends}
use Rattle.explain_reports.specs.First.{AllRight, IsFirstWrong}
use Rattle.explain_reports.specs.Parts.{Opens, IsRecent, IsTrueOf, GoesOnThere, due_at, StandsAt, IsOwn, IsNew, Climbs}
use Rattle.explain_reports.specs.Parts.{Waits}

-- the part that it is in
abbrev pub part_of : Flaw → Part
part_of (Untrue id) = part.Base
part_of (Opening i value) = part.Base
part_of (Late i) = part.Base
part_of (Entry i due) = part.Entries
part_of (Number n) = part.Present
part_of (Present i value version) = part.Present
part_of (NotOwn at tx) = part.Tasks
part_of (Again at) = part.Tasks
part_of (Falls at) = part.Tasks
part_of Count = part.Tasks
part_of (Ends i ending) = part.Parked

-- where the entries lead
abbrev pub reached : Listing → Told → Snapshot
reached l r = led_to l (base_of r) r.entries

-- the place of a task's line among all of them, entries first; there is that line
abbrev pub place_of : Told → TaskLine → ℕ
place_of r (line.Entry i) = i
place_of r (line.Parked i) = length r.entries + i
place_of r (line.Memory i) = length r.entries + (length r.parked + i)

abbrev pub IsThere : Told → TaskLine → Type 0
IsThere r (line.Entry i) = i < length r.entries
IsThere r (line.Parked i) = i < length r.parked
IsThere r (line.Memory i) = i < length r.memory

-- the first line that is not right, of those that name a task
pub record IsFirstLine (Right : ℕ → TaskId × TxId → Type 0) (r : Told) (at : TaskLine) : Type 0 where
  pub there : IsThere r at
  pub first : IsFirstWrong Right (named r) (place_of r at)

-- the first line whose task is not larger than that before it: parked tasks come first
abbrev pub IsFirstFall : Told → TaskLine → Type 0
IsFirstFall r (line.Entry i) = ⊥
IsFirstFall r (line.Parked i) = IsFirstWrong (Climbs r.parked) r.parked i
IsFirstFall r (line.Memory i) = AllRight (Climbs r.parked) r.parked × IsFirstWrong (Climbs r.memory) r.memory i

abbrev pub IsFallSearched : Told → Option TaskLine → Type 0
IsFallSearched r None = AllRight (Climbs r.parked) r.parked × AllRight (Climbs r.memory) r.memory
IsFallSearched r (Some at) = IsFirstFall r at

-- it is what first does not hold in its part, and it tells what is so in its place
abbrev pub IsFlaw : Listing → Told → Flaw → Type 0
IsFlaw l r (Untrue id) = (r.base ≢ 0) × IsFirstWrong (IsTrueOf (base_of r).state) (conditions l) id.0
IsFlaw l r (Opening i value) = (r.base ≡ 0) × IsFirstWrong (Opens l.initial) r.base_vars i
    × (slice_get l.initial i ≡ Some value)
IsFlaw l r (Late i) = (r.base ≢ 0) × AllRight (IsTrueOf (base_of r).state) (conditions l)
    × IsFirstWrong (IsRecent r.base) r.base_vars i
IsFlaw l r (Entry i due) =
    IsFirstWrong (GoesOnThere l (base_of r) r.entries) r.entries i
    × ((e : entry.Entry) → slice_get r.entries i ≡ Some e → due ≡ due_at l (led_to l (base_of r) (take i r.entries)) e)
IsFlaw l r (Number n) = (r.current ≢ n) × (n ≡ (reached l r).number)
IsFlaw l r (Present i value version) =
    (r.current ≡ (reached l r).number)
    × IsFirstWrong (StandsAt (reached l r)) r.current_vars i
    × (slice_get (reached l r).state i ≡ Some value)
    × (slice_get (reached l r).versions i ≡ Some version)
IsFlaw l r (NotOwn at tx) =
    IsFirstLine (IsOwn l) r at
    × ((p : TaskId × TxId) → slice_get (named r) (place_of r at) ≡ Some p → slice_get (tasks l) p.0.0 ≡ Some tx)
IsFlaw l r (Again at) = AllRight (IsOwn l) (named r) × IsFirstLine (IsNew (named r)) r at
IsFlaw l r (Falls at) = AllRight (IsOwn l) (named r) × AllRight (IsNew (named r)) (named r) × IsFirstFall r at
IsFlaw l r Count =
    AllRight (IsOwn l) (named r)
    × AllRight (IsNew (named r)) (named r)
    × AllRight (Climbs r.parked) r.parked
    × AllRight (Climbs r.memory) r.memory
    × (r.base + length (named r) ≢ length (tasks l))
IsFlaw l r (Ends i ending) =
    IsFirstWrong (Waits l (now_of r).state) r.parked i
    × ((p : TaskId × TxId) → slice_get r.parked i ≡ Some p → ending ≡ outcome (program_as l p.0 p.1) (now_of r).state)

-- the part holds
abbrev pub Holds : Listing → Told → Part → Type 0
Holds l r part.Text = Unit {0}
Holds l r part.Base = BaseHolds l r
Holds l r part.Entries = EntriesHold l r
Holds l r part.Present = PresentHolds l r
Holds l r part.Tasks = TasksHold l r
Holds l r part.Parked = ParkedHold l r

-- what does not hold of a part, and that it does not hold for this
pub record FailsBy (l : Listing) (r : Told) (p : Part) (flaw : Flaw) : Type 0 where
  pub fails : Holds l r p → ⊥
  pub part : part_of flaw ≡ p
  pub flaw_is : IsFlaw l r flaw

-- the part holds, or this is what does not
abbrev pub IsPartJudged : Listing → Told → Part → Option Flaw → Type 0
IsPartJudged l r p None = Holds l r p
IsPartJudged l r p (Some flaw) = FailsBy l r p flaw

-- the report is lawful, or this is what does not hold in the first part that does not
abbrev pub IsJudged : Listing → Told → Option Flaw → Type 0
IsJudged l r None = LawfulReport l r
IsJudged l r (Some flaw) = FailsFirst l r (part_of flaw) × IsFlaw l r flaw
