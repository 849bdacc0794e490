-- What a step of the replay, and the whole of it, find.
use Rattle.std.specs.Prelude.{◌≡◌, List, Option, Some, None, length, slice_get, take}
use Rattle.txn_programs.specs.declared.report.Entry.{Entry}
use Rattle.txn_programs.specs.Listing.{Listing}
use Rattle.txn_programs.specs.Replay.{Snapshot}
use Rattle.checker.specs.Parts.{GoesOn, led_to}
use Rattle.explain_reports.specs.declared.entries.Replayed.{Replayed}
use Rattle.explain_reports.specs.declared.entries.Replayed.TheVariants.{Reached, Stopped}
use Rattle.checker.specs.View.{view}
use Rattle.explain_reports.specs.First.{AllRight, IsFirstWrong}
use Rattle.explain_reports.specs.Parts.{GoesOnThere, due_at}

-- the entry goes on, or it does not, and this is what replay has
abbrev pub IsStep : Listing → Snapshot → Entry → Option Entry → Type 0
IsStep l s e None = GoesOn l e s
IsStep l s e (Some due) = (GoesOn l e s → ⊥) × (due ≡ due_at l s e)

-- all entries go on, and lead to this stage; or this is the first that does not, and what replay has there
abbrev pub IsReplayed : Listing → Snapshot → List Entry → Replayed → Type 0
IsReplayed l s es (Reached stage) =
    AllRight (GoesOnThere l s es) es
    × (view stage ≡ led_to l s es)
    × (length stage.values.items ≡ length l.initial)
    × (length stage.versions.items ≡ length l.initial)
IsReplayed l s es (Stopped i due) =
    IsFirstWrong (GoesOnThere l s es) es i
    × ((e : Entry) → slice_get es i ≡ Some e → due ≡ due_at l (led_to l s (take i es)) e)
