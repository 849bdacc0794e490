-- What the fields of a kept attempt mean, and what they keep.
use Rattle.std.specs.Prelude.{◌≡◌, ℕ, ℤ, List, [], All, length, slice_index_or}
use Rattle.txn_programs.specs.Listing.{Listing, call_program}
use Rattle.txn_programs.specs.declared.ast.TxId.{TxId}
use Rattle.attempt.specs.Order.{AllKnown}
use Rattle.attempt.specs.View.{AttemptView}
use Rattle.world.specs.declared.kept_attempt.Parts.{Parts}
use Rattle.world.specs.declared.kept_attempt.Parts.TheVariants as parts
use Rattle.world.specs.declared.kept_attempt.KeptAttempt.TheInside.{Inside}
use Rattle.world.specs.KeptAttempts.{log_alone}

abbrev pub viewed_by : Listing → TxId → List ℤ → Parts → AttemptView
viewed_by l id arguments (parts.Whole alone) = slice_index_or alone.items 0 (log_alone (call_program l id arguments) (length l.initial) [])
viewed_by l id arguments (parts.LogAlone log) = log_alone (call_program l id arguments) (length l.initial) log

abbrev pub viewed : Inside → AttemptView
viewed a = viewed_by a.catalogue.now a.id a.arguments.now a.parts

-- a whole one is alone; it is of that call, and reads its variables and cells
abbrev pub PartsKept : Listing → TxId → List ℤ → Parts → Type 0
PartsKept l id arguments (parts.Whole alone) =
    (length alone.items ≡ 1) × All (λ (a : AttemptView). (a.program ≡ call_program l id arguments) × (a.variables ≡ length l.initial)) alone.items
PartsKept l id arguments (parts.LogAlone log) = AllKnown (length l.initial) log

abbrev pub IsKept : Inside → Type 0
IsKept a = PartsKept a.catalogue.now a.id a.arguments.now a.parts
