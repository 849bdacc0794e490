-- The last lines of a world.
use Rattle.std.specs.Prelude.{◌≡◌, ℕ, ℤ, ◌-◌, List, [], ◌∷◌, ◌++◌, length, codes, slice_get, Some}
use Rattle.std.specs.Fmt.{decimal, signed_decimal}
use Rattle.std.specs.List.{flat_map}
use Rattle.txn_programs.specs.declared.ast.TaskId.{TaskId}
use Rattle.txn_programs.specs.declared.ast.VarId.{VarId}
use Rattle.txn_programs.specs.Listing.{Listing, values}
use Rattle.txn_words.specs.Words.{IsLastChange, last_state, state_value}
use Rattle.text_words.specs.Words.{line}
use Rattle.text_report_printer.specs.Names.{value_name}
use Rattle.text_report_printer.specs.ReportText.{value_lines}
use Rattle.attempt.specs.Asking.{Known}
use Rattle.world_law.specs.declared.events.Fate.{Fate}
use Rattle.world_law.specs.declared.events.Fate.TheVariants.{Running, Committed, Parked, Stale, Dropped, Spent}
use Rattle.world_law.specs.World.{Started, World}

-- of so many variables and cells the value in the last state, and the number of the last state that changed it
pub record ArePresent (h : List (List ℤ)) (count : ℕ) (vars : List (ℤ × ℕ)) : Type 0 where
  pub all : length vars ≡ count
  pub each : (x : ℕ) (v : ℤ × ℕ) → slice_get vars x ≡ Some v → (v.0 ≡ state_value (last_state h) x) × IsLastChange h x v.1

abbrev pub fate_text : Fate → List ℕ
fate_text Running = codes "running"
fate_text (Committed n) = codes "committed " ++ decimal n
fate_text Parked = codes "parked"
fate_text Stale = codes "stale"
fate_text Dropped = codes "dropped"
fate_text Spent = codes "memory"

-- a variable or a cell that was read, and its value
abbrev pub pair_text : Listing → VarId × ℤ → List ℕ
pair_text l p = codes " " ++ (value_name l p.0.0 ++ (codes " " ++ signed_decimal p.1))

-- attempt TASK RV FATE, and what was read, in this order
abbrev pub told_line : Listing → TaskId → ℕ → Known → Fate → List ℕ
told_line l a rv log f =
    codes "attempt " ++ (decimal a.0 ++ (codes " " ++ (decimal rv ++ (codes " " ++ (fate_text f ++ (flat_map (pair_text l) log ++ codes "\n"))))))

abbrev pub attempt_line : Listing → Started → List ℕ
attempt_line l y = told_line l y.task y.rv y.log y.fate

-- the last lines of the world were put behind the text
pub record PutsWorld (l : Listing) (w : World) (old new : List ℕ) : Type 0 where
  pub vars : List (ℤ × ℕ)
  pub present : ArePresent w.history (values l) vars
  pub text : new ≡ old ++ (line (codes "now" ∷ decimal (length w.history - 1) ∷ [])
      ++ (value_lines l vars ++ (flat_map (attempt_line l) w.attempts ++ line (codes "end" ∷ []))))

-- the text is the last lines of the world
abbrev pub IsWorldText : Listing → World → List ℕ → Type 0
IsWorldText l w text = PutsWorld l w [] text
