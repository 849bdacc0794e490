-- The line of an attempt from what the world tells of it.
use Rattle.std.proofs.Common.{◌≡◌, ◌∙◌, ℕ, sym, ap}
use Rattle.txn_programs.specs.Listing.{Listing}
use Rattle.txn_programs.specs.declared.ast.TaskId.{TaskId}
use Rattle.attempt.specs.Asking.{Known}
use Rattle.world_law.specs.World.{Started}
use Rattle.world_law.specs.declared.events.Fate.{Fate}
use Rattle.world.specs.WorldText.{told_line, attempt_line}

pub told : (l : Listing) (y : Started) (a : TaskId) (rv : ℕ) (log : Known) (f : Fate) → y.task ≡ a → y.rv ≡ rv → y.log ≡ log → y.fate ≡ f → told_line l a rv log f ≡ attempt_line l y
told l y a rv log f e1 e2 e3 e4 =
    ap (λ (b : TaskId). told_line l b rv log f) (sym e1) ∙ ap (λ (n : ℕ). told_line l y.task n log f) (sym e2)
    ∙ ap (λ (k : Known). told_line l y.task y.rv k f) (sym e3) ∙ ap (λ (g : Fate). told_line l y.task y.rv y.log g) (sym e4)
