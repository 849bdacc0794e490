-- What was written to a list of bytes that was empty is what lies in it.
use Rattle.std.proofs.Common.{◌≡◌, ◌∙◌, ℕ, List, [], ◌++◌, Some, sym, ap, subst}
use Rattle.world_runner.specs.Showing.{IsShowing, WroteShowing}
use Rattle.explore_runner.specs.Showing.{IsShown, WroteShown}
use Rattle.explore_runner.specs.Witness.{IsAnswer, WroteAnswer}
use Rattle.explore_runner.specs.declared.sight.Sight.{Sight}
use Rattle.explore_runner.specs.declared.sight.Witnessed.{Witnessed}

pub shown_in : (input : List ℕ) (limit : ℕ) (sight : Sight) (old new : List ℕ) → old ≡ [] → WroteShown input limit sight (Some old) (Some new) → IsShown input limit sight new
shown_in input limit sight old new empty w =
    subst (IsShown input limit sight) (sym (w.written ∙ ap (λ (l : List ℕ). l ++ w.text) empty)) w.shown

pub answer_in : (input : List ℕ) (limit k : ℕ) (answer : Witnessed) (old new : List ℕ) → old ≡ [] → WroteAnswer input limit k answer (Some old) (Some new) → IsAnswer input limit k answer new
answer_in input limit k answer old new empty w =
    subst (IsAnswer input limit k answer) (sym (w.written ∙ ap (λ (l : List ℕ). l ++ w.text) empty)) w.shown

pub showing_in : (input schedule old new : List ℕ) → old ≡ [] → WroteShowing input schedule (Some old) (Some new) → IsShowing input schedule new
showing_in input schedule old new empty w =
    subst (IsShowing input schedule) (sym (w.written ∙ ap (λ (l : List ℕ). l ++ w.text) empty)) w.showing
