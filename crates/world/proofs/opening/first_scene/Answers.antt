use Rattle.std.proofs.Common.{◌≡◌, ℕ, ℤ, List, ◌++◌, None, replicate, refl, ap, ◌∙◌, subst}
use Rattle.world_law.specs.World.{HoldValues}
use Rattle.world.proofs.FirstWords.{opening_kept}
use Rattle.world.proofs.opening.first_scene.Goals as goal

pub returns-clause-kept : goal.returns-clause-kept
returns-clause-kept c =
    let l = c.args.catalogue.now in
    let w = c.in_ok-words.ensures in
    let state : c.extend_from_slice.new.self.items ≡ l.initial =
    c.in_ok-extend_from_slice.ensures.items ∙ (ap (λ (m : List ℤ). m ++ c.initial-initial.result.now) c.in_ok-state.ensures.items ∙ c.initial-initial.ensures.value) in
    opening_kept (record { catalogue = c.args.catalogue; words = c.in_ok-words.words; states = c.in_ok-states.states; count = 1; trials = c.new.result; latest = c.in_ok-latest.latest; committer = None })
    w.0 c.extend_from_slice.new.self w.1 (subst (λ (m : List ℤ). HoldValues m w.0) c.initial-initial.ensures.value w.2) c.in_ok-states.ensures.items state c.new.ensures.items
    (c.in_ok-latest.ensures ∙ ap (λ (n : ℕ). replicate n None) c.tasks.ensures.value) refl refl
