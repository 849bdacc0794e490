-- An attempt that is finished is let go.
use Rattle.std.proofs.Common.{◌≡◌, ◌≢◌, ℕ, zero, suc, List, [], ◌∷◌, Option, Some, None, set, refl, sym, ap, ◌∙◌, subst, slice_get, inl, inr}
use Rattle.std.proofs.lemmas.Bool.Decides.{eqb_tells}
use Rattle.world_law.specs.declared.events.Event.{Event}
use Rattle.world_law.specs.declared.events.Event.TheVariants as event
use Rattle.world.specs.declared.trial.Trial.{Trial}
use Rattle.world.specs.declared.scene.Scene.{Scene}
use Rattle.world.specs.Trials.{shortened_trial}
use Rattle.world.specs.Inside.{with_trial, concerned, IsFinished, IsShort, IsLetGo}

module _ {X : Type 0} where
  get_set_here : (l : List X) (i : ℕ) (t z : X) → slice_get (set l i t) i ≡ Some z → z ≡ t
  get_set_here [] i t z e = absurd cc
  get_set_here (x ∷ l) zero t z e = cc
  get_set_here (x ∷ l) (suc i) t z e = get_set_here l i t z e

  get_set_other : (l : List X) (i j : ℕ) (t z : X) → j ≢ i → slice_get (set l i t) j ≡ Some z → slice_get l j ≡ Some z
  get_set_other [] i j t z ne e = e
  get_set_other (x ∷ l) zero zero t z ne e = absurd (ne refl)
  get_set_other (x ∷ l) zero (suc j) t z ne e = e
  get_set_other (x ∷ l) (suc i) zero t z ne e = e
  get_set_other (x ∷ l) (suc i) (suc j) t z ne e = get_set_other l i j t z (λ same. ne (ap suc same)) e

short_here : (c : Scene) (i : ℕ) (y : Trial) → IsShort (with_trial c i (shortened_trial y)) i
short_here c i y = λ z at. ap (λ (t : Trial). t.at) (get_set_here c.trials.items i (shortened_trial y) z at)

pub shortened_let_go : (c : Scene) (i : ℕ) (y : Trial) → IsLetGo (with_trial c i (shortened_trial y)) (Some i)
shortened_let_go c i y = λ f. short_here c i y

other_let_go : (c : Scene) (i j : ℕ) (y : Trial) → j ≢ i → IsLetGo c (Some j) → IsLetGo (with_trial c i (shortened_trial y)) (Some j)
other_let_go c i j y ne was = λ f z at.
    let back : (u : Trial) → slice_get (set c.trials.items i (shortened_trial y)) j ≡ Some u → slice_get c.trials.items j ≡ Some u = λ u. get_set_other c.trials.items i j (shortened_trial y) u ne in
    was (f.0, back f.0 f.1, f.2, f.3) z (back z at)

pub others_let_go : (c : Scene) (i : ℕ) (y : Trial) (o : Option ℕ) → IsLetGo c o → IsLetGo (with_trial c i (shortened_trial y)) o
others_let_go c i y None was = tt
others_let_go c i y (Some j) was =
    elim (eqb_tells j i) [
      | inl same ↦ subst (λ (k : ℕ). IsLetGo (with_trial c i (shortened_trial y)) (Some k)) (sym same.1) (shortened_let_go c i y)
      | inr other ↦ other_let_go c i j y other.1 was
    ]

pub still_about : (c : Scene) (i : ℕ) (y : Trial) (e : Event) → concerned (with_trial c i y) e ≡ concerned c e
still_about c i y (event.Begin a) = refl
still_about c i y (event.First a x) = refl
still_about c i y (event.Value a) = refl
still_about c i y (event.Second a) = refl
still_about c i y (event.Ask a) = refl
still_about c i y event.Word = refl
still_about c i y (event.Drop a) = refl
still_about c i y (event.Again a) = refl
