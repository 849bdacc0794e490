-- The standing conditions are true of every state of the history.
use Rattle.std.proofs.Common.{◌≡◌, ℕ, zero, suc, ◌-◌, ◌<◌, [], length, ap, subst, sym, ◌∙◌, arith}
use Rattle.std.specs.List.{All}
use Rattle.std.proofs.lemmas.Option.{same_Some, slice_get-get_or}
use Rattle.txn_programs.specs.Listing.{Listing, task_program}
use Rattle.txn_programs.specs.Meaning.{after}
use Rattle.txn_programs.specs.Standing.{Upholds}
use Rattle.txn_programs.proofs.Standing.{after_upholds}
use Rattle.txn_words.specs.Words.{state_of}
use Rattle.world_law.specs.World.{World}
use Rattle.world_law.specs.Next.{Reachable}
use Rattle.world_law.proofs.Framed.{IsSound}
use Rattle.world_law.proofs.Kept.{Holds}
use Rattle.world_law.proofs.Reached.{reached_holds}

module _ (k : Listing) (initial : Upholds k k.initial) where
  history_upholds : (w : World) → Holds k w → (n : ℕ) → n < length w.history → Upholds k (state_of w.history n)
  history_upholds w h zero low = subst (Upholds k) (sym h.begins) initial
  history_upholds w h (suc n) low =
      let made = h.made (suc n) (omega arith) low in
      let t = task_program k made.1.task in
      let back : suc n - 1 ≡ n = omega arith in
      let leads = made.3.leads ∙ ap (λ (j : ℕ). after t (state_of w.history j)) back in
      subst (Upholds k) (sym leads) (after_upholds t (state_of w.history n) (history_upholds w h n (omega arith)))

pub reached_upheld : (k : Listing) → IsSound k → Upholds k k.initial → (w : World) → Reachable k w → All (λ m. Upholds k m) w.history
reached_upheld k sound initial w r n d low =
    subst (Upholds k) (same_Some _ _ (sym (slice_get-get_or w.history n [] low) ∙ slice_get-get_or w.history n d low))
    (history_upholds k initial w (reached_holds k sound w r) n low)
