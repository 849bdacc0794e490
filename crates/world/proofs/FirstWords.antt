-- The first words of a world.
use Rattle.std.proofs.Common.{◌≡◌, ℕ, ℤ, zero, suc, ◌*◌, List, [], ◌∷◌, ◌++◌, length, replicate, Option, Some, None, slice_get, refl, sym, ap, ◌∙◌, subst, arith}
use Rattle.std.specs.declared.alloc.Global.{Global}
use Rattle.std.specs.declared.vec.Vec.{Vec}
use Rattle.std.proofs.lemmas.List.{length-replicate}
use Rattle.txn_programs.specs.Listing.{tasks}
use Rattle.world_law.specs.World.{HoldValues, AreBits}
use Rattle.world.specs.declared.trial.Trial.{Trial}
use Rattle.world.specs.declared.scene.Scene.{Scene}
use Rattle.world.specs.Inside.{listing, CommitterKept, Kept}

pub first_more : (m : List ℤ) (rest : List ℕ) (v : ℤ) (bits : ℕ) → HoldValues m rest → AreBits v bits → HoldValues (m ++ v ∷ []) ((rest ++ 0 ∷ []) ++ bits ∷ [])
first_more [] [] v bits h b = (refl, b, tt)
first_more [] (w ∷ rest) v bits h b = absurd h
first_more (x ∷ m) [] v bits h b = absurd h
first_more (x ∷ m) (w ∷ []) v bits h b = absurd h
first_more (x ∷ m) (w ∷ u ∷ rest) v bits h b = (h.0, h.1, first_more m rest v bits h.2 b)

pub many : (m : List ℤ) (words : List ℕ) → HoldValues m words → length words ≡ 2 * length m
many [] [] h = refl
many [] (w ∷ rest) h = absurd h
many (v ∷ m) [] h = absurd h
many (v ∷ m) (w ∷ []) h = absurd h
many (v ∷ m) (w ∷ u ∷ rest) h = omega (arith, many m rest h.2)

nothing : (n a i : ℕ) (o : Option ℕ) → o ≡ None → slice_get (replicate n o) a ≡ Some (Some i) → ⊥
nothing zero a i o e h = absurd (cc)
nothing (suc n) zero i o e h = let s : o ≡ Some i = cc in absurd (cc)
nothing (suc n) (suc a) i o e h = nothing n a i o e h

-- in a scene in which nothing has happened
module _ (c : Scene) (rest : List ℕ) (m : Vec ℤ Global) (words : c.words.items ≡ 0 ∷ rest) (hold : HoldValues (listing c).initial rest) (states : c.states.items ≡ m ∷ []) (items : m.items ≡ (listing c).initial)
    (trials : c.trials.items ≡ []) (latest : c.latest.items ≡ replicate (length (tasks (listing c))) None) (one : c.count ≡ 1) (committer : c.committer ≡ None) where
  none_there : (i : ℕ) (y : Trial) → slice_get c.trials.items i ≡ Some y → ⊥
  none_there i y e = let s : slice_get [] i ≡ Some y = ap (λ (l : List Trial). slice_get l i) (sym trials) ∙ e in absurd (cc)

  first_state : (n : ℕ) (s : Vec ℤ Global) → slice_get (m ∷ []) n ≡ Some s → length s.items ≡ length (listing c).initial
  first_state zero s e = let same : m ≡ s = cc in ap (λ (v : Vec ℤ Global). length v.items) (sym same) ∙ ap length items
  first_state (suc n) s e = absurd (cc)

  size : length c.states.items ≡ 1
  size = ap length states

  pub opening_kept : Kept c
  opening_kept = record {
    wide = omega (arith, ap length words, many (listing c).initial rest hold);
    states = λ n s e. first_state n s (ap (λ (l : List (Vec ℤ Global)). slice_get l n) (sym states) ∙ e);
    count = (omega (arith, one), omega (arith, one, size));
    trials = λ i y e. absurd (none_there i y e);
    tasks = ap length latest ∙ length-replicate (length (tasks (listing c))) None;
    live = λ i y e l. absurd (none_there i y e);
    latest = λ a i e. absurd (nothing (length (tasks (listing c))) a i None refl (ap (λ (l : List (Option ℕ)). slice_get l a) (sym latest) ∙ e));
    last = λ i y e. absurd (none_there i y e);
    whole = λ a i y l e. absurd (none_there i y e);
    committer = subst (CommitterKept c) (sym committer) (one ∙ sym size);
  }
