-- One write of a state.
use Rattle.std.proofs.Common.{◌≡◌, ℕ, ◌<◌, ℤ, List, [], ◌∷◌, length, sym, subst, arith}
use Rattle.txn_words.specs.Stores.{Change, id_of}
use Rattle.cells.specs.Publishing.{AreWrites}

pub one_write : (m : List ℤ) (c : Change) → c.0.0 < length m → AreWrites m (c ∷ [])
one_write m c known =
    let only : List Change = c ∷ [] in
    record {
      exist = λ i within. subst (λ (k : ℕ). id_of only k < length m) (sym (first i within)) known;
      ascend = λ i j less within. absurd (omega (arith, less, within));
    }
  where
    first : (i : ℕ) → i < 1 → i ≡ 0
    first i within = omega (arith, within)
