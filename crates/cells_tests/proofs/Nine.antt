-- Nine variables that all get one value.
use Rattle.std.proofs.Common.{◌≡◌, ℕ, zero, suc, ◌<◌, List, [], ◌∷◌, length, ℤ, refl, arith}
use Rattle.txn_words.specs.Stores.{Change, id_of}
use Rattle.cells.specs.Publishing.{AreWrites}
use Rattle.cells_tests.specs.Nine.{nine}

abbrev pub all_nine : ℤ → List Change
all_nine v = (record { 0 = 0 }, v) ∷ (record { 0 = 1 }, v) ∷ (record { 0 = 2 }, v) ∷ (record { 0 = 3 }, v) ∷ (record { 0 = 4 }, v) ∷ (record { 0 = 5 }, v) ∷ (record { 0 = 6 }, v) ∷ (record { 0 = 7 }, v) ∷ (record { 0 = 8 }, v) ∷ []

ids : (v : ℤ) (i : ℕ) → i < length (all_nine v) → id_of (all_nine v) i ≡ i
ids v zero l = refl
ids v (suc zero) l = refl
ids v (suc (suc zero)) l = refl
ids v (suc (suc (suc zero))) l = refl
ids v (suc (suc (suc (suc zero)))) l = refl
ids v (suc (suc (suc (suc (suc zero))))) l = refl
ids v (suc (suc (suc (suc (suc (suc zero)))))) l = refl
ids v (suc (suc (suc (suc (suc (suc (suc zero))))))) l = refl
ids v (suc (suc (suc (suc (suc (suc (suc (suc zero)))))))) l = refl
ids v (suc (suc (suc (suc (suc (suc (suc (suc (suc i))))))))) l = absurd (omega (arith, l))

pub are_nine : (u v : ℤ) → AreWrites (nine u) (all_nine v)
are_nine u v = record {
  exist = λ i l. omega (arith, ids v i l, l);
  ascend = λ i j l m. omega (arith, ids v i (omega (arith, l, m)), ids v j m, l);
}
