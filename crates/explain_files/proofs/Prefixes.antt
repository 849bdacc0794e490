-- The longest run of elements that pass, where not all do.
use Rattle.std.proofs.Common.{◌≡◌, ℕ, suc, ◌+◌, ◌<◌, Bool, true, false, List, [], ◌∷◌, length, take, refl, sym, subst, arith}
use Rattle.std.specs.List.{prefix_len, list_all}
use Rattle.std.proofs.lemmas.List.Sums.{prefix_len_stops}
use Rattle.text_words.specs.Bytes.{is_allowed}
use Rattle.explain_files.specs.Explaining.{IsBadByte}

short_at : (p : ℕ → Bool) (x : ℕ) (xs : List ℕ) (b : Bool) → p x ≡ b → (list_all p xs ≡ false → prefix_len p xs < length xs) → list_all p (x ∷ xs) ≡ false → prefix_len p (x ∷ xs) < length (x ∷ xs)
short_at p x xs false e there h = rw e (omega arith)
short_at p x xs true e there h = let more : list_all p xs ≡ false = rw e at h in let lt = there more in rw e (omega arith)

short : (p : ℕ → Bool) (xs : List ℕ) → list_all p xs ≡ false → prefix_len p xs < length xs
short p [] h = absurd cc
short p (x ∷ xs) h = short_at p x xs (p x) refl (short p xs) h

before_at : (p : ℕ → Bool) (x : ℕ) (xs : List ℕ) (b : Bool) → p x ≡ b → list_all p (take (prefix_len p xs) xs) ≡ true → list_all p (take (prefix_len p (x ∷ xs)) (x ∷ xs)) ≡ true
before_at p x xs false e there = rw e refl
before_at p x xs true e there = let one_more : 1 + prefix_len p xs ≡ suc (prefix_len p xs) = omega arith in rw (e, one_more, e) there

pub before : (p : ℕ → Bool) (xs : List ℕ) → list_all p (take (prefix_len p xs) xs) ≡ true
before p [] = refl
before p (x ∷ xs) = before_at p x xs (p x) refl (before p xs)

bad_at : (bytes : List ℕ) → list_all is_allowed bytes ≡ false → IsBadByte bytes (prefix_len is_allowed bytes)
bad_at bytes h =
    record {
      bound = short is_allowed bytes h;
      before = before is_allowed bytes;
      here = prefix_len_stops is_allowed bytes 0 (short is_allowed bytes h);
    }

pub first_bad : (bytes : List ℕ) (n : ℕ) → n ≡ prefix_len is_allowed bytes → list_all is_allowed bytes ≡ false → IsBadByte bytes n
first_bad bytes n e h = subst (IsBadByte bytes) (sym e) (bad_at bytes h)
