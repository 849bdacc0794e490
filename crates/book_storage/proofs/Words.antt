-- The lowest word that has a bit tells the lowest numbers of a set.
use Rattle.std.proofs.Common.{◌≡◌, inl, inr, ℕ, ◌+◌, ◌*◌, ◌/◌, ◌%◌, ◌<◌, ◌≤◌, true, false, List, Some, get_or, sym, ◌∙◌, ap, arith}
use Rattle.std.specs.Int.{bit_at}
use Rattle.std.proofs.lemmas.Bool.{cases_lt, true≢false}
use Rattle.std.proofs.lemmas.Nat.{div-mul-add, mod-mul-add, div-add-mod'}
use Rattle.book_storage.specs.Levels.{has, IsFirstWord}
use Rattle.book_storage.specs.SetInside.{flags}
use Rattle.book_storage.specs.Members.{IsLowestWord}
use Rattle.book_storage.proofs.Rows.{has_from, has_bit, has_zero}
use Rattle.book_storage.proofs.Flags.{flag_get, set_at}

-- bit i of word w is that of a number
word_bit : (numbers : List ℕ) (w i : ℕ) → i < 64 → bit_at (get_or numbers ((w * 64 + i) / 64) 0) ((w * 64 + i) % 64) ≡ bit_at (get_or numbers w 0) i
word_bit numbers w i low =
    ap (λ (x : ℕ). bit_at (get_or numbers x 0) ((w * 64 + i) % 64)) (div-mul-add w 64 i low) ∙ ap (bit_at (get_or numbers w 0)) (mod-mul-add w 64 i low)

pub lowest_word : (room : ℕ) (numbers : List ℕ) (w : ℕ) → ((j : ℕ) → room ≤ j → has numbers j ≡ false) → IsFirstWord numbers w → IsLowestWord (flags room numbers) (w * 64) (get_or numbers w 0)
lowest_word room numbers w spare first =
    record {
      whole = omega arith;
      some = first.here;
      bits = λ i low. (
        λ e.
            let here : has numbers (w * 64 + i) ≡ true = has_from numbers (w * 64 + i) (word_bit numbers w i low ∙ e) in
            elim (cases_lt (w * 64 + i) room) [
              | inl inside ↦ flag_get room numbers (w * 64 + i) inside ∙ ap Some here
              | inr past ↦ absurd (true≢false (sym here ∙ spare (w * 64 + i) past))
            ],
        λ e. sym (word_bit numbers w i low) ∙ has_bit numbers (w * 64 + i) (set_at room numbers (w * 64 + i) e),
      );
      before = λ k less e.
          let split : k / 64 * 64 + k % 64 ≡ k = div-add-mod' k 64 in
          let lower : k / 64 < w = omega (arith, split, less) in
          true≢false (sym (set_at room numbers k e) ∙ has_zero numbers k (first.before (k / 64) lower));
    }
