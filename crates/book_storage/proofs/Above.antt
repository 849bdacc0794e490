-- A row and the row above it, as bits are set and cleared.
use Rattle.std.proofs.Common.{◌≡◌, ◌≢◌, inl, inr, ℕ, ◌/◌, ◌%◌, ◌^◌, ◌<◌, ◌≤◌, false, List, length, get_or, sym, ◌∙◌, ap, subst, arith, w64}
use Rattle.std.specs.Int.{bit_not}
use Rattle.std.proofs.lemmas.Bool.{cases_eq, true≢false}
use Rattle.std.proofs.lemmas.Nat.{and_le_l, le_or_r, pow_pos}
use Rattle.book_storage.specs.Levels.{has, with_bit, without_bit, Covers, IsFirstWord, IsFirstBit}
use Rattle.book_storage.proofs.Rows.{has_zero, has_with, has_with_other, has_without, has_without_other, word_with, word_with_other, word_without, word_without_other}

with_is_not_0 : (words : List ℕ) (k : ℕ) → k / 64 < length words → get_or (with_bit words k) (k / 64) 0 ≢ 0
with_is_not_0 words k h e =
    omega (arith, e, word_with words k h, le_or_r (get_or words (k / 64) 0) (2 ^ (k % 64)), pow_pos (k % 64))

without_is_less : (words : List ℕ) (k : ℕ) → k / 64 < length words → get_or (without_bit words k) (k / 64) 0 ≤ get_or words (k / 64) 0
without_is_less words k h =
    omega (arith, word_without words k h, and_le_l (get_or words (k / 64) 0) (bit_not w64 (2 ^ (k % 64))))

-- a bit is set below, and its word's bit above
pub covers_with : (above below : List ℕ) (k : ℕ) → k / 64 < length below → k / 64 / 64 < length above → Covers above below → Covers (with_bit above (k / 64)) (with_bit below k)
covers_with above below k low high c =
    record {
      set = λ w e.
          elim (cases_eq w (k / 64)) [
            | inl same ↦ subst (λ (x : ℕ). get_or (with_bit below k) x 0 ≢ 0) (sym same) (with_is_not_0 below k low)
            | inr other ↦ λ (z : get_or (with_bit below k) w 0 ≡ 0). c.set w (sym (has_with_other above (k / 64) w high other) ∙ e) (sym (word_with_other below k w other) ∙ z)
          ];
      clear = λ w e.
          elim (cases_eq w (k / 64)) [
            | inl same ↦ absurd (true≢false (sym (has_with above (k / 64) high) ∙ (ap (has (with_bit above (k / 64))) (sym same) ∙ e)))
            | inr other ↦ word_with_other below k w other ∙ c.clear w (sym (has_with_other above (k / 64) w high other) ∙ e)
          ];
    }

-- a bit is cleared below, and its word is not 0
pub covers_still : (above below : List ℕ) (k : ℕ) → k / 64 < length below → get_or (without_bit below k) (k / 64) 0 ≢ 0 → Covers above below → Covers above (without_bit below k)
covers_still above below k low left c =
    record {
      set = λ w e.
          elim (cases_eq w (k / 64)) [
            | inl same ↦ subst (λ (x : ℕ). get_or (without_bit below k) x 0 ≢ 0) (sym same) left
            | inr other ↦ λ (z : get_or (without_bit below k) w 0 ≡ 0). c.set w e (sym (word_without_other below k w other) ∙ z)
          ];
      clear = λ w e.
          elim (cases_eq w (k / 64)) [
            | inl same ↦
                let was : get_or below w 0 ≡ 0 = c.clear w e in
                let here : get_or below (k / 64) 0 ≡ 0 = ap (λ (x : ℕ). get_or below x 0) (sym same) ∙ was in
                absurd (left (omega (arith, here, without_is_less below k low)))
            | inr other ↦ word_without_other below k w other ∙ c.clear w e
          ];
    }

-- a bit is cleared below, its word is 0, and its bit above is cleared
pub covers_without : (above below : List ℕ) (k : ℕ) → k / 64 / 64 < length above → get_or (without_bit below k) (k / 64) 0 ≡ 0 → Covers above below → Covers (without_bit above (k / 64)) (without_bit below k)
covers_without above below k high gone c =
    record {
      set = λ w e.
          elim (cases_eq w (k / 64)) [
            | inl same ↦ absurd (true≢false (sym e ∙ (ap (has (without_bit above (k / 64))) same ∙ has_without above (k / 64) high)))
            | inr other ↦ λ (z : get_or (without_bit below k) w 0 ≡ 0). c.set w (sym (has_without_other above (k / 64) w high other) ∙ e) (sym (word_without_other below k w other) ∙ z)
          ];
      clear = λ w e.
          elim (cases_eq w (k / 64)) [
            | inl same ↦ ap (λ (x : ℕ). get_or (without_bit below k) x 0) same ∙ gone
            | inr other ↦ word_without_other below k w other ∙ c.clear w (sym (has_without_other above (k / 64) w high other) ∙ e)
          ];
    }

-- the first bit above leads to the first word below
pub first_word : (above below : List ℕ) (w : ℕ) → Covers above below → IsFirstBit above w → IsFirstWord below w
first_word above below w c h = record { here = c.set w h.here; before = λ k less. c.clear k (h.before k less) }

-- where no bit is set above, none is below
pub none_below : (above below : List ℕ) → Covers above below → ((w : ℕ) → has above w ≡ false) → (k : ℕ) → has below k ≡ false
none_below above below c none k = has_zero below k (c.clear (k / 64) (none (k / 64)))
