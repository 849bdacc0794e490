-- One bit of a row is set or cleared, and the first one is found.
use Rattle.std.proofs.Common.{◌≡◌, ◌≢◌, inl, inr, ℕ, ◌+◌, ◌*◌, ◌/◌, ◌%◌, ◌^◌, ◌<◌, true, false, List, length, get_or, set, sym, ◌∙◌, ap, arith, w64}
use Rattle.std.specs.Prelude.{nat_eq, bit_and, bit_or}
use Rattle.std.specs.Int.{bit_at, bit_not, trailing_zeros}
use Rattle.std.proofs.lemmas.Bool.{cases_eq, cases_lt, eq-eqb, ne_eqb, eqb-true}
use Rattle.std.proofs.lemmas.List.{get_or-set_same, get_or-set_other, get_or_past, length-set}
use Rattle.std.proofs.lemmas.Nat.{one_shl, div-add-mod', div-mul-add, mod-mul-add}
use Rattle.std.proofs.lemmas.Nat.Bits.{bit_at-zero, bit_at_set_same, bit_at_set_other, bit_at_clear_same, bit_at_clear_other, bit_at-trailing_zeros, shr_and_one}
use Rattle.book_storage.specs.Levels.{has, with_bit, without_bit, IsFirstWord, IsFirstBit}

pub has_from : (words : List ℕ) (k : ℕ) → bit_at (get_or words (k / 64) 0) (k % 64) ≡ 1 → has words k ≡ true
unfolding has
has_from words k e = eq-eqb _ _ e

pub has_bit : (words : List ℕ) (k : ℕ) → has words k ≡ true → bit_at (get_or words (k / 64) 0) (k % 64) ≡ 1
unfolding has
has_bit words k e = eqb-true _ _ e

pub has_not : (words : List ℕ) (k : ℕ) → bit_at (get_or words (k / 64) 0) (k % 64) ≡ 0 → has words k ≡ false
unfolding has
has_not words k e = ne_eqb _ _ (λ q. omega (arith, e, q))

-- a word that is 0 has no bit
pub has_zero : (words : List ℕ) (k : ℕ) → get_or words (k / 64) 0 ≡ 0 → has words k ≡ false
has_zero words k e = has_not words k (ap (λ x. bit_at x (k % 64)) e ∙ bit_at-zero (k % 64))

has_same : (v w : List ℕ) (j : ℕ) → bit_at (get_or v (j / 64) 0) (j % 64) ≡ bit_at (get_or w (j / 64) 0) (j % 64) → has v j ≡ has w j
unfolding has
has_same v w j e = ap (λ x. nat_eq x 1) e

-- rows of the same words have the same bits
pub has_alike : (v w : List ℕ) → ((j : ℕ) → get_or v j 0 ≡ get_or w j 0) → (k : ℕ) → has v k ≡ has w k
has_alike v w same k = has_same v w k (ap (λ x. bit_at x (k % 64)) (same (k / 64)))

-- 1 << r at 64 bits
shifted : (r : ℕ) → r < 64 → 2 ^ r ≡ 1 * 2 ^ r % 2 ^ 64
shifted r h = sym (one_shl r 64 h)

-- two places in one word are one where they have one bit
one_place : (j k : ℕ) → j / 64 ≡ k / 64 → j % 64 ≡ k % 64 → j ≡ k
one_place j k p q = omega (arith, div-add-mod' j 64, div-add-mod' k 64, p, q)

pub length_with_bit : (words : List ℕ) (k : ℕ) → length (with_bit words k) ≡ length words
unfolding with_bit
length_with_bit words k = length-set words (k / 64) _

pub length_without_bit : (words : List ℕ) (k : ℕ) → length (without_bit words k) ≡ length words
unfolding without_bit
length_without_bit words k = length-set words (k / 64) _

pub word_with : (words : List ℕ) (k : ℕ) → k / 64 < length words → get_or (with_bit words k) (k / 64) 0 ≡ bit_or (get_or words (k / 64) 0) (2 ^ (k % 64))
unfolding with_bit
word_with words k h = get_or-set_same words (k / 64) _ 0 h

pub word_with_other : (words : List ℕ) (k w : ℕ) → w ≢ k / 64 → get_or (with_bit words k) w 0 ≡ get_or words w 0
unfolding with_bit
word_with_other words k w h = get_or-set_other words (k / 64) w _ 0 h

pub word_without : (words : List ℕ) (k : ℕ) → k / 64 < length words → get_or (without_bit words k) (k / 64) 0 ≡ bit_and (get_or words (k / 64) 0) (bit_not w64 (2 ^ (k % 64)))
unfolding without_bit
word_without words k h = get_or-set_same words (k / 64) _ 0 h

pub word_without_other : (words : List ℕ) (k w : ℕ) → w ≢ k / 64 → get_or (without_bit words k) w 0 ≡ get_or words w 0
unfolding without_bit
word_without_other words k w h = get_or-set_other words (k / 64) w _ 0 h

pub has_with : (words : List ℕ) (k : ℕ) → k / 64 < length words → has (with_bit words k) k ≡ true
has_with words k h =
    let r = k % 64 in
    let small : r < 64 = omega arith in
    let word = get_or words (k / 64) 0 in
    let mask : bit_or word (2 ^ r) ≡ bit_or word (1 * 2 ^ r % 2 ^ 64) = ap (bit_or word) (shifted r small) in
    has_from (with_bit words k) k (ap (λ x. bit_at x r) (word_with words k h ∙ mask) ∙ bit_at_set_same w64 word r small)

pub has_with_other : (words : List ℕ) (k j : ℕ) → k / 64 < length words → j ≢ k → has (with_bit words k) j ≡ has words j
has_with_other words k j h other =
    elim (cases_eq (j / 64) (k / 64)) [
      | inr apart ↦ has_same (with_bit words k) words j (ap (λ x. bit_at x (j % 64)) (word_with_other words k (j / 64) apart))
      | inl same ↦
          let r = k % 64 in
          let s = j % 64 in
          let small : r < 64 = omega arith in
          let word = get_or words (k / 64) 0 in
          let mask : bit_or word (2 ^ r) ≡ bit_or word (1 * 2 ^ r % 2 ^ 64) = ap (bit_or word) (shifted r small) in
          let unlike : s ≢ r = λ (e : s ≡ r). other (one_place j k same e) in
          has_same (with_bit words k) words j
          (ap (λ w. bit_at (get_or (with_bit words k) w 0) s) same
          ∙ (ap (λ x. bit_at x s) (word_with words k h ∙ mask)
          ∙ (bit_at_set_other w64 word r small s unlike ∙ ap (λ w. bit_at (get_or words w 0) s) (sym same))))
    ]

pub has_without : (words : List ℕ) (k : ℕ) → k / 64 < length words → has (without_bit words k) k ≡ false
has_without words k h =
    let r = k % 64 in
    let small : r < 64 = omega arith in
    let word = get_or words (k / 64) 0 in
    let mask : bit_and word (bit_not w64 (2 ^ r)) ≡ bit_and word (bit_not w64 (1 * 2 ^ r % 2 ^ 64)) = ap (λ x. bit_and word (bit_not w64 x)) (shifted r small) in
    has_not (without_bit words k) k (ap (λ x. bit_at x r) (word_without words k h ∙ mask) ∙ bit_at_clear_same w64 word r small)

pub has_without_other : (words : List ℕ) (k j : ℕ) → k / 64 < length words → j ≢ k → has (without_bit words k) j ≡ has words j
has_without_other words k j h other =
    elim (cases_eq (j / 64) (k / 64)) [
      | inr apart ↦ has_same (without_bit words k) words j (ap (λ x. bit_at x (j % 64)) (word_without_other words k (j / 64) apart))
      | inl same ↦
          let r = k % 64 in
          let s = j % 64 in
          let small : r < 64 = omega arith in
          let within : s < 64 = omega arith in
          let word = get_or words (k / 64) 0 in
          let mask : bit_and word (bit_not w64 (2 ^ r)) ≡ bit_and word (bit_not w64 (1 * 2 ^ r % 2 ^ 64)) = ap (λ x. bit_and word (bit_not w64 x)) (shifted r small) in
          let unlike : s ≢ r = λ (e : s ≡ r). other (one_place j k same e) in
          has_same (without_bit words k) words j
          (ap (λ w. bit_at (get_or (without_bit words k) w 0) s) same
          ∙ (ap (λ x. bit_at x s) (word_without words k h ∙ mask)
          ∙ (bit_at_clear_other w64 word r small s within unlike ∙ ap (λ w. bit_at (get_or words w 0) s) (sym same))))
    ]

-- what the code computes
pub set_is : (words : List ℕ) (k : ℕ) → set words (k / 64) (bit_or (get_or words (k / 64) 0) (1 * 2 ^ (k % 64) % 2 ^ 64)) ≡ with_bit words k
unfolding with_bit
set_is words k =
    ap (λ x. set words (k / 64) (bit_or (get_or words (k / 64) 0) x)) (sym (shifted (k % 64) (omega arith)))

pub clear_is : (words : List ℕ) (k : ℕ) → set words (k / 64) (bit_and (get_or words (k / 64) 0) (bit_not w64 (1 * 2 ^ (k % 64) % 2 ^ 64))) ≡ without_bit words k
unfolding without_bit
clear_is words k =
    ap (λ x. set words (k / 64) (bit_and (get_or words (k / 64) 0) (bit_not w64 x))) (sym (shifted (k % 64) (omega arith)))

pub has_is : (words : List ℕ) (k : ℕ) → nat_eq (bit_and (get_or words (k / 64) 0 / 2 ^ (k % 64)) 1) 1 ≡ has words k
unfolding has
has_is words k = ap (λ x. nat_eq x 1) (shr_and_one (get_or words (k / 64) 0) (k % 64))

-- a word that is not 0 is one of the words
pub word_within : (words : List ℕ) (w : ℕ) → get_or words w 0 ≢ 0 → w < length words
word_within words w h =
    elim (cases_lt w (length words)) [
      | inl low ↦ low
      | inr high ↦ absurd (h (get_or_past words w 0 high))
    ]

-- the first bit of the first word that is not 0
pub first_bit : (words : List ℕ) (w : ℕ) → IsFirstWord words w → get_or words w 0 < 2 ^ 64 → IsFirstBit words (w * 64 + trailing_zeros w64 (get_or words w 0))
first_bit words w h fits =
    let word = get_or words w 0 in
    let r = trailing_zeros w64 word in
    let here : word ≢ 0 = h.here in
    let lowest = bit_at-trailing_zeros w64 word (omega (arith, here)) fits in
    let small : r < 64 = lowest.0 in
    let row : (w * 64 + r) / 64 ≡ w = div-mul-add w 64 r small in
    let place : (w * 64 + r) % 64 ≡ r = mod-mul-add w 64 r small in
    record {
      here = has_from words (w * 64 + r) (ap (λ x. bit_at (get_or words x 0) ((w * 64 + r) % 64)) row ∙ (ap (bit_at word) place ∙ lowest.1));
      before = λ k below.
          elim (cases_lt (k / 64) w) [
            | inl less ↦ has_zero words k (h.before (k / 64) less)
            | inr more ↦
                let split : k / 64 * 64 + k % 64 ≡ k = div-add-mod' k 64 in
                let same : k / 64 ≡ w = omega (arith, small, split, below, more) in
                has_not words k (ap (λ x. bit_at (get_or words x 0) (k % 64)) same ∙ lowest.2 (k % 64) (omega (arith, split, same, below)))
          ];
    }
