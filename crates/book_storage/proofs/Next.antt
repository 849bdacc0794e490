-- The first bit that is set from a place on.
use Rattle.std.proofs.Common.{◌≡◌, ◌≢◌, inl, inr, ℕ, ◌+◌, ◌-◌, ◌*◌, ◌/◌, ◌%◌, ◌^◌, ◌<◌, ◌≤◌, true, false, Option, Some, None, List, length, get_or, sym, ◌∙◌, ap, arith, w64}
use Rattle.std.specs.Prelude.{MatchOption}
use Rattle.std.specs.Int.{bit_at, trailing_zeros}
use Rattle.std.proofs.lemmas.Bool.{cases_eq, cases_lt, true≢false}
use Rattle.std.proofs.lemmas.Nat.{div-add-mod', div-mul-add, pow-add}
use Rattle.std.proofs.Math.Nat.{div-div-eq-div-mul, div-le_self}
use Rattle.std.proofs.lemmas.List.{get_or_past}
use Rattle.std.proofs.lemmas.Nat.Bits.{bit_at-zero, bit_at_above, bit_at-trailing_zeros}
use Rattle.book_storage.specs.Levels.{has, Covers, IsBareFrom, IsNextBit, HasNoBitFrom}
use Rattle.book_storage.specs.SetInside.{flags}
use Rattle.book_storage.specs.Members.{HasNoneFrom, IsLowestFrom}
use Rattle.book_storage.proofs.Rows.{has_from, has_not, has_zero}
use Rattle.book_storage.proofs.Flags.{flag_get, set_at, past_words}

-- bit i of a word without its lowest s bits
bit_of_rest : (n s i : ℕ) → bit_at (n / 2 ^ s) i ≡ bit_at n (s + i)
bit_of_rest n s i =
    ap (λ (x : ℕ). x % 2) (div-div-eq-div-mul n (2 ^ s) (2 ^ i)) ∙ ap (λ (x : ℕ). n / x % 2) (sym (pow-add 2 s i))

-- a bit of the same word, from a place on, is one of the rest of the word
bit_behind : (words : List ℕ) (bit k : ℕ) → bit ≤ k → k / 64 ≡ bit / 64 → bit_at (get_or words (k / 64) 0) (k % 64) ≡ bit_at (get_or words (bit / 64) 0 / 2 ^ (bit % 64)) (k - bit)
bit_behind words bit k behind same =
    let place : k % 64 ≡ bit % 64 + (k - bit) = omega (arith, div-add-mod' k 64, div-add-mod' bit 64, behind, same) in
    ap (λ (w : ℕ). bit_at (get_or words w 0) (k % 64)) same
    ∙ (ap (bit_at (get_or words (bit / 64) 0)) place ∙ sym (bit_of_rest (get_or words (bit / 64) 0) (bit % 64) (k - bit)))

pub bare_past : (words : List ℕ) (bit : ℕ) → length words ≤ bit / 64 → IsBareFrom words bit
bare_past words bit past =
    let none : get_or words (bit / 64) 0 ≡ 0 = get_or_past words (bit / 64) 0 past in
    omega (arith, none, div-le_self (get_or words (bit / 64) 0) (2 ^ (bit % 64)))

-- no bit of the same word is set behind
bare_at : (words : List ℕ) (bit : ℕ) → IsBareFrom words bit → (k : ℕ) → bit ≤ k → k / 64 ≡ bit / 64 → has words k ≡ false
bare_at words bit none k behind same =
    has_not words k (bit_behind words bit k behind same ∙ (ap (λ (x : ℕ). bit_at x (k - bit)) none ∙ bit_at-zero (k - bit)))

pub next_rest : (words : List ℕ) (bit : ℕ) → get_or words (bit / 64) 0 < 2 ^ 64 → get_or words (bit / 64) 0 / 2 ^ (bit % 64) ≢ 0 → IsNextBit words bit (bit + trailing_zeros w64 (get_or words (bit / 64) 0 / 2 ^ (bit % 64))) × ((bit + trailing_zeros w64 (get_or words (bit / 64) 0 / 2 ^ (bit % 64))) / 64 ≡ bit / 64)
next_rest words bit fits some =
    let word = get_or words (bit / 64) 0 in
    let w = bit / 64 in
    let s = bit % 64 in
    let rest = word / 2 ^ s in
    let r = trailing_zeros w64 rest in
    let lowest = bit_at-trailing_zeros w64 rest (omega (arith, some)) (omega (arith, div-le_self word (2 ^ s), fits)) in
    let found : bit_at word (s + r) ≡ 1 = sym (bit_of_rest word s r) ∙ lowest.1 in
    let small : s + r < 64 =
    elim (cases_lt (s + r) 64) [
      | inl low ↦ low
      | inr high ↦ absurd (omega (arith, found, bit_at_above word 64 (s + r) fits high))
    ] in
    let split : w * 64 + s ≡ bit = div-add-mod' bit 64 in
    let at : bit + r ≡ w * 64 + (s + r) = omega (arith, split) in
    let row : (bit + r) / 64 ≡ w = ap (λ (x : ℕ). x / 64) at ∙ div-mul-add w 64 (s + r) small in (
      record {
        here = has_from words (bit + r) (bit_behind words bit (bit + r) (omega arith) row ∙ (ap (bit_at rest) (omega arith) ∙ lowest.1));
        behind = omega arith;
        before = λ k behind less.
            let same : k / 64 ≡ w = omega (arith, div-add-mod' k 64, split, small, behind, less) in
            has_not words k (bit_behind words bit k behind same ∙ lowest.2 (k - bit) (omega (arith, behind, less)));
      },
      row,
    )

-- where the row above has no bit behind, and the word none, the row has none
pub none_from : (above below : List ℕ) (bit : ℕ) → Covers above below → IsBareFrom below bit → HasNoBitFrom above (bit / 64 + 1) → HasNoBitFrom below bit
none_from above below bit c bare none k behind =
    elim (cases_eq (k / 64) (bit / 64)) [
      | inl same ↦ bare_at below bit bare k behind same
      | inr other ↦ has_zero below k (c.clear (k / 64) (none (k / 64) (omega (arith, other, behind))))
    ]

-- the first bit of the word that the row above tells
pub next_from : (above below : List ℕ) (bit w b : ℕ) → Covers above below → IsBareFrom below bit → IsNextBit above (bit / 64 + 1) w → IsNextBit below (w * 64) b → IsNextBit below bit b
next_from above below bit w b c bare word next =
    record {
      here = next.here;
      behind = omega (arith, next.behind, word.behind);
      before = λ k behind less.
          elim (cases_eq (k / 64) (bit / 64)) [
            | inl same ↦ bare_at below bit bare k behind same
            | inr other ↦
                elim (cases_lt (k / 64) w) [
                  | inl lower ↦ has_zero below k (c.clear (k / 64) (word.before (k / 64) (omega (arith, other, behind)) lower))
                  | inr higher ↦ next.before k (omega (arith, higher)) less
                ]
          ];
    }

-- a word whose bit above is set has a bit
not_bare : (above below : List ℕ) (w : ℕ) → Covers above below → has above w ≡ true → IsBareFrom below (w * 64) → ⊥
not_bare above below w c set bare =
    let row : w * 64 / 64 ≡ w = omega arith in
    let start : w * 64 % 64 ≡ 0 = omega arith in
    let all : get_or below w 0 / 2 ^ 0 ≡ 0 = ap (λ (x : ℕ). get_or below x 0 / 2 ^ 0) (sym row) ∙ (ap (λ (x : ℕ). get_or below (w * 64 / 64) 0 / 2 ^ x) (sym start) ∙ bare) in
    c.set w set (omega (arith, all))

-- so much for a word that the row above tells
pub next_found : (above below : List ℕ) (bit w : ℕ) (found : Option ℕ) → Covers above below → IsBareFrom below bit → IsNextBit above (bit / 64 + 1) w → MatchOption found (IsBareFrom below (w * 64)) (λ b. IsNextBit below (w * 64) b × (b / 64 ≡ w * 64 / 64)) → MatchOption found (HasNoBitFrom below bit) (IsNextBit below bit)
next_found above below bit w None c bare word none = absurd (not_bare above below w c word.here none)
next_found above below bit w (Some b) c bare word next = next_from above below bit w b c bare word next.0

-- the one word on top has no bit behind
pub none_in_one : (top : List ℕ) (bit : ℕ) → length top ≡ 1 → IsBareFrom top bit → HasNoBitFrom top bit
none_in_one top bit one bare k behind =
    elim (cases_eq (k / 64) (bit / 64)) [
      | inl same ↦ bare_at top bit bare k behind same
      | inr other ↦ past_words top k (omega (arith, other, behind, one))
    ]

-- what is so of bits is so of numbers
pub has_none_from : (room : ℕ) (words : List ℕ) (from : ℕ) → HasNoBitFrom words from → HasNoneFrom (flags room words) from
has_none_from room words from none k behind e = true≢false (sym (set_at room words k e) ∙ none k behind)

pub is_lowest_from : (room : ℕ) (words : List ℕ) (from k : ℕ) → ((j : ℕ) → room ≤ j → has words j ≡ false) → IsNextBit words from k → IsLowestFrom (flags room words) from k
is_lowest_from room words from k spare next =
    elim (cases_lt k room) [
      | inl inside ↦
          record {
            here = flag_get room words k inside ∙ ap Some next.here;
            behind = next.behind;
            before = λ j behind less e. true≢false (sym (set_at room words j e) ∙ next.before j behind less);
          }
      | inr past ↦ absurd (true≢false (sym next.here ∙ spare k past))
    ]

pub lowest_found : (room : ℕ) (words : List ℕ) (from : ℕ) (found : Option ℕ) → ((j : ℕ) → room ≤ j → has words j ≡ false) → MatchOption found (HasNoBitFrom words from) (IsNextBit words from) → MatchOption found (HasNoneFrom (flags room words) from) (IsLowestFrom (flags room words) from)
lowest_found room words from None spare none = has_none_from room words from none
lowest_found room words from (Some k) spare next = is_lowest_from room words from k spare next
