-- A row of which the first bits are set.
use Rattle.std.proofs.Common.{◌≡◌, ◌≢◌, inl, inr, ℕ, ◌-◌, ◌*◌, ◌/◌, ◌%◌, ◌^◌, ◌<◌, ◌≤◌, ◌++◌, ◌∷◌, [], true, false, Bool, List, length, get_or, replicate, refl, sym, ◌∙◌, ap, arith, min}
use Rattle.std.specs.Int.{bit_at, div_ceil}
use Rattle.std.proofs.lemmas.Bool.{cases_eq, cases_lt, true≢false}
use Rattle.std.proofs.lemmas.List.{ext_get_or, get_or_append_left, get_or-append_right, get_or-replicate, get_or_past, length-append, length-replicate}
use Rattle.std.proofs.lemmas.Nat.Bits.{bit_at_ones, bit_at_ones_above}
use Rattle.book_storage.specs.Levels.{has, AreFirst, Covers}
use Rattle.book_storage.specs.SetInside.{flags, AreLevels}
use Rattle.book_storage.proofs.Rows.{has_from, has_not, has_zero}
use Rattle.book_storage.proofs.Flags.{length_flags, flag_at}

has_first : (count : ℕ) (words : List ℕ) → AreFirst count words → (k : ℕ) → k < count → has words k ≡ true
has_first count words first k h =
    let many = min (count - k / 64 * 64) 64 in
    has_from words k (ap (λ x. bit_at x (k % 64)) (first (k / 64)) ∙ bit_at_ones many (k % 64) (omega (arith, h)))

has_past : (count : ℕ) (words : List ℕ) → AreFirst count words → (k : ℕ) → count ≤ k → has words k ≡ false
has_past count words first k h =
    let many = min (count - k / 64 * 64) 64 in
    has_not words k (ap (λ x. bit_at x (k % 64)) (first (k / 64)) ∙ bit_at_ones_above many (k % 64) (omega (arith, h)))

word_first : (count : ℕ) (words : List ℕ) → AreFirst count words → (w : ℕ) → w * 64 < count → get_or words w 0 ≢ 0
word_first count words first w h e =
    let at : w * 64 / 64 ≡ w = omega arith in
    true≢false (sym (has_first count words first (w * 64) h) ∙ has_zero words (w * 64) (ap (λ x. get_or words x 0) at ∙ e))

word_past : (count : ℕ) (words : List ℕ) → AreFirst count words → (w : ℕ) → count ≤ w * 64 → get_or words w 0 ≡ 0
word_past count words first w h =
    let none : min (count - w * 64) 64 ≡ 0 = omega (arith, h) in
    first w ∙ ap (λ m. 2 ^ m - 1) none

covers_first : (count : ℕ) (above below : List ℕ) → AreFirst (div_ceil count 64) above → AreFirst count below → Covers above below
covers_first count above below a b =
    record {
      set = λ w e.
          elim (cases_lt w (div_ceil count 64)) [
            | inl low ↦ word_first count below b w (omega (arith, low))
            | inr high ↦ absurd (true≢false (sym e ∙ has_past (div_ceil count 64) above a w high))
          ];
      clear = λ w e.
          elim (cases_lt w (div_ceil count 64)) [
            | inl low ↦ absurd (true≢false (sym (has_first (div_ceil count 64) above a w low) ∙ e))
            | inr high ↦ word_past count below b w (omega (arith, high))
          ];
    }

-- the row of one word
pub one_first : (count : ℕ) (word : ℕ) → count ≤ 64 → word ≡ 2 ^ count - 1 → AreFirst count (word ∷ [])
one_first count word few e w =
    elim (cases_eq w 0) [
      | inl same ↦
          let all : min (count - w * 64) 64 ≡ count = omega (arith, few, same) in
          ap (λ x. get_or (word ∷ []) x 0) same ∙ (e ∙ sym (ap (λ m. 2 ^ m - 1) all))
      | inr other ↦
          let none : min (count - w * 64) 64 ≡ 0 = omega (arith, few, other) in
          get_or_past (word ∷ []) w 0 (omega (arith, other)) ∙ sym (ap (λ m. 2 ^ m - 1) none)
    ]

-- the set of the first numbers
pub levels_first : (count room : ℕ) (numbers words : List ℕ) (top : ℕ) → count ≤ room → room ≤ 262144 → length numbers ≡ div_ceil count 64 → length words ≡ div_ceil (div_ceil room 64) 64 → AreFirst count numbers → AreFirst (div_ceil count 64) words → AreFirst (div_ceil (div_ceil count 64) 64) (top ∷ []) → AreLevels room numbers words (top ∷ [])
levels_first count room numbers words top low few first second x y z =
    record {
      room_fits = omega (arith, second);
      words_fit = omega (arith, first, second, low);
      top_fits = omega (arith, second, few);
      one = refl;
      spare = λ k past. has_past count numbers x k (omega (arith, low, past));
      over_numbers = covers_first count words numbers y x;
      over_words = covers_first (div_ceil count 64) (top ∷ []) words z y;
    }

pub flags_first : (count room : ℕ) (words : List ℕ) → count ≤ room → AreFirst count words → flags room words ≡ replicate count true ++ replicate (room - count) false
flags_first count room words low first =
    let front = replicate count true in
    let back = replicate (room - count) false in
    let front_length = length-replicate {A = Bool} count true in
    let back_length = length-replicate {A = Bool} (room - count) false in
    ext_get_or false (flags room words) (front ++ back)
    (omega (arith, low, length_flags room words, length-append front back, front_length, back_length))
    (λ j within.
    let inside : j < room = omega (arith, within, length_flags room words) in
    elim (cases_lt j count) [
      | inl here ↦
          flag_at room words j false inside
          ∙ (has_first count words first j here
          ∙ sym (get_or_append_left front back false j (omega (arith, here, front_length)) ∙ get_or-replicate count j true false here))
      | inr past ↦
          flag_at room words j false inside
          ∙ (has_past count words first j past
          ∙ sym (get_or-append_right front back count j false front_length past ∙ get_or-replicate (room - count) (j - count) false false (omega (arith, inside, past))))
    ])
