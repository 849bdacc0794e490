-- The three levels, as a number comes and goes.
use Rattle.std.proofs.Common.{◌≡◌, ◌≢◌, inl, inr, ℕ, ◌*◌, ◌/◌, ◌<◌, ◌≤◌, Bool, false, List, length, get_or, sym, ◌∙◌, ap, arith}
use Rattle.std.proofs.lemmas.Bool.{cases_eq}
use Rattle.std.proofs.lemmas.List.{get_or_past}
use Rattle.book_storage.specs.Levels.{has, with_bit, without_bit, IsFirstWord}
use Rattle.book_storage.specs.SetInside.{flags, AreLevels}
use Rattle.book_storage.specs.Members.{HasNone}
use Rattle.book_storage.proofs.Rows.{has_zero, has_alike, has_with_other, has_without, has_without_other, length_with_bit, length_without_bit}
use Rattle.book_storage.proofs.Above.{covers_with, covers_still, covers_without, none_below}
use Rattle.book_storage.proofs.Flags.{length_flags, has_none}

-- a number of the set has its place in each level
pub places : (room : ℕ) (numbers words top : List ℕ) (k : ℕ) → AreLevels room numbers words top → k < room → (k / 64 / 64 < length words) × (k / 64 / 64 / 64 < length top)
places room numbers words top k a h =
    let low : k / 64 / 64 < length words = omega (arith, h, a.room_fits) in
    (low, omega (arith, low, a.top_fits))

pub room_of : (room k : ℕ) (numbers : List ℕ) (set : List Bool) → flags room numbers ≡ set → k < length set → k < room
room_of room k numbers set e h = omega (arith, h, ap length (sym e), length_flags room numbers)

pub levels_with : (room : ℕ) (numbers words top : List ℕ) (k : ℕ) → AreLevels room numbers words top → k < room → k / 64 < length numbers → AreLevels room (with_bit numbers k) (with_bit words (k / 64)) (with_bit top (k / 64 / 64))
levels_with room numbers words top k a h here =
    let at = places room numbers words top k a h in
    record {
      room_fits = omega (arith, a.room_fits, length_with_bit words (k / 64));
      words_fit = omega (arith, a.words_fit, length_with_bit numbers k, length_with_bit words (k / 64));
      top_fits = omega (arith, a.top_fits, length_with_bit words (k / 64), length_with_bit top (k / 64 / 64));
      one = length_with_bit top (k / 64 / 64) ∙ a.one;
      spare = λ j past. has_with_other numbers k j here (λ (e : j ≡ k). omega (arith, e, past, h)) ∙ a.spare j past;
      over_numbers = covers_with words numbers k here at.0 a.over_numbers;
      over_words = covers_with top words (k / 64) at.0 at.1 a.over_words;
    }

spare_without : (room : ℕ) (numbers : List ℕ) (k : ℕ) → k / 64 < length numbers → ((j : ℕ) → room ≤ j → has numbers j ≡ false) → (j : ℕ) → room ≤ j → has (without_bit numbers k) j ≡ false
spare_without room numbers k low spare j past =
    elim (cases_eq j k) [
      | inl same ↦ ap (has (without_bit numbers k)) same ∙ has_without numbers k low
      | inr other ↦ has_without_other numbers k j low other ∙ spare j past
    ]

-- a number goes, and its word is not 0
pub levels_one : (room : ℕ) (numbers words top : List ℕ) (k : ℕ) → AreLevels room numbers words top → k < room → k / 64 < length numbers → get_or (without_bit numbers k) (k / 64) 0 ≢ 0 → AreLevels room (without_bit numbers k) words top
levels_one room numbers words top k a h here left =
    let at = places room numbers words top k a h in
    record {
      room_fits = a.room_fits;
      words_fit = omega (arith, a.words_fit, length_without_bit numbers k);
      top_fits = a.top_fits;
      one = a.one;
      spare = spare_without room numbers k here a.spare;
      over_numbers = covers_still words numbers k here left a.over_numbers;
      over_words = a.over_words;
    }

-- its word is 0, and the word over it is not
pub levels_two : (room : ℕ) (numbers words top : List ℕ) (k : ℕ) → AreLevels room numbers words top → k < room → k / 64 < length numbers → get_or (without_bit numbers k) (k / 64) 0 ≡ 0 → get_or (without_bit words (k / 64)) (k / 64 / 64) 0 ≢ 0 → AreLevels room (without_bit numbers k) (without_bit words (k / 64)) top
levels_two room numbers words top k a h here gone left =
    let at = places room numbers words top k a h in
    record {
      room_fits = omega (arith, a.room_fits, length_without_bit words (k / 64));
      words_fit = omega (arith, a.words_fit, length_without_bit numbers k, length_without_bit words (k / 64));
      top_fits = omega (arith, a.top_fits, length_without_bit words (k / 64));
      one = a.one;
      spare = spare_without room numbers k here a.spare;
      over_numbers = covers_without words numbers k at.0 gone a.over_numbers;
      over_words = covers_still top words (k / 64) at.0 left a.over_words;
    }

-- both are 0
pub levels_three : (room : ℕ) (numbers words top : List ℕ) (k : ℕ) → AreLevels room numbers words top → k < room → k / 64 < length numbers → get_or (without_bit numbers k) (k / 64) 0 ≡ 0 → get_or (without_bit words (k / 64)) (k / 64 / 64) 0 ≡ 0 → AreLevels room (without_bit numbers k) (without_bit words (k / 64)) (without_bit top (k / 64 / 64))
levels_three room numbers words top k a h here gone both =
    let at = places room numbers words top k a h in
    record {
      room_fits = omega (arith, a.room_fits, length_without_bit words (k / 64));
      words_fit = omega (arith, a.words_fit, length_without_bit numbers k, length_without_bit words (k / 64));
      top_fits = omega (arith, a.top_fits, length_without_bit words (k / 64), length_without_bit top (k / 64 / 64));
      one = length_without_bit top (k / 64 / 64) ∙ a.one;
      spare = spare_without room numbers k here a.spare;
      over_numbers = covers_without words numbers k at.0 gone a.over_numbers;
      over_words = covers_without top words (k / 64) at.1 both a.over_words;
    }

-- rows of 0 alone
abbrev pub IsZero : List ℕ → Type 0
IsZero words = (w : ℕ) → get_or words w 0 ≡ 0

pub has_zeros : (words : List ℕ) → IsZero words → (k : ℕ) → has words k ≡ false
has_zeros words z k = has_zero words k (z (k / 64))

-- a row of one word that is 0
pub one_zero : (top : List ℕ) → length top ≡ 1 → get_or top 0 0 ≡ 0 → IsZero top
one_zero top one e w =
    elim (cases_eq w 0) [
      | inl same ↦ ap (λ (x : ℕ). get_or top x 0) same ∙ e
      | inr other ↦ get_or_past top w 0 (omega (arith, one, other))
    ]

-- the one word on top is 0 where the set is empty
pub none_on_top : (room : ℕ) (numbers words top : List ℕ) → AreLevels room numbers words top → get_or top 0 0 ≡ 0 → HasNone (flags room numbers)
none_on_top room numbers words top a e =
    has_none room numbers
    (none_below words numbers a.over_numbers
    (none_below top words a.over_words (has_zeros top (one_zero top a.one e))))

-- the first word of the top
pub first_on_top : (top : List ℕ) → get_or top 0 0 ≢ 0 → IsFirstWord top 0
first_on_top top h = record { here = h; before = λ k less. absurd (omega (arith, less)) }

-- the words of numbers reach further, with no bit more
pub levels_reached : (room : ℕ) (numbers longer words top : List ℕ) → AreLevels room numbers words top → ((w : ℕ) → get_or longer w 0 ≡ get_or numbers w 0) → length longer ≤ length words * 64 → AreLevels room longer words top
levels_reached room numbers longer words top a same fits =
    record {
      room_fits = a.room_fits;
      words_fit = fits;
      top_fits = a.top_fits;
      one = a.one;
      spare = λ k past. has_alike longer numbers same k ∙ a.spare k past;
      over_numbers = record { set = λ w e z. a.over_numbers.set w e (sym (same w) ∙ z); clear = λ w e. same w ∙ a.over_numbers.clear w e };
      over_words = a.over_words;
    }
