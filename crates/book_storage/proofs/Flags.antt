-- The flags that a row of bits shows.
use Rattle.std.proofs.Common.{◌≡◌, ◌≢◌, inl, inr, ℕ, refl, ◌/◌, ◌<◌, ◌≤◌, Bool, true, false, List, Some, length, get_or, set, sym, ◌∙◌, ap, arith}
use Rattle.std.specs.List.{slice_get}
use Rattle.std.proofs.lemmas.Bool.{cases_eq, cases_lt, true≢false}
use Rattle.std.proofs.lemmas.List.{ext_get_or, get_or-set_same, get_or-set_other, length-set, get_or_past}
use Rattle.std.proofs.lemmas.List.FromFn.{length-map-range_with_len, get_or-map-range_with_len}
use Rattle.std.proofs.lemmas.Option.{same_Some, slice_get-get_or, slice_get_within}
use Rattle.book_storage.specs.Levels.{has, with_bit, without_bit, IsFirstBit}
use Rattle.book_storage.specs.SetInside.{flags}
use Rattle.book_storage.specs.Members.{IsLowest, HasNone}
use Rattle.book_storage.proofs.Rows.{has_zero, has_with, has_with_other, has_without, has_without_other}

pub length_flags : (room : ℕ) (words : List ℕ) → length (flags room words) ≡ room
length_flags room words = length-map-range_with_len (has words) 0 room

pub flag_at : (room : ℕ) (words : List ℕ) (k : ℕ) (d : Bool) → k < room → get_or (flags room words) k d ≡ has words k
flag_at room words k d h = get_or-map-range_with_len (has words) 0 room k k d h (omega arith)

pub flag_get : (room : ℕ) (words : List ℕ) (k : ℕ) → k < room → slice_get (flags room words) k ≡ Some (has words k)
flag_get room words k h =
    slice_get-get_or (flags room words) k false (omega (arith, h, length_flags room words)) ∙ ap Some (flag_at room words k false h)

-- the flags with one changed, of a row that has this bit so and each other as before
flags_set : (room : ℕ) (old new : List ℕ) (k : ℕ) (b : Bool) → k < room → has new k ≡ b → ((j : ℕ) → j ≢ k → has new j ≡ has old j) → flags room new ≡ set (flags room old) k b
flags_set room old new k b h here other =
    ext_get_or false (flags room new) (set (flags room old) k b)
    (length_flags room new ∙ sym (length-set (flags room old) k b ∙ length_flags room old))
    (λ j low.
    let inside : j < room = omega (arith, low, length_flags room new) in
    elim (cases_eq j k) [
      | inl same ↦
          flag_at room new j false inside
          ∙ (ap (has new) same
          ∙ (here
          ∙ (sym (get_or-set_same (flags room old) k b false (omega (arith, h, length_flags room old)))
          ∙ ap (λ (i : ℕ). get_or (set (flags room old) k b) i false) (sym same))))
      | inr apart ↦
          flag_at room new j false inside
          ∙ (other j apart
          ∙ (sym (flag_at room old j false inside) ∙ sym (get_or-set_other (flags room old) k j b false apart)))
    ])

pub flags_with : (room : ℕ) (words : List ℕ) (k : ℕ) → k < room → k / 64 < length words → flags room (with_bit words k) ≡ set (flags room words) k true
flags_with room words k h low =
    flags_set room words (with_bit words k) k true h (has_with words k low) (λ j other. has_with_other words k j low other)

pub flags_without : (room : ℕ) (words : List ℕ) (k : ℕ) → k < room → k / 64 < length words → flags room (without_bit words k) ≡ set (flags room words) k false
flags_without room words k h low =
    flags_set room words (without_bit words k) k false h (has_without words k low) (λ j other. has_without_other words k j low other)

pub set_at : (room : ℕ) (words : List ℕ) (k : ℕ) → slice_get (flags room words) k ≡ Some true → has words k ≡ true
set_at room words k e =
    let h : k < room = omega (arith, slice_get_within (flags room words) k true e, length_flags room words) in
    same_Some _ _ (sym (flag_get room words k h) ∙ e)

-- no flag is set, or the first bit is the lowest number
pub has_none : (room : ℕ) (words : List ℕ) → ((k : ℕ) → has words k ≡ false) → HasNone (flags room words)
has_none room words none k e = true≢false (sym (set_at room words k e) ∙ none k)

pub is_lowest : (room : ℕ) (words : List ℕ) (k : ℕ) → ((j : ℕ) → room ≤ j → has words j ≡ false) → IsFirstBit words k → IsLowest (flags room words) k
is_lowest room words k spare first =
    elim (cases_lt k room) [
      | inl inside ↦ (
        flag_get room words k inside ∙ ap Some first.here,
        λ j less e. true≢false (sym (set_at room words j e) ∙ first.before j less),
      )
      | inr past ↦ absurd (true≢false (sym first.here ∙ spare k past))
    ]

pub flags_alike : (room : ℕ) (v w : List ℕ) → ((k : ℕ) → has v k ≡ has w k) → flags room v ≡ flags room w
flags_alike room v w same =
    ext_get_or false (flags room v) (flags room w) (length_flags room v ∙ sym (length_flags room w))
    (λ j low.
    let inside : j < room = omega (arith, low, length_flags room v) in
    flag_at room v j false inside ∙ (same j ∙ sym (flag_at room w j false inside)))

-- what lies past the words is not in the set
pub past_words : (words : List ℕ) (k : ℕ) → length words ≤ k / 64 → has words k ≡ false
past_words words k past = has_zero words k (get_or_past words (k / 64) 0 past)

pub flags_unset : (room : ℕ) (words : List ℕ) (k : ℕ) → k < room → length words ≤ k / 64 → flags room words ≡ set (flags room words) k false
flags_unset room words k h past = flags_set room words words k false h (past_words words k past) (λ j other. refl)
