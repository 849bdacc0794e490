-- Names and integers are ASCII.
use Rattle.std.proofs.Common.{◌≡◌, ℕ, zero, suc, ◌<◌, Bool, true, false, eqb, leb, ◌&&◌, List, [], ◌∷◌, length, Result, Ok, Err, refl, arith, Bor, inl, inr}
use Rattle.std.specs.Prelude.{IsOk, MatchResult}
use Rattle.std.specs.Str.{IsAscii, IsUtf8}
use Rattle.std.specs.Char.{is_ascii_digit, is_ascii_alphabetic}
use Rattle.std.specs.List.{list_all}
use Rattle.std.proofs.lemmas.Str.{IsUtf8-from_ascii}
use Rattle.std.proofs.lemmas.Bool.{eqb-true, leb-true}
use Rattle.std.proofs.lemmas.Bool.Decides.{eqb_tells}
use Rattle.std.proofs.lemmas.Grind.{common_steps}
use Rattle.txn_programs.specs.Names.{is_name, is_name_byte}
use Rattle.text_words.specs.Bytes.{is_int, is_positive}

pub utf8_ok : {E : Type 0} (bytes : List ℕ) (r : Result (Bor (List ℕ)) E) (X : E → Type 0) → IsAscii bytes → MatchResult r (λ s. (s.now ≡ bytes) × IsUtf8 bytes) (λ e. (IsUtf8 bytes → ⊥) × X e) → IsOk r
utf8_ok bytes (Ok s) X ascii h = refl
utf8_ok bytes (Err e) X ascii h = absurd (h.0 (IsUtf8-from_ascii bytes ascii))

both : (a b : Bool) → (a && b) ≡ true → (a ≡ true) × (b ≡ true)
both true b h = (refl, h)
both false b h = absurd cc

none : IsAscii []
none i = omega arith

one_more : (c : ℕ) (cs : List ℕ) → c < 128 → IsAscii cs → IsAscii (c ∷ cs)
one_more c cs h more zero = h
one_more c cs h more (suc i) = more i

all_ascii : (p : ℕ → Bool) → ((c : ℕ) → p c ≡ true → c < 128) → (cs : List ℕ) → list_all p cs ≡ true → IsAscii cs
all_ascii p low [] h = none
all_ascii p low (c ∷ cs) h = let q = both (p c) (list_all p cs) h in one_more c cs (low c q.0) (all_ascii p low cs q.1)

letter_low : (c : ℕ) → is_ascii_alphabetic c ≡ true → c < 128
letter_low c h = grind (arith, common_steps)

digit_low : (c : ℕ) → is_ascii_digit c ≡ true → c < 128
digit_low c h = grind (arith, common_steps)

name_low : (c : ℕ) → is_name_byte c ≡ true → c < 128
name_low c h = grind (arith, common_steps)

pub name_is_ascii : (text : List ℕ) → is_name text ≡ true → IsAscii text
unfolding is_name
name_is_ascii [] h = none
name_is_ascii (c ∷ cs) h = let q = both (is_ascii_alphabetic c) (list_all is_name_byte cs) h in one_more c cs (letter_low c q.0) (all_ascii is_name_byte name_low cs q.1)

positive_is_ascii : (text : List ℕ) → is_positive text ≡ true → IsAscii text
unfolding is_positive
positive_is_ascii [] h = none
positive_is_ascii (c ∷ cs) h =
    let q = both (leb 49 c && leb c 57) (list_all is_ascii_digit cs) h in
    let high = leb-true c 57 (both (leb 49 c) (leb c 57) q.0).1 in
    one_more c cs (omega arith) (all_ascii is_ascii_digit digit_low cs q.1)

empty_ascii : (cs : List ℕ) → eqb (length cs) 0 ≡ true → IsAscii cs
empty_ascii [] h = none
empty_ascii (c ∷ cs) h = absurd (omega (arith, eqb-true (suc (length cs)) 0 h))

pub int_is_ascii : (text : List ℕ) → is_int text ≡ true → IsAscii text
unfolding is_int
int_is_ascii [] h = none
int_is_ascii (c ∷ cs) h =
    elim (eqb_tells c 48) [
      | inl p ↦ let g : eqb (length cs) 0 ≡ true = rw p.0 at h in one_more c cs (let e = p.1 in omega arith) (empty_ascii cs g)
      | inr p ↦ elim (eqb_tells c 45) [
        | inl q ↦ let g : is_positive cs ≡ true = rw (p.0, q.0) at h in one_more c cs (let e = q.1 in omega arith) (positive_is_ascii cs g)
        | inr q ↦ let g : is_positive (c ∷ cs) ≡ true = rw (p.0, q.0) at h in positive_is_ascii (c ∷ cs) g
      ]
    ]
