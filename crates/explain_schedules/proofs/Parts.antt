-- Bytes parted, and the words of a line.
use Rattle.std.proofs.Common.{◌≡◌, ◌∙◌, ℕ, ◌+◌, Bool, true, false, not, ◌&&◌, List, [], ◌∷◌, ◌++◌, length, Option, Some, None, refl, sym, ap, subst, inl, inr, append_assoc, length-append, arith, Bor, IfSome}
use Rattle.std.specs.List.{list_all}
use Rattle.std.proofs.lemmas.Bool.{and_from, and_parts}
use Rattle.std.proofs.lemmas.Bool.Decides.{eqb_tells}
use Rattle.std.specs.Prelude.{◌==◌}
use Rattle.std.proofs.lemmas.List.Folds.{list_all-append}
use Rattle.std.proofs.lemmas.Option.{same_Some}
use Rattle.text_line_reader.specs.Lines.{parted, behind_byte}
use Rattle.text_line_reader.specs.View.{view_parts}
use Rattle.text_line_reader.proofs.Parting.{parted_takes, parted_again}
use Rattle.explain_schedules.specs.Words.{behind, behind_len, lacks, IsParted, is_word_byte}

-- ---- round the first such byte

front_lacks : (sep b : ℕ) (p : Option (List ℕ × List ℕ)) (x : List ℕ × List ℕ) → (b ≡ sep → ⊥) → ((y : List ℕ × List ℕ) → p ≡ Some y → lacks sep y.0 ≡ true) → behind_byte b p ≡ Some x → lacks sep x.0 ≡ true
front_lacks sep b None x ne h e = absurd cc
front_lacks sep b (Some y) x ne h e =
    let same = same_Some _ _ e in
    subst (λ (z : List ℕ × List ℕ). lacks sep z.0 ≡ true) same
    (elim (eqb_tells b sep) [
      | inl p ↦ absurd (ne p.1)
      | inr p ↦ and_from _ _ (ap not p.0) (h y refl)
    ])

pub parted_lacks : (sep : ℕ) (bytes : List ℕ) (x : List ℕ × List ℕ) → parted sep bytes ≡ Some x → lacks sep x.0 ≡ true
unfolding parted
parted_lacks sep [] x e = absurd cc
parted_lacks sep (b ∷ bytes) x e =
    elim (eqb_tells b sep) [
      | inl h ↦ let s : Some ([], bytes) ≡ Some x = rw h.0 at e in subst (λ (z : List ℕ × List ℕ). lacks sep z.0 ≡ true) (same_Some _ _ s) refl
      | inr h ↦ let s : behind_byte b (parted sep bytes) ≡ Some x = rw h.0 at e in front_lacks sep b (parted sep bytes) x h.1 (parted_lacks sep bytes) s
    ]

no_behind : (b : ℕ) (p : Option (List ℕ × List ℕ)) → behind_byte b p ≡ None → p ≡ None
no_behind b None e = refl
no_behind b (Some x) e = absurd cc

pub unparted_lacks : (sep : ℕ) (bytes : List ℕ) → parted sep bytes ≡ None → lacks sep bytes ≡ true
unfolding parted
unparted_lacks sep [] e = refl
unparted_lacks sep (b ∷ bytes) e =
    elim (eqb_tells b sep) [
      | inl h ↦ absurd (let s : Some ([], bytes) ≡ None = rw h.0 at e in cc)
      | inr h ↦ let s : behind_byte b (parted sep bytes) ≡ None = rw h.0 at e in and_from _ _ (ap not h.0) (unparted_lacks sep bytes (no_behind b (parted sep bytes) s))
    ]

pub is_parted : (sep : ℕ) (bytes : List ℕ) (x : List ℕ × List ℕ) → Some x ≡ parted sep bytes → IsParted sep bytes x.0 x.1
is_parted sep bytes x e = record { whole = parted_takes sep bytes x (sym e); lacking = parted_lacks sep bytes x (sym e) }

pub some_parted : (sep : ℕ) (bytes : List ℕ) (r : Option (Bor (List ℕ) × Bor (List ℕ))) → view_parts r ≡ parted sep bytes → IfSome r (λ x. IsParted sep bytes x.0.now x.1.now)
some_parted sep bytes None e = tt
some_parted sep bytes (Some x) e = is_parted sep bytes (x.0.now, x.1.now) e

pub none_parts : (sep : ℕ) (bytes : List ℕ) (r : Option (Bor (List ℕ) × Bor (List ℕ))) → view_parts r ≡ parted sep bytes → r ≡ None → lacks sep bytes ≡ true
none_parts sep bytes r e n = unparted_lacks sep bytes (sym e ∙ ap view_parts n)

pub parted_length : (sep : ℕ) (bytes : List ℕ) (r : Option (Bor (List ℕ) × Bor (List ℕ))) → view_parts r ≡ parted sep bytes → IfSome r (λ x. length x.0.now + (1 + length x.1.now) ≡ length bytes)
parted_length sep bytes None e = tt
parted_length sep bytes (Some x) e =
    let p = is_parted sep bytes (x.0.now, x.1.now) e in
    let w = ap length p.whole in
    let a = length-append x.0.now (sep ∷ x.1.now) in
    omega arith

-- what stands before the first such byte is one thing alone
pub same_front : (sep : ℕ) (a b x y : List ℕ) → lacks sep a ≡ true → lacks sep b ≡ true → a ++ sep ∷ x ≡ b ++ sep ∷ y → a ≡ b
same_front sep a b x y la lb e =
    let two : Some (a, x) ≡ Some (b, y) = sym (parted_again sep a x la) ∙ ap (parted sep) e ∙ parted_again sep b y lb in
    ap (λ (z : List ℕ × List ℕ). z.0) (same_Some _ _ two)

-- ---- the first word of bytes

abbrev pub SpaceFirst : List ℕ → Type 0
SpaceFirst [] = Unit {0}
SpaceFirst (b ∷ rest) = b ≡ 32

pub record Split (text : List ℕ) : Type 0 where
  pub word : List ℕ
  pub rest : List ℕ
  pub whole : text ≡ word ++ rest
  pub spaceless : lacks 32 word ≡ true
  pub first : SpaceFirst rest

pub split : (text : List ℕ) → Split text
split [] = record { word = []; rest = []; whole = refl; spaceless = refl; first = tt }
split (b ∷ text) =
    elim (eqb_tells b 32) [
      | inl h ↦ record { word = []; rest = b ∷ text; whole = refl; spaceless = refl; first = h.1 }
      | inr h ↦ let s = split text in record { word = b ∷ s.word; rest = s.rest; whole = ap (λ (t : List ℕ). b ∷ t) s.whole; spaceless = and_from _ _ (ap not h.0) s.spaceless; first = s.first }
    ]

and_no : (b : Bool) → (b && false) ≡ false
and_no true = refl
and_no false = refl

pub has_it : (sep : ℕ) (word more : List ℕ) → lacks sep (word ++ sep ∷ more) ≡ false
has_it sep [] more = elim (eqb_tells sep sep) [ inl p ↦ rw p.0 refl | inr p ↦ absurd (p.1 refl) ]
has_it sep (b ∷ word) more = rw (has_it sep word more) (and_no _)

-- ---- behind words

pub behind_more : (before : List (List ℕ)) (a b : List ℕ) → behind before a ++ b ≡ behind before (a ++ b)
behind_more [] a b = refl
behind_more (word ∷ before) a b = append_assoc word (32 ∷ behind before a) b ∙ ap (λ (t : List ℕ). word ++ 32 ∷ t) (behind_more before a b)

pub behind_whole : (before : List (List ℕ)) (a : List ℕ) → behind before a ≡ behind before [] ++ a
behind_whole before a = sym (behind_more before [] a)

pub behind_length : (before : List (List ℕ)) (a : List ℕ) → length (behind before a) ≡ behind_len before + length a
behind_length before a = ap length (behind_whole before a) ∙ length-append (behind before []) a

pub lacks_parts : (sep : ℕ) (a b : List ℕ) → lacks sep (a ++ b) ≡ true → (lacks sep a ≡ true) × (lacks sep b ≡ true)
lacks_parts sep a b h = and_parts (lacks sep a) (lacks sep b) (sym (list_all-append (λ c. not (c == sep)) a b) ∙ h)

pub lacks_both : (sep : ℕ) (a b : List ℕ) → lacks sep a ≡ true → lacks sep b ≡ true → lacks sep (a ++ b) ≡ true
lacks_both sep a b h k = list_all-append (λ c. not (c == sep)) a b ∙ and_from _ _ h k

-- neither a space nor a newline
word_at : (b : ℕ) → not (b == 32) ≡ true → not (b == 10) ≡ true → is_word_byte b ≡ true
word_at b h k =
    elim (eqb_tells b 32) [
      | inl p ↦ absurd (let q : not true ≡ true = rw p.0 at h in cc)
      | inr p ↦ elim (eqb_tells b 10) [
        | inl q ↦ absurd (let r : not true ≡ true = rw q.0 at k in cc)
        | inr q ↦ rw (p.0, q.0) refl
      ]
    ]

pub word_bytes : (word : List ℕ) → lacks 32 word ≡ true → lacks 10 word ≡ true → list_all is_word_byte word ≡ true
word_bytes [] h k = refl
word_bytes (b ∷ word) h k =
    let p = and_parts (not (b == 32)) (lacks 32 word) h in
    let q = and_parts (not (b == 10)) (lacks 10 word) k in
    and_from _ _ (word_at b p.0 q.0) (word_bytes word p.1 q.1)
