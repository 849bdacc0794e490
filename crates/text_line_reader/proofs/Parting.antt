-- Where bytes are parted, and the lines that they make.
use Rattle.std.proofs.Common.{◌≡◌, ◌∙◌, ℕ, suc, ◌+◌, ◌-◌, ◌<◌, ◌≤◌, Bool, true, false, not, cond, eqb, nat_lt, List, [], ◌∷◌, ◌++◌, length, take, drop, Option, Some, None, Ok, Err, refl, sym, ap, length-drop, arith, inl, inr, Bor}
use Rattle.std.specs.List.{list_all, position, position_or_len}
use Rattle.std.proofs.lemmas.List.{take_all, drop-drop}
use Rattle.std.proofs.lemmas.Bool.{and_parts, eqb-true, ltb-true, lt-ltb}
use Rattle.std.proofs.lemmas.Bool.Decides.{eqb_tells, nat_tests}
use Rattle.std.proofs.lemmas.Option.{same_Some}
use Rattle.text_line_reader.specs.Lines.{Line, Whole, Cut, with_byte, lines, first_line, behind_byte, parted}
use Rattle.text_line_reader.specs.Rows.{end_at}
use Rattle.text_words.specs.declared.fault.ReadFault.TheVariants.{Shape}
use Rattle.text_line_reader.specs.View.{view_parts, view_line}

abbrev is : ℕ → ℕ → Bool
is sep b = eqb b sep

-- the parts round a place
abbrev round : List ℕ → Option ℕ → Option (List ℕ × List ℕ)
round bs None = None
round bs (Some n) = Some (take n bs, drop (n + 1) bs)

at_least : (n m : ℕ) → nat_lt n m ≡ false → m ≤ n
at_least n m h = grind (arith, nat_tests)

not_less : (n m : ℕ) → m ≤ n → nat_lt n m ≡ false
not_less n m h = grind (arith, nat_tests)

later : (b : ℕ) (bs : List ℕ) (n : ℕ) (less : Bool) → nat_lt n (length bs) ≡ less → behind_byte b (round bs (cond less (Some n) None)) ≡ round (b ∷ bs) (cond (nat_lt (1 + n) (length (b ∷ bs))) (Some (1 + n)) None)
later b bs n true e =
    let lt : n < length bs = ltb-true n (length bs) e in
    let next : 1 + n ≡ suc n = omega arith in
    rw (next, lt-ltb (suc n) (suc (length bs)) (omega arith)) (let same : suc n + 1 ≡ suc (n + 1) = omega arith in rw same refl)
later b bs n false e =
    let next : 1 + n ≡ suc n = omega arith in
    let le = at_least n (length bs) e in
    rw (next, not_less (suc n) (suc (length bs)) (omega arith)) refl

pub parted_is : (sep : ℕ) (bs : List ℕ) → parted sep bs ≡ round bs (position (is sep) bs)
unfolding parted
parted_is sep [] = refl
parted_is sep (b ∷ bs) =
    elim (eqb_tells b sep) [
      | inl e ↦ let first : nat_lt 0 (suc (length bs)) ≡ true = lt-ltb 0 (suc (length bs)) (omega arith) in rw (e.0, first) refl
      | inr e ↦ rw e.0 (ap (behind_byte b) (parted_is sep bs) ∙ later b bs (position_or_len (is sep) bs) (nat_lt (position_or_len (is sep) bs) (length bs)) refl)
    ]

pub some_parts : (sep : ℕ) (bs front back : List ℕ) (n : ℕ) → Some n ≡ position (is sep) bs → front ≡ take n bs → back ≡ drop n bs → Some (front, take (length back - 1) (drop 1 back)) ≡ parted sep bs
some_parts sep bs front back n at before after =
    let all : take (length back - 1) (drop 1 back) ≡ drop 1 back = take_all (length back - 1) (drop 1 back) (omega (arith, length-drop 1 back)) in
    let rest : drop 1 back ≡ drop (n + 1) bs = ap (drop 1) after ∙ drop-drop 1 n bs in
    rw (all, rest, before) (ap (round bs) at ∙ sym (parted_is sep bs))

pub no_parts : (sep : ℕ) (bs : List ℕ) → None ≡ position (is sep) bs → None ≡ parted sep bs
no_parts sep bs at = ap (round bs) at ∙ sym (parted_is sep bs)

-- ---- lines

abbrev lined : Option (List ℕ × List ℕ) → Option (List ℕ × List Line)
lined None = None
lined (Some x) = Some (x.0, lines x.1)

abbrev behind : ℕ → Option (List ℕ × List Line) → Option (List ℕ × List Line)
behind b None = None
behind b (Some x) = Some (b ∷ x.0, x.1)

first_behind : (b : ℕ) (ls : List Line) → first_line (with_byte b ls) ≡ behind b (first_line ls)
first_behind b [] = refl
first_behind b (Whole text ∷ ls) = refl
first_behind b (Cut text ∷ ls) = refl

lined_behind : (b : ℕ) (x : Option (List ℕ × List ℕ)) → behind b (lined x) ≡ lined (behind_byte b x)
lined_behind b None = refl
lined_behind b (Some x) = refl

first_line_is : (bs : List ℕ) → first_line (lines bs) ≡ lined (parted 10 bs)
unfolding lines parted
first_line_is [] = refl
first_line_is (b ∷ bs) =
    elim (eqb_tells b 10) [
      | inl e ↦ rw e.0 refl
      | inr e ↦ rw e.0 (first_behind b (lines bs) ∙ ap (behind b) (first_line_is bs) ∙ lined_behind b (parted 10 bs))
    ]

view_lined : (r : Option (Bor (List ℕ) × Bor (List ℕ))) → view_line r ≡ lined (view_parts r)
view_lined None = refl
view_lined (Some x) = refl

pub line_parted : (r : Option (Bor (List ℕ) × Bor (List ℕ))) (bs : List ℕ) → view_parts r ≡ parted 10 bs → view_line r ≡ first_line (lines bs)
line_parted r bs e = view_lined r ∙ ap lined e ∙ sym (first_line_is bs)

-- ---- what stands round the first such byte

in_front : (b sep : ℕ) (bs : List ℕ) (p : Option (List ℕ × List ℕ)) (x : List ℕ × List ℕ) → ((y : List ℕ × List ℕ) → p ≡ Some y → bs ≡ y.0 ++ sep ∷ y.1) → behind_byte b p ≡ Some x → b ∷ bs ≡ x.0 ++ sep ∷ x.1
in_front b sep bs None x h e = absurd cc
in_front b sep bs (Some y) x h e = ap (λ (zs : List ℕ). b ∷ zs) (h y refl) ∙ ap (λ (z : List ℕ × List ℕ). z.0 ++ sep ∷ z.1) (same_Some _ _ e)

pub parted_takes : (sep : ℕ) (bs : List ℕ) (x : List ℕ × List ℕ) → parted sep bs ≡ Some x → bs ≡ x.0 ++ sep ∷ x.1
unfolding parted
parted_takes sep [] x e = absurd cc
parted_takes sep (b ∷ bs) x e =
    elim (eqb_tells b sep) [
      | inl h ↦ let s : Some ([], bs) ≡ Some x = rw h.0 at e in
          ap (λ (c : ℕ). c ∷ bs) h.1 ∙ ap (λ (z : List ℕ × List ℕ). z.0 ++ sep ∷ z.1) (same_Some _ _ s)
      | inr h ↦ let s : behind_byte b (parted sep bs) ≡ Some x = rw h.0 at e in
          in_front b sep bs (parted sep bs) x (parted_takes sep bs) s
    ]

-- no such byte
abbrev pub lacks : ℕ → List ℕ → Bool
lacks sep bs = list_all (λ b. not (eqb b sep)) bs

not_true : (b : Bool) → not b ≡ true → b ≡ false
not_true true h = absurd cc
not_true false h = refl

pub parted_again : (sep : ℕ) (front back : List ℕ) → lacks sep front ≡ true → parted sep (front ++ sep ∷ back) ≡ Some (front, back)
unfolding parted
parted_again sep [] back h = let e : eqb sep sep ≡ true = elim (eqb_tells sep sep) [ inl p ↦ p.0 | inr p ↦ absurd (p.1 refl) ] in rw e refl
parted_again sep (b ∷ front) back h =
    let p = and_parts (not (eqb b sep)) (lacks sep front) h in
    rw (not_true (eqb b sep) p.0, parted_again sep front back p.1) refl

-- ---- lines again

-- the bytes of lines
abbrev pub bytes_of : List Line → List ℕ
bytes_of [] = []
bytes_of (Whole text ∷ ls) = text ++ 10 ∷ bytes_of ls
bytes_of (Cut text ∷ ls) = text ++ bytes_of ls

bytes_behind : (b : ℕ) (ls : List Line) → bytes_of (with_byte b ls) ≡ b ∷ bytes_of ls
bytes_behind b [] = refl
bytes_behind b (Whole text ∷ ls) = refl
bytes_behind b (Cut text ∷ ls) = refl

pub bytes_lines : (bs : List ℕ) → bytes_of (lines bs) ≡ bs
unfolding lines
bytes_lines [] = refl
bytes_lines (b ∷ bs) =
    elim (eqb_tells b 10) [
      | inl e ↦ rw e.0 (ap (λ (zs : List ℕ). 10 ∷ zs) (bytes_lines bs) ∙ ap (λ (c : ℕ). c ∷ bs) (sym e.1))
      | inr e ↦ rw e.0 (bytes_behind b (lines bs) ∙ ap (λ (zs : List ℕ). b ∷ zs) (bytes_lines bs))
    ]

pub lines_text : (text bs : List ℕ) → lacks 10 text ≡ true → lines (text ++ 10 ∷ bs) ≡ Whole text ∷ lines bs
unfolding lines
lines_text [] bs h = refl
lines_text (b ∷ text) bs h =
    let p = and_parts (not (eqb b 10)) (lacks 10 text) h in
    rw (not_true (eqb b 10) p.0, lines_text text bs p.1) refl

pub lines_nil : lines [] ≡ []
unfolding lines
lines_nil = refl

no_front : (b : ℕ) (ls : List Line) → with_byte b ls ≡ [] → ⊥
no_front b [] e = cc
no_front b (Whole text ∷ ls) e = cc
no_front b (Cut text ∷ ls) e = cc

pub nothing_left : (bs : List ℕ) → lines bs ≡ [] → bs ≡ []
nothing_left bs e = sym (bytes_lines bs) ∙ ap bytes_of e

pub ended : (bs : List ℕ) → eqb (length bs) 0 ≡ true → end_at (lines bs) ≡ Ok tt
unfolding end_at lines
ended [] h = refl
ended (b ∷ bs) h = absurd (omega (arith, eqb-true (suc (length bs)) 0 h))

goes_on : (ls : List Line) → (ls ≡ [] → ⊥) → end_at ls ≡ Err Shape
unfolding end_at
goes_on [] h = absurd (h refl)
goes_on (l ∷ ls) h = refl

pub not_ended : (bs : List ℕ) → eqb (length bs) 0 ≡ false → end_at (lines bs) ≡ Err Shape
not_ended bs h = goes_on (lines bs) (λ e. absurd (let none : length bs ≡ 0 = ap length (nothing_left bs e) in let some : eqb (length bs) 0 ≡ true = rw none refl in cc))
