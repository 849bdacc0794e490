-- Two texts, line by line.
use Rattle.std.proofs.Common.{◌≡◌, ◌≢◌, ◌∙◌, ℕ, zero, suc, ◌<◌, List, [], ◌∷◌, ◌++◌, Option, Some, None, refl, sym, ap, arith, append_assoc}
use Rattle.std.proofs.lemmas.Option.{same_Some}
use Rattle.text_line_reader.specs.Lines.{Line, Whole, Cut, lines, first_line}
use Rattle.explain_reports.specs.declared.gaps.Difference.{Difference}
use Rattle.explain_reports.specs.declared.gaps.Difference.TheVariants as difference
use Rattle.explain_reports.specs.Explaining.{whole_at}
use Rattle.explain_reports.specs.Gaps.{DifferAt, SameLines, IsDifference}

pub whole_first : (ls : List Line) (text : List ℕ) (more : List Line) → first_line ls ≡ Some (text, more) → ls ≡ Whole text ∷ more
whole_first [] text more e = absurd (cc)
whole_first (Whole t ∷ ls) text more e = ap (λ (x : List ℕ × List Line). Whole x.0 ∷ x.1) (same_Some (t, ls) (text, more) e)
whole_first (Cut t ∷ ls) text more e = absurd (cc)

none_whole : (ls : List Line) → first_line ls ≡ None → (i : ℕ) → whole_at i ls ≡ None
none_whole [] e i = refl
none_whole (Whole t ∷ ls) e i = absurd (cc)
none_whole (Cut t ∷ ls) e i = refl

-- ---- one line more of both, which is the same

same_so_far : (due here more others : List Line) (text : List ℕ) (n : ℕ) → due ≡ Whole text ∷ more → here ≡ Whole text ∷ others
    → ((i : ℕ) → i < n → whole_at i more ≡ whole_at i others) → (i : ℕ) → i < suc n → whole_at i due ≡ whole_at i here
same_so_far due here more others text n d h same zero lt = ap (whole_at zero) d ∙ sym (ap (whole_at zero) h)
same_so_far due here more others text n d h same (suc i) lt = ap (whole_at (suc i)) d ∙ (same i (omega arith) ∙ sym (ap (whole_at (suc i)) h))

pub one_more : (due here more others : List ℕ) (text : List ℕ) → lines due ≡ Whole text ∷ lines more → lines here ≡ Whole text ∷ lines others
    → (d : Difference) → IsDifference more others d → IsDifference due here d
one_more due here more others text a b difference.None same = λ i. same_so_far (lines due) (lines here) (lines more) (lines others) text i a b (λ j lt. same j) i (omega arith)
one_more due here more others text a b (difference.Lines x y) h =
    record {
      place = suc h.place;
      before = same_so_far (lines due) (lines here) (lines more) (lines others) text h.place a b h.before;
      due_is = ap (whole_at (suc h.place)) a ∙ h.due_is;
      here_is = ap (whole_at (suc h.place)) b ∙ h.here_is;
      other = h.other;
    }

-- ---- where they differ, or have ended

pub differ_at_first : (due here : List ℕ) (x y : Option (List ℕ)) → whole_at 0 (lines due) ≡ x → whole_at 0 (lines here) ≡ y → x ≢ y → DifferAt due here x y
differ_at_first due here x y a b other = record { place = 0; before = λ i lt. absurd (omega arith); due_is = a; here_is = b; other = other }

pub whole_at_first : (bytes : List ℕ) (text : List ℕ) (more : List Line) → first_line (lines bytes) ≡ Some (text, more) → whole_at 0 (lines bytes) ≡ Some text
whole_at_first bytes text more e = ap (whole_at 0) (whole_first (lines bytes) text more e)

pub none_at_first : (bytes : List ℕ) → first_line (lines bytes) ≡ None → whole_at 0 (lines bytes) ≡ None
none_at_first bytes e = none_whole (lines bytes) e 0

pub both_ended : (due here : List ℕ) → first_line (lines due) ≡ None → first_line (lines here) ≡ None → SameLines due here
both_ended due here a b i = none_whole (lines due) a i ∙ sym (none_whole (lines here) b i)

-- four parts, put one behind another
pub joined : (a b c d x y z whole : List ℕ) → x ≡ a → y ≡ x ++ b → z ≡ y ++ c → whole ≡ z ++ d → whole ≡ a ++ (b ++ (c ++ d))
joined a b c d x y z whole p q r s =
    s ∙ (ap (λ (t : List ℕ). t ++ d) (r ∙ ap (λ (t : List ℕ). t ++ c) (q ∙ ap (λ (t : List ℕ). t ++ b) p))
    ∙ (append_assoc (a ++ b) c d ∙ append_assoc a b (c ++ d)))
