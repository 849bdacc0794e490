-- All lines of a schedule, and the loop that reads them.
use Rattle.std.proofs.Common.{◌≡◌, ◌∙◌, ℕ, Bool, List, [], ◌∷◌, ◌++◌, map, Some, None, Result, Ok, refl, sym, ap, subst}
use Rattle.std.specs.List.{AllByRecursion}
use Rattle.std.proofs.lemmas.List.{append-nil}
use Rattle.text_words.specs.Answers.{◌>>=◌, Fails}
use Rattle.text_words.specs.declared.fault.ReadFault.{ReadFault}
use Rattle.text_words.proofs.Steps.{bind_ok, done, ok_is}
use Rattle.text_words.proofs.Many.{failed}
use Rattle.text_line_reader.specs.Lines.{Line, Whole, Cut, first_line}
use Rattle.text_line_reader.specs.Rows.{end_at}
use Rattle.text_line_reader.proofs.Each.{joined, each_more, each_fails}
use Rattle.text_line_reader.proofs.Rows.{line_of, first_is}
use Rattle.text_line_reader.proofs.Ends.{end_is}
use Rattle.text_line_reader.specs.ScheduleRaw.{Raw, raw_words, IsRaw}
use Rattle.text_line_reader.specs.ScheduleReading.{move_in, raw_in, raws_at}
use Rattle.text_line_reader.proofs.ScheduleSteps.{move_takes, move_again}

-- ---- the loop

so_far_at : (cells : Bool) (front : List Raw) (ls : List Line) (x : List ℕ × List Line) (total : Result (List Raw) ReadFault) → Some x ≡ first_line ls → joined front (raws_at cells ls) ≡ total → joined front (raws_at cells (Whole x.0 ∷ x.1)) ≡ total
so_far_at cells front ls x total e so_far = ap (λ (us : List Line). joined front (raws_at cells us)) (sym (first_is ls x (sym e))) ∙ so_far

pub raws_more : (cells : Bool) (front : List Raw) (ls : List Line) (x : List ℕ × List Line) (r : Raw) (total : Result (List Raw) ReadFault)
    → Some x ≡ first_line ls → move_in cells x.0 ≡ Ok r → joined front (raws_at cells ls) ≡ total → joined (front ++ r ∷ []) (raws_at cells x.1) ≡ total
raws_more cells front ls x r total e is so_far = each_more (raw_in cells) front (Whole x.0) x.1 r total is (so_far_at cells front ls x total e so_far)

pub raws_fail : (cells : Bool) (f : ReadFault) (front : List Raw) (ls : List Line) (x : List ℕ × List Line) (total : Result (List Raw) ReadFault)
    → Some x ≡ first_line ls → Fails f (move_in cells x.0) → joined front (raws_at cells ls) ≡ total → Fails f total
raws_fail cells f front ls x total e fails so_far = each_fails f (raw_in cells) front (Whole x.0) x.1 total fails (so_far_at cells front ls x total e so_far)

-- the bytes behind the last newline
last_is : (cells : Bool) (front : List Raw) (ls : List Line) → None ≡ first_line ls → (end_at ls >>= λ u. joined front (raws_at cells ls)) ≡ joined front (raws_at cells ls)
unfolding end_at
last_is cells front [] e = refl
last_is cells front (Whole text ∷ ls) e = absurd cc
last_is cells front (Cut text ∷ ls) e = refl

pub raws_stop : (cells : Bool) (f : ReadFault) (front : List Raw) (ls : List Line) (total : Result (List Raw) ReadFault) → None ≡ first_line ls → Fails f (end_at ls) → joined front (raws_at cells ls) ≡ total → Fails f total
raws_stop cells f front ls total e fails so_far = failed f (end_at ls) (λ u. joined front (raws_at cells ls)) total fails (last_is cells front ls e ∙ so_far)

pub raws_done : (cells : Bool) (front : List Raw) (ls : List Line) (u : Unit {0}) (total : Result (List Raw) ReadFault) → end_at ls ≡ Ok u → joined front (raws_at cells ls) ≡ total → total ≡ Ok front
raws_done cells front ls u total e so_far = sym so_far ∙ ap (λ (us : List Line). joined front (raws_at cells us)) (end_is ls u e) ∙ ap done (append-nil front)

-- ---- what is read is written so, and what is written so is read

pub record TakesRaws (cells : Bool) (ls : List Line) (raws : List Raw) : Type 0 where
  pub parts : ls ≡ map (line_of raw_words) raws
  pub are : AllByRecursion (IsRaw cells) raws

one_takes : (cells : Bool) (l : Line) (ls : List Line) (r : Raw) (raws : List Raw) → raw_in cells l ≡ Ok r → TakesRaws cells ls raws → TakesRaws cells (l ∷ ls) (r ∷ raws)
one_takes cells (Whole text) ls r raws e t =
    let a = move_takes cells text r e in
    record { parts = ap (λ (us : List ℕ). Whole us ∷ ls) a.same ∙ ap (λ (us : List Line). line_of raw_words r ∷ us) t.parts; are = (a.is, t.are) }
one_takes cells (Cut text) ls r raws e t = absurd cc

pub raws_take : (cells : Bool) (ls : List Line) (raws : List Raw) → raws_at cells ls ≡ Ok raws → TakesRaws cells ls raws
raws_take cells [] raws e = subst (TakesRaws cells []) (ok_is [] raws e) (record { parts = refl; are = tt })
raws_take cells (l ∷ ls) raws e =
    let a = bind_ok (raw_in cells l) _ raws e in
    let b = bind_ok (raws_at cells ls) _ raws a.2 in
    subst (TakesRaws cells (l ∷ ls)) (ok_is (a.0 ∷ b.0) raws b.2) (one_takes cells l ls a.0 b.0 a.1 (raws_take cells ls b.0 b.1))

pub raws_again : (cells : Bool) (raws : List Raw) → AllByRecursion (IsRaw cells) raws → raws_at cells (map (line_of raw_words) raws) ≡ Ok raws
raws_again cells [] h = refl
raws_again cells (r ∷ raws) h = rw (move_again cells r h.0, raws_again cells raws h.1) refl
