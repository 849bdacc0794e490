use Rattle.std.proofs.Common.{◌≡◌, ◌∙◌, ℕ, ℤ, List, [], ◌∷◌, ◌++◌, Option, length, take, drop, ap, append_assoc, refl, subst}
use Rattle.std.specs.Fmt.{decimal}
use Rattle.txn_programs.specs.Listing.{Listing}
use Rattle.text_words.specs.Words.{line}
use Rattle.text_report_printer.specs.ReportText.{variable_lines, table_lines, value_lines}
use Rattle.text_report_printer.proofs.Lines.{values_put}
use Rattle.runner.specs.Pieces.{Gathers, Breaks}
use Rattle.runner.proofs.Gathering.{breaks_before, gathers_text, gathers_then, map_err, map_ok, on_err, then_breaks}
use Rattle.runner.proofs.pieces.put_values.Goals as goal

-- first a line and those of the variables, and then those of the tables
module _ (l : Listing) (vs front back : List (ℤ × ℕ)) (n : ℕ) (head : List ℕ) (count : n ≡ length l.names) (is_front : front ≡ take n vs) (is_back : back ≡ drop n vs) where
  before_tables : (a b : Option (List ℕ)) (p q r s : List ℕ) → Gathers a p b q [] → r ≡ q ++ head → s ≡ r ++ variable_lines l.names front → Gathers a p b s (head ++ variable_lines l.names front)
  before_tables a b p q r s g put_head put_front =
      let lines = variable_lines l.names front in
      gathers_text a b p q s (head ++ lines) g (put_front ∙ ap (λ (x : List ℕ). x ++ lines) put_head ∙ append_assoc q head lines)

  whole : (head ++ variable_lines l.names front) ++ table_lines l.tables back ≡ head ++ value_lines l vs
  whole = values_put l vs front back head (head ++ variable_lines l.names front) n count is_front is_back refl

  values_gather : (a b c : Option (List ℕ)) (p q r s t : List ℕ) → Gathers a p b q [] → r ≡ q ++ head → s ≡ r ++ variable_lines l.names front → Gathers b s c t (table_lines l.tables back) → Gathers a p c t (head ++ value_lines l vs)
  values_gather a b c p q r s t g put_head put_front h =
      subst (Gathers a p c t) whole (gathers_then a b c p s t (head ++ variable_lines l.names front) (table_lines l.tables back) (before_tables a b p q r s g put_head put_front) h)

  values_break : (a b c : Option (List ℕ)) (p q r s : List ℕ) → Gathers a p b q [] → r ≡ q ++ head → s ≡ r ++ variable_lines l.names front → Breaks b s c (table_lines l.tables back) → Breaks a p c (head ++ value_lines l vs)
  values_break a b c p q r s g put_head put_front h =
      subst (Breaks a p c) whole (then_breaks a b c p s (head ++ variable_lines l.names front) (table_lines l.tables back) (before_tables a b p q r s g put_head put_front) h)

pub returns-in_err-make_room-clause-breaks : goal.returns-in_err-make_room-clause-breaks
returns-in_err-make_room-clause-breaks g c = on_err _ (breaks_before _ _ _ [] _ c.in_err-make_room.ensures.breaks)

pub returns-clause-gathers : goal.returns-clause-gathers
returns-clause-gathers g c =
    map_ok c.put_tables.result (values_gather c.args.catalogue.now c.args.vars.now c.split_at.result.0.now c.split_at.result.1.now c.var_count.result (line (c.args.word.now ∷ decimal c.args.number ∷ []))
    c.var_count.ensures.value c.split_at.ensures.front c.split_at.ensures.back _ _ _ _ _ _ _ _ c.in_ok-make_room.ensures.gathers c.in-Ok.ensures.text c.in-Ok-put_variables.ensures.text) c.put_tables.ensures.gathers

pub returns-clause-breaks : goal.returns-clause-breaks
returns-clause-breaks g c =
    map_err c.put_tables.result (values_break c.args.catalogue.now c.args.vars.now c.split_at.result.0.now c.split_at.result.1.now c.var_count.result (line (c.args.word.now ∷ decimal c.args.number ∷ []))
    c.var_count.ensures.value c.split_at.ensures.front c.split_at.ensures.back _ _ _ _ _ _ _ c.in_ok-make_room.ensures.gathers c.in-Ok.ensures.text c.in-Ok-put_variables.ensures.text) c.put_tables.ensures.breaks
