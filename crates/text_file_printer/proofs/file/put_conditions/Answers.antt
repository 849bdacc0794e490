use Rattle.std.proofs.Common.{◌≡◌, ◌∙◌, ◌<◌, ℕ, List, length, get_or, map, Some, ap, sym, String, Global, string_bytes}
use Rattle.std.specs.List.{slice_get}
use Rattle.std.specs.Option.{option_map}
use Rattle.std.proofs.lemmas.Option.{slice_get-map, slice_get-get_or}
use Rattle.txn_programs.specs.Tree.{Condition}
use Rattle.txn_programs.specs.declared.ast.Cond.{Cond}
use Rattle.txn_declarations.specs.Conditions.{standing_of}
use Rattle.text_file_printer.specs.Canonical.{always_line}
use Rattle.text_file_printer.specs.Fits.{AlwaysFits}
use Rattle.text_grammar.specs.Written.{scope_of, written_always}
use Rattle.text_words.proofs.Pieces.{piece_more, all_more}
use Rattle.text_file_printer.proofs.Known.{condition_named_at}
use Rattle.text_file_printer.proofs.file.put_conditions.Goals as goal

-- a condition of the code is the one at its place in the listing
at_place : (xs : List (String Global × Cond)) (always : List (List ℕ × Condition)) (i : ℕ) (x : String Global × Cond) → map standing_of xs ≡ always → i < length xs → x ≡ get_or xs i x → slice_get always i ≡ Some (standing_of x)
at_place xs always i x mapped lt is =
    ap (λ (ys : List (List ℕ × Condition)). slice_get ys i) (sym mapped) ∙ slice_get-map standing_of xs i ∙ ap (option_map standing_of) (slice_get-get_or xs i x lt ∙ ap (λ (y : String Global × Cond). Some y) (sym is))

pub put_condition-requires : goal.put_condition-requires
put_condition-requires c =
    let l = c.args.catalogue.now in
    let at = at_place c.always-condition-items.result.now l.always c.conditions.condition-index c.condition-item.result c.always-condition-items.ensures.value c.conditions-test.true c.condition-item.is in
    condition_named_at l c.conditions.condition-index (standing_of c.condition-item.result) c.rules.ensures.names at

pub conditions-preserved : goal.conditions-preserved
conditions-preserved c =
    let l = c.args.catalogue.now in
    let g = written_always (scope_of l) in
    let i = c.conditions.condition-index in
    let x = standing_of c.condition-item.result in
    let here = at_place c.always-condition-items.result.now l.always i c.condition-item.result c.always-condition-items.ensures.value c.conditions-test.true c.condition-item.is in
    let at : slice_get (map g l.always) i ≡ Some (g x) = slice_get-map g l.always i ∙ ap (option_map g) here in
    record {
      text = piece_more always_line (map g l.always) i (g x) (string_bytes c.args.out.now) (string_bytes c.conditions.out) (string_bytes c.put_condition.new.out) at c.conditions.invariant.text c.in_ok-put_condition.ensures.text;
      fits = all_more AlwaysFits (map g l.always) i (g x) at c.conditions.invariant.fits c.in_ok-put_condition.ensures.fits;
    }
