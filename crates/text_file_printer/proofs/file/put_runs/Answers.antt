use Rattle.std.proofs.Common.{◌≡◌, ◌∙◌, ◌<◌, ℕ, List, length, get_or, map, Some, ap, sym, string_bytes}
use Rattle.std.specs.List.{slice_get}
use Rattle.std.specs.Option.{option_map}
use Rattle.std.proofs.lemmas.Option.{slice_get-map, slice_get-get_or}
use Rattle.txn_programs.specs.declared.arguments.Call.{Call}
use Rattle.text_file_printer.specs.Canonical.{run_line}
use Rattle.text_file_printer.specs.Fits.{RunFits}
use Rattle.text_grammar.specs.Written.{written_run}
use Rattle.text_words.proofs.Pieces.{piece_more, all_more}
use Rattle.text_file_printer.proofs.Known.{run_callable}
use Rattle.text_file_printer.proofs.file.put_runs.Goals as goal

-- a run of the code is the one at its place in the listing
at_place : (xs runs : List (Call × ℕ)) (i : ℕ) (x : Call × ℕ) → xs ≡ runs → i < length xs → x ≡ get_or xs i x → slice_get runs i ≡ Some x
at_place xs runs i x same lt is =
    ap (λ (ys : List (Call × ℕ)). slice_get ys i) (sym same) ∙ slice_get-get_or xs i x lt ∙ ap (λ (y : Call × ℕ). Some y) (sym is)

pub put_run-requires : goal.put_run-requires
put_run-requires c =
    let l = c.args.catalogue.now in
    let here = at_place c.runs-run-items.result.now l.runs c.runs.run-index c.run-item.result c.runs-run-items.ensures c.runs-test.true c.run-item.is in
    (run_callable l c.runs.run-index c.run-item.result c.rules.ensures.names here).declared

pub runs-preserved : goal.runs-preserved
runs-preserved c =
    let l = c.args.catalogue.now in
    let g = written_run l.transactions in
    let i = c.runs.run-index in
    let x = c.run-item.result in
    let here = at_place c.runs-run-items.result.now l.runs i x c.runs-run-items.ensures c.runs-test.true c.run-item.is in
    let at : slice_get (map g l.runs) i ≡ Some (g x) = slice_get-map g l.runs i ∙ ap (option_map g) here in
    record {
      text = piece_more run_line (map g l.runs) i (g x) (string_bytes c.args.out.now) (string_bytes c.runs.out) (string_bytes c.put_run.new.out) at c.runs.invariant.text c.in_ok-put_run.ensures.text;
      fits = all_more RunFits (map g l.runs) i (g x) at c.runs.invariant.fits c.in_ok-put_run.ensures.fits;
    }
