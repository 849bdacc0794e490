use Rattle.std.proofs.Common.{◌≡◌, ◌≤◌, ℕ, ℤ, List, length, get_or, Some, ap, subst, arith, pos, string_bytes}
use Rattle.std.specs.Prelude.{codes}
use Rattle.std.specs.List.{slice_get}
use Rattle.text_file_printer.specs.Canonical.{pair_line}
use Rattle.text_file_printer.specs.Fits.{PairFits}
use Rattle.text_grammar.specs.Tree.{Pair}
use Rattle.text_grammar.specs.Written.{written_vars}
use Rattle.text_words.proofs.Pieces.{piece_more, all_more, at_end, all_at_end}
use Rattle.txn_programs.specs.Listing.{Listing, values}
use Rattle.text_file_printer.proofs.Variables.{vars_at, length-vars}
use Rattle.text_file_printer.proofs.file.put_vars.Goals as goal

-- there is a pair for each name
all_written : (l : Listing) (i : ℕ) → values l ≡ length l.initial → length l.names ≤ i → length (written_vars l.names l.initial) ≤ i
all_written l i valued all = omega (arith, valued, length-vars l.names l.initial (omega (arith, valued)))

pub vars-preserved : goal.vars-preserved
vars-preserved c =
    let l = c.args.catalogue.now in
    let begun = c.initial-values.result.now in
    let i = c.vars.i in
    let x : Pair = record { name = c.var_name.result.now; value = get_or begun i (pos 0) } in
    let at : slice_get (written_vars l.names l.initial) i ≡ Some x =
    subst (λ (vs : List ℤ). slice_get (written_vars l.names vs) i ≡ Some x) c.initial-values.ensures.value
    (vars_at l.names begun i c.var_name.result.now (pos 0) (omega (arith, c.var_count-i-end.ensures.value, c.rules.ensures.valued, ap length c.initial-values.ensures.value, c.vars-test.true)) c.var_name.ensures) in
    record {
      text = piece_more (pair_line (codes "var")) (written_vars l.names l.initial) i x (string_bytes c.args.out.now) (string_bytes c.vars.out) (string_bytes c.put_var.new.out) at c.vars.invariant.text c.in_ok-put_var.ensures.text;
      fits = all_more PairFits (written_vars l.names l.initial) i x at c.vars.invariant.fits c.in_ok-put_var.ensures.fits;
    }

pub returns-clause-text : goal.returns-clause-text
returns-clause-text c =
    let l = c.args.catalogue.now in
    at_end (pair_line (codes "var")) (written_vars l.names l.initial) c.vars.i (string_bytes c.args.out.now) (string_bytes c.vars.out)
    (all_written l c.vars.i c.rules.ensures.valued (omega (arith, c.var_count-i-end.ensures.value, c.vars-test.false))) c.vars.invariant.text

pub returns-clause-fits : goal.returns-clause-fits
returns-clause-fits c =
    let l = c.args.catalogue.now in
    all_at_end PairFits (written_vars l.names l.initial) c.vars.i
    (all_written l c.vars.i c.rules.ensures.valued (omega (arith, c.var_count-i-end.ensures.value, c.vars-test.false))) c.vars.invariant.fits
