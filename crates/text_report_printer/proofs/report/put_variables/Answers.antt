use Rattle.std.proofs.Common.{◌∙◌, Some, [], ap, string_bytes, sym, pos, ℤ, ℕ, arith}
use Rattle.std.specs.Prelude.{FitsSigned}
use Rattle.std.specs.Int.{w64}
use Rattle.std.proofs.lemmas.List.Elements.{All-more}
use Rattle.std.proofs.lemmas.Option.{slice_get-get_or}
use Rattle.text_report_printer.proofs.Lines.{lines_more}
use Rattle.text_report_printer.proofs.report.put_variables.Goals as goal

pub vars-preserved : goal.vars-preserved
vars-preserved c =
    record {
      text = lines_more c.args.catalogue.now.names c.args.vars.now c.vars.i c.variable_name.result.now (pos 0, 0)
          (string_bytes c.args.out.now) (string_bytes c.vars.out) (string_bytes c.put_variable.new.out)
          c.vars-test.true (slice_get-get_or c.args.catalogue.now.names c.vars.i [] (omega (arith, c.vars-test.true, c.requires.named)) ∙ ap Some (sym c.variable_name.ensures.value)) c.vars.invariant.text c.in_ok-put_variable.ensures.text;
      fits = All-more (λ (v : ℤ × ℕ). FitsSigned w64 v.0) c.args.vars.now c.vars.i (pos 0, 0) c.vars-test.true c.vars.invariant.fits c.in_ok-put_variable.ensures.fits;
      len = omega (arith, c.vars.invariant.len, c.in_ok-put_variable.ensures.len);
      capacity = omega (arith, c.vars.invariant.capacity, c.put_variable.ensures.capacity);
    }
