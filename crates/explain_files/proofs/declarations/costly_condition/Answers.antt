use Rattle.std.proofs.Common.{◌≡◌, ◌∙◌, ◌+◌, false, map, take, sym, ap, arith}
use Rattle.std.specs.Prelude.{string_bytes}
use Rattle.std.proofs.lemmas.Grind.{common_steps}
use Rattle.std.specs.declared.alloc.Global.{Global}
use Rattle.std.specs.declared.string.String.{String}
use Rattle.txn_programs.specs.declared.ast.Cond.{Cond}
use Rattle.txn_programs.specs.Tree.{condition_of}
use Rattle.txn_programs.specs.Limits.{conditions_fit}
use Rattle.explain_files.proofs.Costly.{is_over}
use Rattle.explain_files.proofs.declarations.costly_condition.Goals as goal

pub returns-then-not-fit_up_to : goal.returns-then-not-fit_up_to
returns-then-not-fit_up_to c =
    let over : conditions_fit (map (λ (a : String Global × Cond). condition_of a.1) (take (c.conditions.number + 1) c.args.always.now)) ≡ false = grind (arith, common_steps) in
    is_over c.args.always.now c.conditions.number c.index-always-number.result c.as_str.result.now c.conditions-test.true c.index-always-number.is
    (c.as_str.ensures.value ∙ ap (λ (a : String Global × Cond). string_bytes a.0) (sym c.index-always-number.is)) c.conditions.invariant over
