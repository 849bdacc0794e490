use Rattle.std.proofs.Common.{[], arith}
use Rattle.explore_search.specs.Packed.{numbers, counts}
use Rattle.explore_search.proofs.FlatRows.{count_is, kept_values, kept_both, pushed, on_err}
use Rattle.explore_search.proofs.rows.Rows.push.Goals as goal

pub returns-in_err-replace_end-clause-refused : goal.returns-in_err-replace_end-clause-refused
returns-in_err-replace_end-clause-refused c =
    let i = c.self.invariant in
    on_err c.from_residual.result (kept_values c.self.inside c.args.self.now (numbers c.replace_end.new.self) [] c.self.view_is i.values i.lefts c.in_err-replace_end.ensures.refused)

pub returns-in_err-replace_end-2-clause-refused : goal.returns-in_err-replace_end-2-clause-refused
returns-in_err-replace_end-2-clause-refused c =
    let i = c.self.invariant in
    on_err c.from_residual-in_err-replace_end-2.result
    (kept_both c.self.inside c.args.self.now (numbers c.replace_end.new.self) c.args.values.now (counts c.replace_end-2.new.self) [] c.self.view_is i.values i.lefts c.in_ok-replace_end.ensures.ok c.in_err-replace_end-2.ensures.refused)

pub overflow_add-self : goal.overflow_add-self
overflow_add-self c = omega (arith, count_is c.self.inside c.args.self.now c.self.view_is, c.requires.room)

pub returns-clause-added : goal.returns-clause-added
returns-clause-added c =
    let i = c.self.invariant in
    pushed c.self.inside c.args.self.now (numbers c.replace_end.new.self) c.args.values.now (counts c.replace_end-2.new.self) c.args.left.now c.self.view_is i.values i.lefts c.in_ok-replace_end.ensures.ok c.in_ok-replace_end-2.ensures.ok c.requires.variables c.requires.counts
