use Rattle.std.proofs.Common.{◌≡◌, ◌*◌, get_or, take, drop, sym, ◌∙◌, ap, arith}
use Rattle.std.proofs.lemmas.Bool.{true≢false}
use Rattle.explore_law.specs.Orders.{Config}
use Rattle.explore_search.specs.Packed.{numbers, counts}
use Rattle.explore_search.specs.Shelf.{nowhere}
use Rattle.explore_search.proofs.FlatRows.{part_values, part_lefts, row_is}
use Rattle.explore_search.proofs.Indexing.{config_is}
use Rattle.explore_search.proofs.rows.Rows.is_at.Goals as goal

pub overflow_mul-i : goal.overflow_mul-i
overflow_mul-i c = omega (arith, part_values c.self.inside c.args.self.now c.args.i c.self.view_is c.requires c.self.invariant.values, c.len.ensures)

pub are_at-requires : goal.are_at-requires
are_at-requires c = part_values c.self.inside c.args.self.now c.args.i c.self.view_is c.requires c.self.invariant.values

pub overflow_mul-i-then-are_at : goal.overflow_mul-i-then-are_at
overflow_mul-i-then-are_at c = omega (arith, part_lefts c.self.inside c.args.self.now c.args.i c.self.view_is c.requires c.self.invariant.lefts, c.len-2.ensures)

pub are_at-requires-then-are_at : goal.are_at-requires-then-are_at
are_at-requires-then-are_at c = part_lefts c.self.inside c.args.self.now c.args.i c.self.view_is c.requires c.self.invariant.lefts

pub returns-then-are_at : goal.returns-then-are_at
returns-then-are_at c =
    let p = get_or c.args.self.now.configs c.args.i nowhere in
    let row = row_is c.self.inside c.args.self.now c.args.i c.self.view_is c.requires in
    let a = ap (λ (q : Config). q.state) row in
    let b = ap (λ (q : Config). q.left) row in (
      λ h. config_is p c.args.values.now c.args.left.now (sym a ∙ c.are_at.ensures.0 c.if-are_at.true) (sym b ∙ c.are_at-then-are_at.ensures.0 h),
      λ e. c.are_at-then-are_at.ensures.1 (b ∙ ap (λ (q : Config). q.left) e),
    )

pub returns-else-are_at : goal.returns-else-are_at
returns-else-are_at c =
    let a = ap (λ (q : Config). q.state) (row_is c.self.inside c.args.self.now c.args.i c.self.view_is c.requires) in
    (λ h. absurd (true≢false (sym h ∙ c.if-are_at.false)), λ e. c.are_at.ensures.1 (a ∙ ap (λ (q : Config). q.state) e))
