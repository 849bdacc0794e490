use Rattle.std.proofs.Common.{◌≡◌, ◌∙◌, List, ℕ, get_or, sym, ap, arith}
use Rattle.std.specs.Prelude.{Result, Ok, Err, OnOk}
use Rattle.explore_law.specs.Orders.{Config}
use Rattle.explore_search.specs.Shelf.{nowhere, config}
use Rattle.explore_search.proofs.FlatRows.{part_values, part_lefts, row_is}
use Rattle.explore_search.proofs.Indexing.{config_is}
use Rattle.explore_search.proofs.rows.Rows.read.Goals as goal

on_ok : {T E P Q : Type 0} (r : Result T E) → (P → Q) → OnOk r P → OnOk r Q
on_ok (Ok x) f h = f h
on_ok (Err e) f h = tt

pub overflow_mul-i : goal.overflow_mul-i
overflow_mul-i c = omega (arith, part_values c.self.inside c.args.self.now c.args.i c.self.view_is c.requires c.self.invariant.values, c.len.ensures)

pub read-requires : goal.read-requires
read-requires c = part_values c.self.inside c.args.self.now c.args.i c.self.view_is c.requires c.self.invariant.values

pub overflow_mul-i-2 : goal.overflow_mul-i-2
overflow_mul-i-2 c = omega (arith, part_lefts c.self.inside c.args.self.now c.args.i c.self.view_is c.requires c.self.invariant.lefts, c.len-2.ensures)

pub read-requires-2 : goal.read-requires-2
read-requires-2 c = part_lefts c.self.inside c.args.self.now c.args.i c.self.view_is c.requires c.self.invariant.lefts

pub returns : goal.returns
returns c =
    let p = get_or c.args.self.now.configs c.args.i nowhere in
    let row = row_is c.self.inside c.args.self.now c.args.i c.self.view_is c.requires in
    let a : c.read.new.into.items ≡ p.state = c.in_ok-read.ensures ∙ ap (λ (q : Config). q.state) row in
    on_ok c.read-2.result
    (λ h. sym (config_is p c.read.new.into.items c.read-2.new.into.items (sym a) (sym (h ∙ ap (λ (q : Config). q.left) row))))
    c.read-2.ensures
