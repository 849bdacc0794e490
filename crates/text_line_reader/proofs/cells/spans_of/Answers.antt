use Rattle.std.proofs.Common.{◌≡◌, ◌∙◌, ℕ, ◌+◌, List, map, ap, sym, arith}
use Rattle.std.specs.Prelude.{sum_by}
use Rattle.txn_programs.specs.Listing.{cells, spans_from}
use Rattle.txn_programs.proofs.Lawful.{limits_parts}
use Rattle.text_line_reader.proofs.Spots.{sized, spans_more, room_more, spans_done}
use Rattle.text_line_reader.proofs.cells.spans_of.Goals as goal

pub tables-init : goal.tables-init
tables-init c =
    let l = c.args.catalogue.now in
    let first = c.var_count-first.result in
    let same : map sized c.tables-tables.result.now ≡ l.tables = c.tables-tables.ensures in
    let count = c.var_count-first.ensures.value in
    record {
      made = rw c.in_ok-made.ensures.items (ap (spans_from first) same ∙ ap (λ k. spans_from k l.tables) count);
      room = ap (λ (ts : List (List ℕ × ℕ)). first + sum_by (λ (t : List ℕ × ℕ). t.1) ts) same ∙ ap (λ k. k + cells l) count;
    }

pub overflow_add-first : goal.overflow_add-first
overflow_add-first c =
    let limits = limits_parts c.args.catalogue.now c.rules.ensures.limits in
    let few = limits.variables in
    let room = limits.cells in
    let all = c.tables.invariant.room in
    let more = room_more c.tables.first c.tables-tables.result.now c.tables.length-index c.tables-item.result c.tables-test.true c.tables-item.is in
    omega (arith, few, room, all, more)

pub tables-preserved : goal.tables-preserved
tables-preserved c =
    let tables = c.tables-tables.result.now in
    let t = c.tables-item.result in
    record {
      made = rw c.in_ok-push.ensures.items (spans_more c.tables.made.items c.tables.first tables c.tables.length-index t _ c.tables-test.true c.tables-item.is c.tables.invariant.made);
      room = sym (room_more c.tables.first tables c.tables.length-index t c.tables-test.true c.tables-item.is) ∙ c.tables.invariant.room;
    }

pub returns : goal.returns
returns c = spans_done c.tables.made.items c.tables.first c.tables-tables.result.now c.tables.length-index _ c.tables-test.false c.tables.invariant.made
