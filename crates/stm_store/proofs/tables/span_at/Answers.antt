use Rattle.std.proofs.Common.{◌≡◌, ◌∙◌, ℕ, suc, ◌+◌, ◌-◌, List, map, drop, get_or, sym, ap, arith}
use Rattle.std.specs.Prelude.{sum_by}
use Rattle.txn_programs.specs.Listing.{cells, spans_from}
use Rattle.txn_programs.proofs.Lawful.{limits_parts}
use Rattle.text_line_reader.proofs.Spots.{no_span, sized, room_more}
use Rattle.stm_store.proofs.Spans.{span_behind}
use Rattle.stm_store.proofs.tables.span_at.Goals as goal

pub tables-init : goal.tables-init
tables-init c =
    let l = c.args.catalogue.now in
    let first = c.var_count-first.result in
    let table = c.args.table in
    let same : map sized c.tables-tables.result.now ≡ l.tables = c.tables-tables.ensures in
    let count = c.var_count-first.ensures.value in
    record {
      span = ap (λ (ts : List (List ℕ × ℕ)). get_or (spans_from first ts) table no_span) same ∙ ap (λ k. get_or (spans_from k l.tables) table no_span) count;
      room = ap (λ (ts : List (List ℕ × ℕ)). first + sum_by (λ (t : List ℕ × ℕ). t.1) ts) same ∙ ap (λ k. k + cells l) count;
    }

pub overflow_add-first : goal.overflow_add-first
overflow_add-first c =
    let limits = limits_parts c.args.catalogue.now c.rules.ensures.limits in
    let few = limits.variables in
    let room = limits.cells in
    let all = c.tables.invariant.room in
    let more = room_more c.tables.first c.tables-tables.result.now c.tables.length-index c.tables-item.result c.tables-test.true c.tables-item.is in
    omega (arith, few, room, all, more)

pub tables-preserved : goal.tables-preserved
tables-preserved c =
    let tables = c.tables-tables.result.now in
    let t = c.tables-item.result in
    let before = c.tables.before in
    let next : suc (before - 1) ≡ before = omega arith in
    record {
      span = sym (span_behind c.tables.first tables c.tables.length-index t (before - 1) c.tables-test.true c.tables-item.is)
          ∙ ap (λ n. get_or (spans_from c.tables.first (map sized (drop c.tables.length-index tables))) n no_span) next
          ∙ c.tables.invariant.span;
      room = sym (room_more c.tables.first tables c.tables.length-index t c.tables-test.true c.tables-item.is) ∙ c.tables.invariant.room;
    }

pub returns-then-before-eq0-clause-few : goal.returns-then-before-eq0-clause-few
returns-then-before-eq0-clause-few c =
    let limits = limits_parts c.args.catalogue.now c.rules.ensures.limits in
    let few = limits.variables in
    let room = limits.cells in
    let all = c.tables.invariant.room in
    let more = room_more c.tables.first c.tables-tables.result.now c.tables.length-index c.tables-item.result c.tables-test.true c.tables-item.is in
    omega (arith, few, room, all, more)
