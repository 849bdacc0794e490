use Rattle.std.proofs.Common.{◌<◌, ◌+◌, ◌∙◌, ◌++◌, None, length, drop, get_or, arith, sym, ap}
use Rattle.attempt_writes.specs.FarWrites.{in_lines}
use Rattle.attempt_writes.specs.Known.{Known}
use Rattle.attempt_writes.proofs.SortedLines.{line_here, listed_on}
use Rattle.attempt_writes.proofs.sorted_lines.list_lines.Goals as goal

pub loop-k-preserved : goal.loop-k-preserved
loop-k-preserved c =
    let k = c.loop-k.k in
    let ns = c.args.numbers.now in
    let os = c.args.table.now in
    let i = c.loop-k.invariant in
    let lt : k < length ns = omega (arith, c.loop-k-test.true) in
    let here = line_here ns os k lt c.requires.each in
    let rest = in_lines (drop (k + 1) ns) (drop (k + 1) os) in
    record {
      so_far =
          ap (λ (l : Known). l ++ rest) c.list_line.ensures.items
          ∙ listed_on c.loop-k.pairs.items (get_or ns k 0) (get_or os k None) rest
          ∙ ap (λ (l : Known). c.loop-k.pairs.items ++ l) (sym here) ∙ i.so_far;
      room = omega (arith, i.room, lt, c.list_line.ensures.len, c.list_line.ensures.capacity);
      len = omega (arith, i.len, lt, c.list_line.ensures.len);
      more = omega (arith, i.more, c.list_line.ensures.capacity);
    }
