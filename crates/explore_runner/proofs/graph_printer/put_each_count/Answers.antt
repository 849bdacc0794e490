use Rattle.std.proofs.Common.{string_bytes}
use Rattle.explore_runner.specs.GraphText.{count_row}
use Rattle.explore_runner.proofs.Pieces.{one_more}
use Rattle.explore_runner.proofs.graph_printer.put_each_count.Goals as goal

pub counts-preserved : goal.counts-preserved
counts-preserved c =
    one_more (count_row c.args.catalogue.now c.args.calls.now c.args.word.now c.args.counts.now) c.counts.k (string_bytes c.args.out.now) (string_bytes c.counts.out) (string_bytes c.put_count.new.out)
    c.counts.invariant c.in_ok-put_count.ensures
