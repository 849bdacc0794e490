use Rattle.std.proofs.Common.{string_bytes}
use Rattle.explore_runner.specs.FoundText.{waiting_words}
use Rattle.explore_runner.proofs.Pieces.{one_more}
use Rattle.explore_runner.proofs.printer.put_waiting.Goals as goal

pub waiting-preserved : goal.waiting-preserved
waiting-preserved c =
    one_more (waiting_words c.args.catalogue.now c.args.calls.now c.args.waiting.now) c.waiting.k (string_bytes c.args.out.now) (string_bytes c.waiting.out) (string_bytes c.put_count.new.out)
    c.waiting.invariant c.in_ok-put_count.ensures
