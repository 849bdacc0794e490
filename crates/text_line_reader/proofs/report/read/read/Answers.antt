use Rattle.std.proofs.Common.{◌∙◌}
use Rattle.text_line_reader.specs.Lines.{lines}
use Rattle.text_line_reader.proofs.Counted.{counted}
use Rattle.text_line_reader.proofs.report.read.read.Goals as goal

pub resolved-requires-clause-base : goal.resolved-requires-clause-base
resolved-requires-clause-base c =
    (counted _ c.var_count.result (lines c.args.bytes.now) c.in_ok-raw.raw c.in_ok-raw.ensures).0 ∙ c.var_count.ensures.value

pub resolved-requires-clause-current : goal.resolved-requires-clause-current
resolved-requires-clause-current c =
    (counted _ c.var_count.result (lines c.args.bytes.now) c.in_ok-raw.raw c.in_ok-raw.ensures).1 ∙ c.var_count.ensures.value
