use Rattle.std.proofs.Common.{◌∙◌, sym}
use Rattle.text_line_reader.proofs.Parting.{ended, not_ended}
use Rattle.text_line_reader.proofs.lines.end.Goals as goal

pub returns-then-is_empty-clause-value : goal.returns-then-is_empty-clause-value
returns-then-is_empty-clause-value c = ended c.args.bytes.now (sym c.is_empty.ensures ∙ c.if-is_empty.true)

pub returns-else-is_empty-clause-value : goal.returns-else-is_empty-clause-value
returns-else-is_empty-clause-value c = not_ended c.args.bytes.now (sym c.is_empty.ensures ∙ c.if-is_empty.false)
