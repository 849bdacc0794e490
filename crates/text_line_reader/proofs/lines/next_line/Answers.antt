use Rattle.text_line_reader.proofs.Parting.{line_parted}
use Rattle.text_line_reader.proofs.lines.next_line.Goals as goal

pub returns-clause-value : goal.returns-clause-value
returns-clause-value c = line_parted c.part.result c.args.bytes.now c.part.ensures.value
