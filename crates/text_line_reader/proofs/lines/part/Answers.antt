use Rattle.text_line_reader.proofs.Parting.{some_parts, no_parts}
use Rattle.text_line_reader.proofs.lines.part.Goals as goal

pub returns-in-Some-clause-value : goal.returns-in-Some-clause-value
returns-in-Some-clause-value c =
    some_parts c.args.sep c.args.bytes.now c.split_at.result.0.now c.split_at.result.1.now c.in-Some.place c.in-Some.ensures c.split_at.ensures.front c.split_at.ensures.back

pub returns-in-None-clause-value : goal.returns-in-None-clause-value
returns-in-None-clause-value c = no_parts c.args.sep c.args.bytes.now c.in-None.ensures
