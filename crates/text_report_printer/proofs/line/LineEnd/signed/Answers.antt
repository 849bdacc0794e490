use Rattle.std.proofs.Common.{arith}
use Rattle.text_report_printer.proofs.line.LineEnd.signed.Goals as goal

pub byte-requires-clause-room : goal.byte-requires-clause-room
byte-requires-clause-room c = omega (arith, c.number.ensures.at_most, c.requires.room)

pub returns-then-number-lt0-clause-at_most : goal.returns-then-number-lt0-clause-at_most
returns-then-number-lt0-clause-at_most c = omega (arith, c.byte.ensures.len, c.number.ensures.at_most)
