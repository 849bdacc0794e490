use Rattle.std.proofs.Common.{arith, ap, length, length-drop, length-append, lit<, drop}
use Rattle.std.specs.Fmt.{decimal}
use Rattle.std.proofs.lemmas.Fmt.{length-decimal-le, IsAscii-decimal}
use Rattle.std.proofs.lemmas.Str.{IsUtf8-from_ascii}
use Rattle.text_report_printer.proofs.LineEnds.{before_text}
use Rattle.text_report_printer.proofs.line.LineEnd.number.Goals as goal

pub write_digits-self-inside-requires : goal.write_digits-self-inside-requires
write_digits-self-inside-requires c =
    let i = c.self.inside in
    let short = length-decimal-le 20 c.args.number (lit< tt) (omega arith) (omega arith) in
    let within = c.self.invariant.0 in
    let room = c.requires in
    (omega (arith, ap length c.self.view_is, length-drop i.start i.bytes, c.self.told), omega (arith, c.self.told))

pub invariant_of-self : goal.invariant_of-self
invariant_of-self c =
    let i = c.self.inside in
    let start = c.write_digits-self-inside.ensures.start in
    let within = c.self.invariant.0 in
    (omega arith, before_text _ (decimal c.args.number) (drop i.start i.bytes) c.write_digits-self-inside.ensures.written (IsUtf8-from_ascii _ (IsAscii-decimal c.args.number (omega arith))) c.self.invariant.1)

pub returns-clause-at_most : goal.returns-clause-at_most
returns-clause-at_most c =
    let i = c.self.inside in
    let short = length-decimal-le 20 c.args.number (lit< tt) (omega arith) (omega arith) in
    omega (arith, ap length c.write_digits-self-inside.ensures.written, length-append (decimal c.args.number) (drop i.start i.bytes), ap length c.self.view_is)
