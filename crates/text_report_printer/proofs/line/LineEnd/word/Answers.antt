use Rattle.std.proofs.Common.{arith, ap, length, length-drop, drop}
use Rattle.std.proofs.lemmas.Grind.{common_steps}
use Rattle.text_report_printer.proofs.LineEnds.{before_text}
use Rattle.text_report_printer.proofs.line.LineEnd.word.Goals as goal

pub invariant_of-self : goal.invariant_of-self
invariant_of-self c =
    let i = c.self.inside in
    let within = c.self.invariant.0 in
    (omega arith, before_text _ c.args.word.now (drop i.start i.bytes) (grind (arith, common_steps, c.self.told, length-drop i.start i.bytes, ap length c.self.view_is, c.requires, c.copy_from_slice.ensures.after, c.as_bytes.ensures.value)) c.utf8.word c.self.invariant.1)
