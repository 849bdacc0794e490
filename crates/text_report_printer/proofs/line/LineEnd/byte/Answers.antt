use Rattle.std.proofs.Common.{arith, ap, length, length-drop, ◌∷◌, [], drop}
use Rattle.std.proofs.lemmas.Grind.{common_steps}
use Rattle.text_report_printer.proofs.LineEnds.{before_text, ascii_text}
use Rattle.text_report_printer.proofs.line.LineEnd.byte.Goals as goal

pub invariant_of-self : goal.invariant_of-self
invariant_of-self c =
    let i = c.self.inside in
    let within = c.self.invariant.0 in
    (omega arith, before_text _ (c.args.byte ∷ []) (drop i.start i.bytes) (grind (arith, common_steps, c.self.told, length-drop i.start i.bytes, ap length c.self.view_is, c.requires.room)) (ascii_text c.args.byte c.requires.ascii) c.self.invariant.1)
