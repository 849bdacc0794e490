use Rattle.std.proofs.Common.{subst, sym}
use Rattle.text_words.specs.Answers.{Gives}
use Rattle.text_line_reader.proofs.ScheduleKnown.{resolved_known, resolved_unknown}
use Rattle.text_line_reader.proofs.schedule.resolve.resolved.Goals as goal

pub returns-then-names_known : goal.returns-then-names_known
returns-then-names_known c =
    subst (Gives (λ x. x.items) c.moves_told.result) (sym (resolved_known c.args.catalogue.now c.args.lines.now c.names_known.result c.names_known.ensures c.if-names_known.true)) c.moves_told.ensures

pub returns : goal.returns
returns c = resolved_unknown c.args.catalogue.now c.args.lines.now c.names_known.result c.names_known.ensures c.if-names_known.false
