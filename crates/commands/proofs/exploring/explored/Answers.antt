use Rattle.std.proofs.Common.{inr, sym, subst}
use Rattle.command_line.specs.declared.answer.Answer.{Answer}
use Rattle.explore_runner.specs.Judging.{Judges}
use Rattle.explore_runner.specs.declared.sight.Judged.{Judged}
use Rattle.commands.specs.Exploring.{ExploredBytes, seen}
use Rattle.commands.proofs.exploring.explored.Goals as goal

pub returns-in-Ok-Denied-clause-explored : goal.returns-in-Ok-Denied-clause-explored
returns-in-Ok-Denied-clause-explored g c =
    let bytes = c.args.bytes.now in
    let old = g.S.Sink.bytes c.args.sink.now in
    let new = g.S.Sink.bytes c.judge_bytes.new.sink in
    let told = subst (λ (j : Judged). Judges bytes c.args.limit c.args.denied old new (seen j)) c.in-Ok-Denied.field-0-is c.in-Ok-Denied.ensures.judges in
    subst (λ (a : Answer). ExploredBytes c.args.limit c.args.denied bytes old new a) (sym c.said.ensures) (inr (c.in-Ok-Denied.line, told))
