use Rattle.std.proofs.Common.{rules, ◌∙◌, ◌≤◌, length, sym}
use Rattle.commands.proofs.ToLimit.{behind_part, behind_other, is_false, is_true}
use Rattle.commands.proofs.reading.ToLimit.pass.Goals as goal

pub returns-then-ne-clause-counted : goal.returns-then-ne-clause-counted
returns-then-ne-clause-counted g c ys =
    let ahead = c.args.self.now.ahead.now in
    let part = c.args.part.now in
    let fits : length part ≤ length ahead = search rules in
    let other = is_false _ (sym c.ne.ensures ∙ c.if-ne.true) in
    let front = c.split_at.ensures.front in
    let back = c.split_at.ensures.back in
    rw back (behind_other ahead part ys c.args.self.now.short c.args.self.now.long fits (rw front at other))

pub returns-else-ne-clause-counted : goal.returns-else-ne-clause-counted
returns-else-ne-clause-counted g c ys =
    let ahead = c.args.self.now.ahead.now in
    let part = c.args.part.now in
    let fits : length part ≤ length ahead = search rules in
    let comes = is_true _ (sym c.ne.ensures ∙ c.if-ne.false) in
    let front = c.split_at.ensures.front in
    let back = c.split_at.ensures.back in
    rw back (behind_part ahead part ys c.args.self.now.short c.args.self.now.long fits (rw front at comes))
