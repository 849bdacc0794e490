use Rattle.std.proofs.Common.{subst, sym}
use Rattle.explain_files.specs.Telling.{IsInLine}
use Rattle.explain_files.proofs.Heads.{line_at_head}
use Rattle.explain_files.proofs.text.told.Goals as goal

pub returns : goal.returns
returns c =
    line_at_head c.args.bytes.now c.args.refusal.now.place c.args.refusal.now.kind c.position_of-at.result.line c.position_of-at.result.column c.kind_name-kind.result.now c.words-words.result.now c.as_str.result.now _
    c.position_of-at.ensures.line c.position_of-at.ensures.column c.kind_name-kind.ensures c.words-words.ensures (subst IsInLine (sym c.as_str.ensures.value) c.in_ok-found.ensures) c.in_ok-text.ensures
