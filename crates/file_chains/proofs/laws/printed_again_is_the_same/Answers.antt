use Rattle.std.proofs.Common.{◌∙◌, ap, sym}
use Rattle.txn_text.specs.Canonical.{file_text}
use Rattle.file_chains.proofs.laws.printed_again_is_the_same.Goals as goal

pub returns : goal.returns
returns c input text again p short q =
    q.printed.canonical ∙ ap file_text (c.spells_one.ensures text q.file p.file q.spelled (p.printed.read short)) ∙ sym p.printed.canonical
