use Rattle.txn_programs.specs.Told.{base_of, now_of}
use Rattle.txn_programs.proofs.Standing.{replays_uphold}
use Rattle.checker.proofs.laws.lawful_reports_uphold.Goals as goal

pub returns : goal.returns
returns c l r h = (h.upheld, replays_uphold l (base_of r) r.entries (now_of r) h.upheld h.replays)
