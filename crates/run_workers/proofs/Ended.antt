-- What has ended has an end.
use Rattle.std.proofs.Common.{◌≡◌, true, refl, sym}
use Rattle.std.proofs.lemmas.Bool.{true≢false}
use Rattle.txn_programs.specs.declared.ast.Outcome.{Outcome}
use Rattle.attempt.specs.declared.next.Stand.{Stand}
use Rattle.attempt.specs.declared.next.Stand.TheVariants.{Fresh, Needs, Over, Spent}
use Rattle.run_workers.specs.Over.{is_over}

pub its_end : (s : Stand) → is_over s ≡ true → (o : Outcome) × (s ≡ Over o)
its_end Fresh h = absurd (true≢false (sym h))
its_end (Needs x) h = absurd (true≢false (sym h))
its_end (Over o) h = (o, refl)
its_end Spent h = absurd (true≢false (sym h))
