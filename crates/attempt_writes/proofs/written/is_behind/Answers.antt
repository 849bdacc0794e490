use Rattle.std.proofs.Common.{arith, pos}
use Rattle.std.proofs.lemmas.Bool.{ltb-true}
use Rattle.attempt_writes.proofs.Putting.{behind_put}
use Rattle.attempt_writes.proofs.written.is_behind.Goals as goal

pub returns : goal.returns
returns c = λ e v. behind_put c.args.pairs.now c.args.x v (record { 0 = 0 }, pos 0) c.requires (omega (arith, c.if-len-eq0.false)) (ltb-true _ _ e)
