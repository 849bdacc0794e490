use Rattle.std.proofs.Common.{All}
use Rattle.std.specs.Prelude.{vec_len}
use Rattle.run_workers.proofs.threads.fn.start.scope.Given as goal

abbrev pub invariant-loop-pass : goal.invariant-loop-pass
invariant-loop-pass g l = All (λ p. g.F.Fn.pre l.life.now (p, tt)) l.passes.items

abbrev pub decreases-loop-pass : goal.decreases-loop-pass
decreases-loop-pass g l = vec_len l.passes
