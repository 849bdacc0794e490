use Rattle.std.proofs.Common.{◌≡◌, ℕ, length, subst, arith}
use Rattle.explore_search.specs.Searching.{IsUnderWay}
use Rattle.explore_search.proofs.search.try_configs.Goals as goal

pub configs-preserved : goal.configs-preserved
configs-preserved c = record { so_far = c.in_ok-try_all.ensures.on; charted = c.in_ok-try_all.ensures.charted; answers = c.in_ok-try_all.ensures.answers; within = omega (arith, c.in_ok-try_all.ensures.listed) }

pub returns-clause-done : goal.returns-clause-done
returns-clause-done c =
    let s = c.configs.s in
    let end : c.configs.i ≡ length s.configs.configs = omega (arith, c.configs.invariant.within, c.configs-test.false, c.len.ensures) in
    subst (λ (i : ℕ). IsUnderWay c.args.catalogue.now c.args.limit s.configs s.kinds.items s.ends.items i 0) end c.configs.invariant.so_far
