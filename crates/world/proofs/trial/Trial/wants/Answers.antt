use Rattle.std.proofs.Common.{◌≡◌, ◌<◌, ℤ, pos, get_or, List, Option, Some, None, option_map, slice_get, sym, ap, ◌∙◌, subst, arith}
use Rattle.std.proofs.lemmas.Option.{slice_get-get_or}
use Rattle.txn_programs.specs.declared.ast.VarId.{VarId}
use Rattle.attempt.specs.declared.next.Next.{Next}
use Rattle.attempt.specs.declared.next.Next.TheVariants as next
use Rattle.world.specs.Trials.{wanted_at}
use Rattle.world.proofs.Logs.{known_pair, past_end}
use Rattle.world.proofs.trial.Trial.wants.Goals as goal

abbrev none_read : VarId × ℤ
none_read = (record { 0 = 0 }, pos 0)

pub returns-then-check-log-clause-known : goal.returns-then-check-log-clause-known
returns-then-check-log-clause-known c x e =
    let log = c.log-log.result.now in
    let n = c.in-Some.check.checked in
    let same : (get_or log n none_read).0 ≡ x = cc in
    subst (λ (v : VarId). v.0 < c.args.self.now.attempt.variables) same
    (known_pair c.args.self.now.attempt.variables log n (get_or log n none_read) c.log-log.ensures.known (slice_get-get_or log n none_read (omega (arith, c.if-check-log.true))))

pub returns-else-check-log-clause-value : goal.returns-else-check-log-clause-value
returns-else-check-log-clause-value c =
    let y = c.args.self.now in
    let n = c.in-Some.check.checked in
    let none = past_end c.log-log.result.now n (omega (arith, c.if-check-log.false)) in
    sym (ap (λ (a : Next). wanted_at a y.attempt.log y.check) c.in-Need.is ∙ (ap (wanted_at (next.Need c.in-Need.x) y.attempt.log) c.in-Some.is
    ∙ (ap (λ (l : List (VarId × ℤ)). option_map (λ (p : VarId × ℤ). p.0) (slice_get l n)) (sym c.log-log.ensures.value) ∙ ap (option_map (λ (p : VarId × ℤ). p.0)) none)))
