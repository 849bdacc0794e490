use Rattle.std.proofs.Common.{◌≡◌, List, ℤ, ap, subst}
use Rattle.std.proofs.Math.Logic.{∥∥₁_map₂}
use Rattle.txn_programs.specs.declared.arguments.Call.{Call}
use Rattle.stm_desk.specs.Keeping.{IsEntry}
use Rattle.stm_service.specs.Telling.{IsEnteredBehind}
use Rattle.stm_service.proofs.Histories.{stands_behind}
use Rattle.stm_service.proofs.sharing.both.Goals as goal

pub returns-clause-behind : goal.returns-clause-behind
returns-clause-behind g c =
    let a = c.in-Ok.a in
    let b = c.in-Ok-atomically.b in
    let x = c.args.calls.0 in
    let y = c.args.calls.1 in
    let first : Call = record { tx = x.tx; arguments = c.as_slice.result.now } in
    let second : Call = record { tx = y.tx; arguments = c.as_slice-2.result.now } in
    let is_first : first ≡ x = ap (λ (xs : List ℤ). record { tx = x.tx; arguments = xs }) c.as_slice.ensures.value in
    let is_second : second ≡ y = ap (λ (xs : List ℤ). record { tx = y.tx; arguments = xs }) c.as_slice-2.ensures.value in
    let seen = c.atomically.new.front in
    let before = c.learn.new.self in
    let now = c.atomically-2.new.front in
    ∥∥₁_map₂ c.in-Ok.ensures.answered c.in-Ok-atomically.ensures.answered (λ (p : IsEnteredBehind c.args.one.now first a seen) (q : IsEnteredBehind before second b now).
    stands_behind seen before now x y a b (subst (λ (call : Call). IsEntry seen a.ticket call a) is_first p.entry) c.learn.ensures.others c.atomically-2.ensures.grows
    (subst (λ (call : Call). IsEnteredBehind before call b now) is_second q))
