use Rattle.std.proofs.Common.{◌≡◌, ◌<◌, ◌≤◌, ◌+◌, ◌-◌, ℕ, List, [], ◌∷◌, ◌++◌, length, take, drop, Some, sym, ◌∙◌, ap, arith, length-drop}
use Rattle.std.specs.List.{slice_get}
use Rattle.std.proofs.lemmas.List.{take_more}
use Rattle.std.proofs.lemmas.Option.{get_or_from_slice_get}
use Rattle.txn_programs.specs.declared.arguments.Call.{Call}
use Rattle.book.proofs.TaskCalls.{get_drop, no_call}
use Rattle.book.proofs.chapter.behind.Goals as goal

-- the next call behind the place
next_behind : (cs found new : List Call) (from t : ℕ) (c : Call) → from ≤ t → t < length cs → slice_get cs t ≡ Some c → new ≡ found ++ c ∷ [] → found ≡ take (t - from) (drop from cs) → new ≡ take (t + 1 - from) (drop from cs)
next_behind cs found new from t c low less at more so_far =
    let i : ℕ = t - from in
    let place : t ≡ from + i = omega (arith, low) in
    let next : i + 1 ≡ t + 1 - from = omega (arith, low) in
    let here : slice_get (drop from cs) i ≡ Some c = get_drop from i cs ∙ (ap (slice_get cs) (sym place) ∙ at) in
    more
    ∙ (ap (λ (xs : List Call). xs ++ c ∷ []) so_far
    ∙ (ap (λ (x : Call). take i (drop from cs) ++ x ∷ []) (sym (get_or_from_slice_get (drop from cs) i c no_call here))
    ∙ (sym (take_more (drop from cs) i no_call (omega (arith, low, less, length-drop from cs))) ∙ ap (λ (n : ℕ). take n (drop from cs)) next)))

pub loop-task-preserved : goal.loop-task-preserved
loop-task-preserved c =
    let l = c.loop-task in
    next_behind c.args.calls.now.calls l.more.items c.push.new.self.items c.args.from l.task c.call.result l.auto.task (omega (arith, c.loop-task-test.true, c.len-task-end.ensures)) c.call.ensures c.in_ok-push.ensures.items l.invariant
