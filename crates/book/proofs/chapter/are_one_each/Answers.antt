use Rattle.std.proofs.Common.{◌≡◌, ◌<◌, ◌+◌, ◌-◌, ℕ, List, [], ◌∷◌, ◌++◌, length, take, drop, get_or, true, Some, sym, ◌∙◌, ap, arith, length-drop}
use Rattle.std.specs.List.{slice_get}
use Rattle.std.proofs.lemmas.List.{take_more, map_more, get_or-map}
use Rattle.std.proofs.lemmas.Option.{slice_get-get_or, get_or_from_slice_get}
use Rattle.txn_programs.specs.declared.arguments.Call.{Call}
use Rattle.book.specs.ChapterInside.{one_each}
use Rattle.book.proofs.TaskCalls.{get_drop, no_call}
use Rattle.book.proofs.chapter.are_one_each.Goals as goal

-- one run more is as the next call wants it
next_same : (runs : List (Call × ℕ)) (cs : List Call) (i : ℕ) (r : Call × ℕ) → i < length runs → length runs ≡ length cs → slice_get cs i ≡ Some (get_or runs i r).0 → (get_or runs i r).1 ≡ 1 → take i runs ≡ one_each (take i cs) → take (i + 1) runs ≡ one_each (take (i + 1) cs)
next_same runs cs i r within each here once h =
    let run = get_or runs i r in
    let call : get_or cs i no_call ≡ run.0 = get_or_from_slice_get cs i run.0 no_call here in
    take_more runs i r within
    ∙ (ap (λ (rs : List (Call × ℕ)). rs ++ run ∷ []) h
    ∙ (ap (λ (n : ℕ). let one : Call × ℕ = (run.0, n) in one_each (take i cs) ++ one ∷ []) once
    ∙ (ap (λ (c : Call). let one : Call × ℕ = (c, 1) in one_each (take i cs) ++ one ∷ []) (sym call)
    ∙ sym (map_more (λ (c : Call). (c, 1)) cs i no_call (omega (arith, within, each))))))

-- there are as many calls behind the place
same_size : (runs : List (Call × ℕ)) (cs : List Call) (n from : ℕ) → n ≡ length cs → length runs ≡ n - from → length runs ≡ length (drop from cs)
same_size runs cs n from all size = omega (arith, all, size, length-drop from cs)

pub loop-i-preserved : goal.loop-i-preserved
loop-i-preserved c =
    let runs = c.args.runs.now in
    let cs = c.args.calls.now.calls in
    let from = c.args.from in
    let i = c.loop-i.i in
    let r = c.index-runs-i.result in
    let is = c.is_one.ensures.0 c.if-not-is_one.false in
    let run : r ≡ get_or runs i r = c.index-runs-i.is in
    next_same runs (drop from cs) i r c.loop-i-test.true (same_size runs cs c.len.result from c.len.ensures c.if-runs-len.false)
    (get_drop from i cs ∙ (is.0 ∙ ap (λ (x : Call × ℕ). Some x.0) run)) (ap (λ (x : Call × ℕ). x.1) (sym run) ∙ is.1) c.loop-i.invariant

pub returns-then-not-is_one : goal.returns-then-not-is_one
returns-then-not-is_one c =
    let runs = c.args.runs.now in
    let cs = c.args.calls.now.calls in
    let from = c.args.from in
    let i = c.loop-i.i in
    let r = c.index-runs-i.result in
    let no = c.if-not-is_one.true in (
      λ e. absurd (cc),
      λ all.
          let low : i < length (drop from cs) = omega (arith, c.loop-i-test.true, same_size runs cs c.len.result from c.len.ensures c.if-runs-len.false) in
          let call = get_or (drop from cs) i no_call in
          let run : r ≡ (call, 1) = c.index-runs-i.is ∙ (ap (λ (rs : List (Call × ℕ)). get_or rs i r) all ∙ get_or-map (λ (x : Call). (x, 1)) (drop from cs) i no_call r low) in
          let here : slice_get cs (from + i) ≡ Some r.0 = sym (get_drop from i cs) ∙ (slice_get-get_or (drop from cs) i no_call low ∙ ap (λ (x : Call × ℕ). Some x.0) (sym run)) in
          let yes : c.is_one.result ≡ true = c.is_one.ensures.1 (here, ap (λ (x : Call × ℕ). x.1) run) in absurd (cc),
    )
