use Rattle.std.proofs.Common.{rules, ◌≡◌, ◌==◌, ◌&&◌, true, length, sym}
use Rattle.explore_runner.specs.FoundText.{call_at, waits}
use Rattle.explore_runner.proofs.Below.{some_at}
use Rattle.explore_runner.proofs.words.parks.Goals as goal

pub returns-then-waits : goal.returns-then-waits
returns-then-waits c =
    let cs = c.args.calls.now in
    let ends = c.args.ends.now in
    let i = c.calls.i in
    let here : ((call_at cs i).tx.0 == c.args.number && waits ends i) ≡ true = search rules in
    sym (some_at (λ j. (call_at cs j).tx.0 == c.args.number && waits ends j) (length cs) i c.calls-test.true here)
