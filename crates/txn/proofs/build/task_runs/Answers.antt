use Rattle.std.proofs.Common.{◌≡◌, ◌∙◌, ◌++◌, arith, replicate, map, ap, Some}
use Rattle.std.proofs.lemmas.Grind.{common_steps}
use Rattle.txn.specs.CatalogueInside.{call_at}
use Rattle.txn.proofs.Tasks.{told_more, call_here}
use Rattle.txn.proofs.build.task_runs.Goals as goal

pub loop-place-preserved : goal.loop-place-preserved
loop-place-preserved c =
    let runs = c.args.runs.now in
    let i = c.loop-place.place in
    let run = c.index-runs-place.result in
    let more : c.resize.new.self.items ≡ c.loop-place.places.items ++ replicate run.1 i = grind (arith, common_steps) in
    ap (map (call_at runs)) (more ∙ ap (λ r. c.loop-place.places.items ++ replicate r.1 i) c.index-runs-place.is)
    ∙ told_more (call_at runs) Some c.loop-place.places.items runs i run i c.loop-place-test.true (call_here runs i run c.loop-place-test.true) c.loop-place.invariant
