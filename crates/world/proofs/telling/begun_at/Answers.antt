use Rattle.std.proofs.Common.{◌≡◌, Some, refl, sym, arith}
use Rattle.std.specs.List.{slice_get}
use Rattle.std.proofs.lemmas.List.{length-map}
use Rattle.std.proofs.lemmas.Option.{slice_get_read}
use Rattle.world.specs.Trials.{started_of}
use Rattle.world.specs.declared.trial.Trial.{Trial}
use Rattle.world.proofs.Seeing.{seen_at}
use Rattle.world.proofs.telling.begun_at.Goals as goal

pub returns : goal.returns
returns c =
    let s = c.args.scene.now in
    let t : Trial = c.index-trial.result.now in
    let there : slice_get s.trials.items c.args.place ≡ Some t = slice_get_read s.trials.items s.trials.len c.args.place t s.trials.ok.0 (omega (arith, s.trials.ok.0, c.requires, length-map s.trials.items started_of)) c.index-trial.ensures in
    (started_of t, seen_at s.trials.items c.args.place t there, refl, refl, sym c.log.ensures.value, refl)
