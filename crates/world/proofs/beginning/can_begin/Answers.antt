use Rattle.std.proofs.Common.{◌≡◌, ℕ, ◌<◌, Bool, true, false, not, Option, Some, None, slice_get, refl, sym, ap, ◌∙◌, arith, true≢false}
use Rattle.std.proofs.lemmas.Option.{slice_get_read}
use Rattle.world_law.specs.World.{is_live}
use Rattle.world.specs.declared.trial.Trial.{Trial}
use Rattle.world.proofs.Seeing.{read_is}
use Rattle.world.proofs.Starting.{can_none, can_some, cannot_some}
use Rattle.world.proofs.beginning.can_begin.Goals as goal

pub returns-in-Some : goal.returns-in-Some
returns-in-Some c =
    let s = c.args.scene.now in
    let within : c.args.task.0 < s.latest.len = omega (arith, c.len.ensures, c.if-task-len.false) in
    let at : slice_get s.latest.items c.args.task.0 ≡ Some (Some c.in-Some.place) = slice_get_read s.latest.items s.latest.len c.args.task.0 c.index.result.now s.latest.ok.0 within c.index.ensures ∙ ap (λ (o : Option ℕ). Some o) c.in-Some.is in
    let o = c.requires.latest c.args.task.0 c.in-Some.place at in
    let same : c.index-in-Some.result.now ≡ o.0 = read_is s.trials.items c.in-Some.place o.0 c.index-in-Some.result.now o.1 c.index-in-Some.ensures in
    let live : c.lives.result ≡ is_live o.0.fate = c.lives.ensures ∙ ap (λ (t : Trial). is_live t.fate) same in (
      λ yes. can_some s c.requires c.args.task c.in-Some.place o.0 at o.1 (sym live ∙ not_false c.lives.result yes),
      λ can. ap not (live ∙ cannot_some s c.requires c.args.task c.in-Some.place o.0 o.1 o.2 can),
    )
  where
    not_false : (b : Bool) → not b ≡ true → b ≡ false
    not_false true e = absurd (true≢false (sym e))
    not_false false e = refl

pub returns-in-None : goal.returns-in-None
returns-in-None c =
    let s = c.args.scene.now in
    let within : c.args.task.0 < s.latest.len = omega (arith, c.len.ensures, c.if-task-len.false) in
    let at : slice_get s.latest.items c.args.task.0 ≡ Some None = slice_get_read s.latest.items s.latest.len c.args.task.0 c.index.result.now s.latest.ok.0 within c.index.ensures ∙ ap (λ (o : Option ℕ). Some o) c.in-None.is in
    (λ yes. can_none s c.requires c.args.task at, λ can. refl)
