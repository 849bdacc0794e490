use Rattle.std.proofs.Common.{◌≡◌, ℕ, ℤ, ◌-◌, List, Some, length, sym, refl, ap, ◌∙◌, subst, arith}
use Rattle.std.specs.List.{slice_get}
use Rattle.std.specs.declared.alloc.Global.{Global}
use Rattle.std.specs.declared.vec.Vec.{Vec}
use Rattle.std.proofs.lemmas.Option.{slice_get_read}
use Rattle.attempt.specs.Asking.{Known}
use Rattle.attempt.specs.Frame.{store}
use Rattle.attempt.specs.Order.{AllKnown}
use Rattle.world_law.specs.World.{differences, committing}
use Rattle.world_law.proofs.Framed.{length-store}
use Rattle.world.specs.declared.trial.Trial.{Trial}
use Rattle.world.specs.Inside.{world_of}
use Rattle.world.proofs.Seeing.{read_is}
use Rattle.world.proofs.Committing.{commit_kept, commit_world}
use Rattle.world.proofs.asking.commit.Goals as goal

pub written-requires : goal.written-requires
written-requires c =
    let s = c.args.scene.now in
    let y = c.requires.can.1.0 in
    let same : c.index.result.now ≡ y = read_is s.trials.items c.args.place y c.index.result.now c.requires.can.1.2 c.index.ensures in
    let m : Vec ℤ Global = c.index-last.result.now in
    let last : slice_get s.states.items (s.count - 1) ≡ Some m = slice_get_read s.states.items s.states.len (s.count - 1) m s.states.ok.0 (omega (arith, s.states.ok.0, c.requires.kept.count)) c.index-last.ensures in
    let size : c.index.result.now.attempt.variables ≡ length c.deref.result.now =
    ap (λ (t : Trial). t.attempt.variables) same ∙ ((c.requires.kept.trials c.args.place y c.requires.can.1.2).variables ∙ (sym (c.requires.kept.states (s.count - 1) m last) ∙ ap length (sym c.deref.ensures.value))) in
    subst (λ (n : ℕ). AllKnown n c.writes.result.now) size c.writes.ensures.known

pub changes-requires-clause-few : goal.changes-requires-clause-few
changes-requires-clause-few c =
    let s = c.args.scene.now in
    let m : Vec ℤ Global = c.index-last.result.now in
    let last : slice_get s.states.items (s.count - 1) ≡ Some m = slice_get_read s.states.items s.states.len (s.count - 1) m s.states.ok.0 (omega (arith, s.states.ok.0, c.requires.kept.count)) c.index-last.ensures in
    omega (arith, ap length c.deref-2.ensures.value, c.requires.kept.states (s.count - 1) m last, ap length c.initial-few.ensures.value, c.initial-few.ensures.few)

pub changes-requires-clause-same : goal.changes-requires-clause-same
changes-requires-clause-same c =
    ap length (c.deref-3.ensures.value ∙ c.in_ok-next.ensures) ∙ (length-store c.writes.result.now c.deref.result.now ∙ ap length (c.deref.ensures.value ∙ sym c.deref-2.ensures.value))

pub returns-clause-ok : goal.returns-clause-ok
returns-clause-ok c =
    let s = c.args.scene.now in
    let m : Vec ℤ Global = c.index-last.result.now in
    let last : slice_get s.states.items (s.count - 1) ≡ Some m = slice_get_read s.states.items s.states.len (s.count - 1) m s.states.ok.0 (omega (arith, s.states.ok.0, c.requires.kept.count)) c.index-last.ensures in
    let stores : c.in_ok-next.next.items ≡ store c.index.result.now.attempt.writes m.items =
    c.in_ok-next.ensures ∙ (ap (λ (w : Known). store w c.deref.result.now) c.writes.ensures.value ∙ ap (store c.index.result.now.attempt.writes) c.deref.ensures.value) in
    let changes : c.in_ok-changes.changes.items ≡ differences 0 m.items c.in_ok-next.next.items =
    c.in_ok-changes.ensures ∙ (ap (λ (l : List ℤ). differences 0 l c.deref-3.result.now) c.deref-2.ensures.value ∙ ap (differences 0 m.items) c.deref-3.ensures.value) in
    let ws = c.index.result.now.attempt.writes in (
      refl,
      commit_kept s c.args.place c.push.new.self c.in_ok-next.next m c.in_ok-changes.changes ws c.requires.kept c.requires.can last c.in_ok-push.ensures.items stores changes,
      refl,
      λ y at. commit_world s c.args.place c.push.new.self c.in_ok-next.next m c.in_ok-changes.changes ws c.requires.kept c.requires.can last c.in_ok-push.ensures.items stores changes
          ∙ ap (λ (t : Trial). record (world_of s) { committer = Some (committing (world_of s) c.args.place t.attempt.writes) }) (read_is s.trials.items c.args.place y c.index.result.now at c.index.ensures),
    )
