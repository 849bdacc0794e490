use Rattle.std.proofs.Common.{◌≡◌, ℕ, ℤ, ◌-◌, List, Some, length, take, sym, ap, ◌∙◌, subst, arith, Decides}
use Rattle.std.specs.List.{slice_get}
use Rattle.std.specs.declared.alloc.Global.{Global}
use Rattle.std.specs.declared.vec.Vec.{Vec}
use Rattle.std.proofs.lemmas.Option.{slice_get_read}
use Rattle.txn_words.specs.Words.{last_state}
use Rattle.attempt.specs.Asking.{Known}
use Rattle.attempt.specs.Frame.{Agrees}
use Rattle.attempt.specs.Order.{AllKnown}
use Rattle.world.specs.declared.trial.Trial.{Trial}
use Rattle.world.specs.Inside.{all_states}
use Rattle.world.proofs.Seeing.{read_is}
use Rattle.world.proofs.Lasting.{last_is}
use Rattle.world.proofs.asking.agrees_at.Goals as goal

pub agrees-requires : goal.agrees-requires
agrees-requires c =
    let s = c.args.scene.now in
    let t : Trial = c.index-trial.result.now in
    let there : slice_get s.trials.items c.args.place ≡ Some t = slice_get_read s.trials.items s.trials.len c.args.place t s.trials.ok.0 (omega (arith, s.trials.ok.0, c.requires.place)) c.index-trial.ensures in
    let m : Vec ℤ Global = c.index-last.result.now in
    let last : slice_get s.states.items (s.count - 1) ≡ Some m = slice_get_read s.states.items s.states.len (s.count - 1) m s.states.ok.0 (omega (arith, s.states.ok.0, c.requires.kept.count)) c.index-last.ensures in
    let size : t.attempt.variables ≡ length c.deref.result.now = (c.requires.kept.trials c.args.place t there).variables ∙ (sym (c.requires.kept.states (s.count - 1) m last) ∙ ap length (sym c.deref.ensures.value)) in
    subst (λ (n : ℕ). AllKnown n c.log.result.now) size c.log.ensures.known

pub returns : goal.returns
returns c y at =
    let s = c.args.scene.now in
    let m : Vec ℤ Global = c.index-last.result.now in
    let last : slice_get s.states.items (s.count - 1) ≡ Some m = slice_get_read s.states.items s.states.len (s.count - 1) m s.states.ok.0 (omega (arith, s.states.ok.0, c.requires.kept.count)) c.index-last.ensures in
    let state : c.deref.result.now ≡ last_state (take s.count (all_states s)) = c.deref.ensures.value ∙ sym (last_is s m c.requires.kept last) in
    let log : c.log.result.now ≡ y.attempt.log = c.log.ensures.value ∙ ap (λ (t : Trial). t.attempt.log) (read_is s.trials.items c.args.place y c.index-trial.result.now at c.index-trial.ensures) in
    subst (λ (g : Known). Decides c.agrees.result (Agrees g (last_state (take s.count (all_states s))))) log
    (subst (λ (n : List ℤ). Decides c.agrees.result (Agrees c.log.result.now n)) state c.agrees.ensures)
