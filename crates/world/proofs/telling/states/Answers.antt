use Rattle.std.proofs.Common.{ap, sym, ◌∙◌, take, ℤ, List}
use Rattle.std.specs.Prelude.{map}
use Rattle.std.proofs.lemmas.List.{take-map}
use Rattle.std.specs.declared.alloc.Global.{Global}
use Rattle.std.specs.declared.vec.Vec.{Vec}
use Rattle.world.specs.Inside.{state_items}
use Rattle.world.proofs.telling.states.Goals as goal

pub returns-clause-value : goal.returns-clause-value
returns-clause-value c =
    let s = c.args.scene.now in
    ap (λ (xs : List (Vec ℤ Global)). map state_items (take s.count xs)) c.deref.ensures.value ∙ sym (take-map state_items s.count s.states.items)
