use Rattle.std.proofs.Common.{◌≡◌, ◌≤◌, [], ◌∷◌, List, ℤ, length, inl, refl, ap, arith}
use Rattle.txn_programs.specs.declared.arguments.Call.{Call}
use Rattle.explore_search.specs.Instancing.{key}
use Rattle.explore_search.specs.Shelf.{config}
use Rattle.explore_search.proofs.Instancing.{added_old}
use Rattle.explore_search.proofs.instances.add_call.Goals as goal

pub returns-else-len-before-clause-added : goal.returns-else-len-before-clause-added
returns-else-len-before-clause-added c =
    let given = c.args.arguments.now in
    let own : Call = record { tx = c.args.tx; arguments = given } in
    let q = config c.padded-values.result (c.args.tx.0 ∷ length given ∷ []) in
    let same : q ≡ key own = ap (λ (values : List ℤ). config values (c.args.tx.0 ∷ length given ∷ [])) c.padded-values.ensures in
    let few : length c.insert.new.self.configs ≤ length c.args.seen.now.configs = omega (arith, c.if-len-before.false, c.len.ensures, c.len-before.ensures) in
    inl (added_old c.args.calls.now.items own c.args.seen.now c.insert.new.self q c.requires.seen same c.in_ok-insert.ensures.added few, refl)
