use Rattle.std.proofs.Common.{◌≡◌, ℕ, ℤ, ◌-◌, length, pos, get_or, drop, ◌∙◌, ap, arith}
use Rattle.std.proofs.lemmas.Option.{slice_get-get_or}
use Rattle.txn_programs.specs.declared.ast.VarId.{VarId}
use Rattle.world_law.proofs.Framed.{length-store}
use Rattle.world.proofs.Logs.{known_pair}
use Rattle.world.proofs.asking.written.Goals as goal

abbrev none : VarId × ℤ
none = (record { 0 = 0 }, pos 0)

pub index_mut-requires : goal.index_mut-requires
index_mut-requires c =
    let ws = c.args.writes.now in
    let i : ℕ = length ws - 1 - c.loop-done.done in
    let size : length c.loop-done.next.items ≡ length c.args.state.now = ap length c.loop-done.invariant ∙ length-store (drop (length ws - c.loop-done.done) ws) c.args.state.now in
    omega (arith, c.loop-done.next.ok.0, size, known_pair (length c.args.state.now) ws i (get_or ws i none) c.requires (slice_get-get_or ws i none (omega (arith, c.loop-done-test.true))))
