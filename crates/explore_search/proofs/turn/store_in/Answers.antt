use Rattle.std.proofs.Common.{◌≡◌, ℕ, ◌-◌, ℤ, pos, length, get_or, drop, ◌∙◌, ap, arith}
use Rattle.std.proofs.lemmas.Option.{slice_get-get_or}
use Rattle.txn_programs.specs.declared.ast.VarId.{VarId}
use Rattle.explore_search.proofs.Counting.{length-store, known_pair}
use Rattle.explore_search.proofs.turn.store_in.Goals as goal

abbrev none : VarId × ℤ
none = (record { 0 = 0 }, pos 0)

pub index_mut-requires : goal.index_mut-requires
index_mut-requires c =
    let ws = c.args.writes.now in
    let i : ℕ = length ws - 1 - c.writes.done in
    let size : length c.writes.values.items ≡ length c.args.values.now.items = ap length c.writes.invariant ∙ length-store (drop (length ws - c.writes.done) ws) c.args.values.now.items in
    omega (arith, size, known_pair (length c.args.values.now.items) ws i (get_or ws i none) c.requires (slice_get-get_or ws i none (omega (arith, c.writes-test.true))))
