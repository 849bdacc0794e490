use Rattle.std.proofs.Common.{◌≡◌, ◌+◌, length}
use Rattle.std.specs.List.{All}
use Rattle.stm_store.proofs.opening.hold.Given as goal

abbrev pub invariant-loop-pass : goal.invariant-loop-pass
invariant-loop-pass l = record {
  own : All (λ p. p.cells ≡ l.cells) l.passes.items;
  held : All (λ p. p.cells ≡ l.cells) l.held.items;
  each : length l.held.items + length l.passes.items ≡ length l.fn.passes.items;
}

abbrev pub decreases-loop-pass : goal.decreases-loop-pass
decreases-loop-pass l = length l.passes.items
