use Rattle.std.proofs.Common.{◌≡◌, string_bytes}
use Rattle.world_runner.proofs.Turns.{PutsFirst}
use Rattle.world_runner.proofs.lines.put_lines.Given as goal

abbrev pub invariant-moves : goal.invariant-moves
invariant-moves l = record {
  of : l.world.listing ≡ l.catalogue;
  lines : PutsFirst l.catalogue l.fn.world.world l.moves l.i l.world.world (string_bytes l.fn.out) (string_bytes l.out);
}
