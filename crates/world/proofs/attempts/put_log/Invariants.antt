use Rattle.std.proofs.Common.{◌≡◌, ◌++◌, take, string_bytes}
use Rattle.std.specs.List.{flat_map}
use Rattle.world.specs.WorldText.{pair_text}
use Rattle.world.proofs.attempts.put_log.Given as goal

abbrev pub invariant-pairs : goal.invariant-pairs
invariant-pairs l = string_bytes l.out ≡ string_bytes l.fn.out ++ flat_map (pair_text l.catalogue) (take l.x-index l.log)
