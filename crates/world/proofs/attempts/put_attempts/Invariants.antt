use Rattle.std.proofs.Common.{◌≡◌, ◌++◌, take, string_bytes}
use Rattle.std.specs.List.{flat_map}
use Rattle.world.specs.Inside.{listing, world_of}
use Rattle.world.specs.WorldText.{attempt_line}
use Rattle.world.proofs.attempts.put_attempts.Given as goal

abbrev pub invariant-attempts : goal.invariant-attempts
invariant-attempts l = string_bytes l.out ≡ string_bytes l.fn.out ++ flat_map (attempt_line (listing l.scene)) (take l.place (world_of l.scene).attempts)
