use Rattle.std.proofs.Common.{◌≡◌, ◌++◌, string_bytes}
use Rattle.std.specs.Prelude.{slice_get}
use Rattle.explore_runner.specs.FoundText.{each_below, end_line}
use Rattle.explore_runner.proofs.printer.put_ends.Given as goal

abbrev pub invariant-ends : goal.invariant-ends
invariant-ends l = string_bytes l.out ≡ string_bytes l.fn.out ++ each_below (λ n. end_line l.catalogue l.calls n (slice_get l.ends n)) l.k
