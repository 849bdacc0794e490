use Rattle.std.proofs.Common.{◌≡◌, ◌++◌, take, string_bytes}
use Rattle.explore_runner.specs.FoundText.{argument_words}
use Rattle.explore_runner.proofs.words.put_arguments.Given as goal

abbrev pub invariant-arguments : goal.invariant-arguments
invariant-arguments l = string_bytes l.out ≡ string_bytes l.fn.out ++ argument_words (take l.argument-index l.arguments)
