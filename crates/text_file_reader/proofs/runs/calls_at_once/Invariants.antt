use Rattle.std.proofs.Common.{length}
use Rattle.std.specs.Prelude.{codes}
use Rattle.text_words.specs.Tokens.{tokens}
use Rattle.text_words.specs.TokenReading.{begins, all_of}
use Rattle.text_grammar.specs.Reading.{run_at}
use Rattle.text_grammar.specs.Resolving.{run_in}
use Rattle.text_resolver.specs.Texts.{texts}
use Rattle.text_file_reader.proofs.AtOnce.{MadeSoFar}
use Rattle.text_file_reader.proofs.runs.calls_at_once.Given as goal

abbrev pub invariant-runs : goal.invariant-runs
invariant-runs l = MadeSoFar (begins (codes "run")) (run_at l.fn.file_form) (run_in (texts l.fn.names.keys)) (all_of (begins (codes "run")) (run_at l.fn.file_form) (tokens l.fn.bytes)) l.made.items (tokens l.rest)

abbrev pub decreases-runs : goal.decreases-runs
decreases-runs l = length l.rest
