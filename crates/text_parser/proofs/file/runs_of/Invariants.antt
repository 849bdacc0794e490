use Rattle.std.proofs.Common.{◌≡◌, length}
use Rattle.std.specs.Prelude.{codes}
use Rattle.text_words.specs.Tokens.{tokens}
use Rattle.text_grammar.specs.Reading.{run_at}
use Rattle.text_words.specs.TokenReading.{begins, all_of}
use Rattle.text_grammar.specs.View.{view_runs}
use Rattle.text_words.proofs.Many.{with_front}
use Rattle.text_parser.proofs.file.runs_of.Given as goal

abbrev pub invariant-runs : goal.invariant-runs
invariant-runs l = with_front (view_runs l.runs.items) (all_of (begins (codes "run")) (run_at l.fn.file_form) (tokens l.rest)) ≡ all_of (begins (codes "run")) (run_at l.fn.file_form) (tokens l.fn.bytes)

abbrev pub decreases-runs : goal.decreases-runs
decreases-runs l = length l.rest
