use Rattle.std.proofs.Common.{◌≡◌, drop}
use Rattle.text_grammar.specs.Resolving.{each, run_in}
use Rattle.text_resolver.specs.Texts.{texts}
use Rattle.text_grammar.specs.View.{view_runs}
use Rattle.text_resolver.proofs.Each.{joined}
use Rattle.text_resolver.proofs.resolve.runs.Given as goal

abbrev pub invariant-runs : goal.invariant-runs
invariant-runs l = joined l.made.items (each (run_in (texts l.names.keys)) (view_runs (drop l.one-index l.raw))) ≡ each (run_in (texts l.names.keys)) (view_runs l.raw)
