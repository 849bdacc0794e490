use Rattle.std.proofs.Common.{List, subst, map}
use Rattle.std.specs.Prelude.{codes}
use Rattle.txn_programs.specs.declared.ast.Tx.{Tx}
use Rattle.txn_programs.specs.Tree.{transaction_of}
use Rattle.text_words.specs.Tokens.{tokens}
use Rattle.text_words.specs.TokenReading.{begins, all_of}
use Rattle.text_grammar.specs.Reading.{run_at}
use Rattle.text_resolver.specs.Texts.{texts}
use Rattle.text_file_reader.specs.Resolved.{MakesRuns, parameters_of}
use Rattle.text_file_reader.proofs.at_once.programs_at_once.Goals as goal

pub returns : goal.returns
returns c =
    let behind_txs = tokens c.in_ok-names.rest.now in
    let behind_runs = tokens c.in_ok-runs.rest.now in
    let names = texts c.in_ok-names.names.keys in
    record {
      conditions = c.in_ok-always.ensures.0;
      names = names;
      behind_always = tokens c.in_ok-always.rest.now;
      behind_txs = behind_txs;
      behind_runs = behind_runs;
      makes_always = c.in_ok-always.ensures.1;
      makes_txs = c.in_ok-names.ensures;
      makes_runs =
          subst (λ (l : List Tx). MakesRuns (all_of (begins (codes "run")) (run_at c.args.file_form) behind_txs) names (map parameters_of (map transaction_of l)) c.in_ok-runs.runs.items behind_runs)
          c.deref.ensures.value c.in_ok-runs.ensures;
      ends = c.in_ok-end.ensures.value;
    }
