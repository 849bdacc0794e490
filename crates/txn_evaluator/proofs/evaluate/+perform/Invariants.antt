use Rattle.std.proofs.Common.{◌≡◌, ◌-◌, length, drop}
use Rattle.txn_programs.specs.Meaning.{run, run_all, repeated}
use Rattle.txn_programs.specs.Tree.{statement_of, statements_of_list}
use Rattle.txn_programs.specs.Instance.{instance_statement, instance_statements}
use Rattle.txn_programs.specs.Scope.{StatementsKnown}
use Rattle.txn_evaluator.specs.Notes.{LeadBack}
use Rattle.txn_evaluator.proofs.evaluate.+perform.Given as goal

abbrev pub invariant-perform_all-loop-part : goal.invariant-perform_all-loop-part
invariant-perform_all-loop-part l = record {
  rest : run_all (instance_statements l.arguments (statements_of_list (drop l.part-index l.parts))) l.state ≡ run_all (instance_statements l.arguments (statements_of_list l.initial.parts)) l.initial.state;
  known : StatementsKnown (length l.initial.state) (instance_statements l.arguments (statements_of_list (drop l.part-index l.parts)));
  back : LeadBack l.initial.notes.items l.initial.state l.notes.items l.state;
}

abbrev pub invariant-repeat-loop-turn : goal.invariant-repeat-loop-turn
invariant-repeat-loop-turn l = record {
  rest : repeated (l.n - l._turn) (run (instance_statement l.arguments (statement_of l.s))) l.state ≡ repeated l.n (run (instance_statement l.arguments (statement_of l.s))) l.initial.state;
  back : LeadBack l.initial.notes.items l.initial.state l.notes.items l.state;
}
