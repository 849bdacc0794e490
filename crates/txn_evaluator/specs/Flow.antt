-- The ending that a flow stands for, with the state that was reached.
use Rattle.txn_programs.specs.Meaning.{State, Ending, Done, Threw, Retried}
use Rattle.txn_programs.specs.declared.ast.Fault.{Fault}
use Rattle.txn_evaluator.specs.declared.evaluate.Flow.{Flow}
use Rattle.txn_evaluator.specs.declared.evaluate.Flow.TheVariants as flow

abbrev pub ending_of : Flow → State → Ending State Fault
ending_of flow.Done m = Done m
ending_of (flow.Threw f) m = Threw f
ending_of flow.Retried m = Retried
