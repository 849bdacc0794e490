-- What a program keeps as it is called with arguments.
use Rattle.std.proofs.Common.{◌≡◌, ◌<◌, ◌≤◌, ℕ, ℤ, List, length, true, subst, sym}
use Rattle.txn_programs.specs.Cost.{cost}
use Rattle.txn_programs.specs.Instance.{instance, instance_statement, instance_statements}
use Rattle.txn_programs.specs.Limits.{limits_hold}
use Rattle.txn_programs.specs.Listing.{Listing, values, call_program, program_at}
use Rattle.txn_programs.specs.Names.{names_hold}
use Rattle.txn_programs.specs.Scope.{ProgramKnown}
use Rattle.txn_programs.specs.Tree.{Program, Statement, Skip, Set, Put, Seq, If, Repeat, Retry, OrElse, Throw, Statements, End, More}
use Rattle.txn_programs.specs.declared.ast.TxId.{TxId}
use Rattle.txn_programs.specs.declared.limits.TheConstants.{MAX_COST}
use Rattle.txn_programs.proofs.Instances.{instance_costs}
use Rattle.txn_programs.proofs.Lawful.{known_call}
use Rattle.attempt_machine.specs.Room.{StaysSmall, AllStaySmall, NeedsNoMemory}
use Rattle.attempt_machine.proofs.Declared.{program_small}

pub call_known : (l : Listing) (id : TxId) (given : List ℤ) → names_hold l ≡ true → values l ≡ length l.initial → id.0 < length l.transactions → ProgramKnown (length l.initial) (call_program l id given)
call_known l id given names valued lt = subst (λ (n : ℕ). ProgramKnown n (call_program l id given)) valued (known_call l id given names lt)

pub call_cheap : (l : Listing) (id : TxId) (given : List ℤ) → limits_hold l ≡ true → id.0 < length l.transactions → cost (call_program l id given) ≤ MAX_COST
call_cheap l id given limits lt = subst (λ (n : ℕ). n ≤ MAX_COST) (sym (instance_costs given (program_at l id))) (program_small l id limits lt)

-- no `orelse` comes with arguments
mutual
  statement_stays : (given : List ℤ) (s : Statement) → StaysSmall s → StaysSmall (instance_statement given s)
  statement_stays given Skip h = tt
  statement_stays given (Set x e) h = tt
  statement_stays given (Put t a b) h = absurd h
  statement_stays given (Seq parts) h = statements_stay given parts h
  statement_stays given (If c a b) h = (statement_stays given a h.0, statement_stays given b h.1)
  statement_stays given (Repeat n s) h = statement_stays given s h
  statement_stays given Retry h = tt
  statement_stays given (OrElse a b) h = h
  statement_stays given (Throw e) h = tt

  statements_stay : (given : List ℤ) (s : Statements) → AllStaySmall s → AllStaySmall (instance_statements given s)
  statements_stay given End h = tt
  statements_stay given (More s rest) h = (statement_stays given s h.0, statements_stay given rest h.1)

pub call_small : (given : List ℤ) (t : Program) → NeedsNoMemory t → NeedsNoMemory (instance given t)
call_small given t h = statement_stays given t.body h
