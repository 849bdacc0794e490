use Rattle.std.proofs.Common.{◌≡◌, ◌≢◌, ℕ, true, inl, inr, Option, Some, sym, ◌∙◌, ap, subst, arith, MatchOption}
use Rattle.std.specs.List.{slice_get}
use Rattle.txn_programs.specs.declared.ast.TaskId.{TaskId}
use Rattle.book_storage.specs.Members.{HasNoneFrom, IsLowest, IsLowestFrom}
use Rattle.book.specs.declared.table.TaskTable.TheInside.{Inside}
use Rattle.book.specs.Tasks.{Ready}
use Rattle.book.specs.Table.{TableView, IsFirstFrom}
use Rattle.book.specs.TableInside.{IsSorted, table_of}
use Rattle.book.proofs.Found.{found_ready, ready_found, found_few}
use Rattle.book.proofs.table.TaskTable.first_ready.Goals as goal

module _ (s : Inside) (v : TableView) (view : table_of s ≡ v) (h : IsSorted s) where
  from_set : (k : ℕ) → slice_get s.ready k ≡ Some true → slice_get v.tasks k ≡ Some Ready
  from_set k e = ap (λ (b : TableView). slice_get b.tasks k) (sym view) ∙ found_ready s k h e

  in_set : (k : ℕ) → slice_get v.tasks k ≡ Some Ready → slice_get s.ready k ≡ Some true
  in_set k e = ready_found s k h (ap (λ (b : TableView). slice_get b.tasks k) view ∙ e)

  first_behind : (number t : ℕ) → IsLowestFrom s.ready number t → IsFirstFrom number v.tasks t
  first_behind number t low =
      record {
        here = from_set t low.here;
        behind = λ at k from less e. low.before k from less (in_set k e);
        round = λ less. absurd (omega (arith, less, low.behind));
      }

  first_lowest : (number t : ℕ) → HasNoneFrom s.ready number → IsLowest s.ready t → IsFirstFrom number v.tasks t
  first_lowest number t none low =
      record {
        here = from_set t low.0;
        behind = λ at k from less e. none k from (in_set k e);
        round = λ less k where_is e. elim where_is [
          | inl from ↦ none k from (in_set k e)
          | inr before ↦ low.1 k before (in_set k e)
        ];
      }

pub returns-in-Some : goal.returns-in-Some
returns-in-Some c = first_behind c.self.inside c.args.self.now c.self.view_is c.self.invariant c.args.number c.in-Some.found c.in-Some.ensures

pub returns-in_err-lowest : goal.returns-in_err-lowest
returns-in_err-lowest c =
    subst (λ (r : Option TaskId). MatchOption r ((k : ℕ) → slice_get c.args.self.now.tasks k ≢ Some Ready) (λ (task : TaskId). IsFirstFrom c.args.number c.args.self.now.tasks task.0)) (sym c.from_residual.ensures)
    (λ k e. c.in_err-lowest.ensures k (in_set c.self.inside c.args.self.now c.self.view_is c.self.invariant k e))

pub overflow_cast-result-2 : goal.overflow_cast-result-2
overflow_cast-result-2 c = omega (arith, found_few c.self.inside c.in_ok-lowest.lowest c.self.invariant c.in_ok-lowest.ensures.0)

pub returns : goal.returns
returns c = first_lowest c.self.inside c.args.self.now c.self.view_is c.self.invariant c.args.number c.in_ok-lowest.lowest c.in_default.ensures c.in_ok-lowest.ensures
