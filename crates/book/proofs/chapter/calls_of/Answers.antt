use Rattle.std.proofs.Common.{◌≡◌, ◌+◌, ℕ, List, [], ◌∷◌, ◌++◌, take, Some, sym, ◌∙◌, ap, subst, ℤ}
use Rattle.std.specs.List.{slice_get}
use Rattle.std.proofs.lemmas.List.{take_more}
use Rattle.std.proofs.lemmas.Option.{get_or_from_slice_get, slice_get_within}
use Rattle.txn_programs.specs.declared.arguments.Call.{Call}
use Rattle.txn_programs.specs.declared.ast.TxId.{TxId}
use Rattle.txn_programs.specs.Listing.{Listing, calls, tasks, task_arguments}
use Rattle.txn_programs.proofs.Lawful.{task_calls}
use Rattle.book.specs.Calls.{CallsView}
use Rattle.book.specs.ChapterInside.{HoldsEach}
use Rattle.book.proofs.TaskCalls.{no_call}
use Rattle.book.proofs.chapter.calls_of.Goals as goal

-- the next task's call is added
next_call : (l : Listing) (i : ℕ) (was now : List Call) (tx : TxId) (given : List ℤ) → slice_get (tasks l) i ≡ Some tx → given ≡ task_arguments l (record { 0 = i }) → now ≡ was ++ (record { tx = tx; arguments = given }) ∷ [] → was ≡ take i (calls l) → now ≡ take (i + 1) (calls l)
next_call l i was now tx given own value more so_far =
    let call : Call = record { tx = tx; arguments = task_arguments l (record { 0 = i }) } in
    let at : slice_get (calls l) i ≡ Some call = task_calls l (record { 0 = i }) tx own in
    more
    ∙ (ap (λ (xs : List ℤ). let c : Call = record { tx = tx; arguments = xs } in was ++ c ∷ []) value
    ∙ (ap (λ (cs : List Call). cs ++ call ∷ []) so_far
    ∙ (ap (λ (c : Call). take i (calls l) ++ c ∷ []) (sym (get_or_from_slice_get (calls l) i call no_call at)) ∙ sym (take_more (calls l) i no_call (slice_get_within (calls l) i call at)))))

pub loop-i-preserved : goal.loop-i-preserved
loop-i-preserved c =
    let l = c.loop-i in
    let added = c.add.ensures in
    record {
      listed = next_call c.args.catalogue.now l.i l.calls.calls c.add.new.self.calls c.task_tx.result c.task_arguments.result.now c.task_tx.ensures.own c.task_arguments.ensures.value (ap (λ (v : CallsView). v.calls) added) l.invariant.listed;
      room = ap (λ (v : CallsView). v.room) added ∙ l.invariant.room;
      row_room = subst (HoldsEach c.args.catalogue.now) (sym (ap (λ (v : CallsView). v.width) added)) l.invariant.row_room;
    }
