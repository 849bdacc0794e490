use Rattle.std.proofs.Common.{◌≡◌, ◌-◌, ◌++◌, ◌∷◌, [], Some, length, refl, sym, subst, ap, arith, ◌∙◌}
use Rattle.std.specs.List.{slice_get}
use Rattle.txn_programs.specs.declared.arguments.Call.{Call}
use Rattle.txn_programs.specs.Listing.{IsCallable}
use Rattle.attempt.proofs.Calls.{call_known}
use Rattle.book.specs.declared.book.Book.TheInside.{Inside}
use Rattle.book.specs.Tasks.{Ready, Running}
use Rattle.book.specs.Table.{TableView, with_one_more}
use Rattle.book.specs.Submitted.{submitted}
use Rattle.book.specs.View.{BookView, stands}
use Rattle.std.proofs.lemmas.List.{length-map}
use Rattle.book.specs.BookInside.{book_of, with_values}
use Rattle.book.proofs.Lists.{get_append_at}
use Rattle.book.proofs.Kept.{kept_submitted, kept_stand, view_placed, view_submitted}
use Rattle.book.proofs.book.Book.submit_running.Goals as goal
use Rattle.book.proofs.book.Book.submit_running.Goals.{After-add_running}

-- what the new task runs
abbrev its_call : (c : After-add_running) → Call
its_call c = record { tx = c.args.tx; arguments = c.args.arguments.now }

-- the book with a ready task more
abbrev with_ready : (c : After-add_running) → Inside
with_ready c =
    let s = c.self.inside in
    record s { chapter = c.add.new.self; table = with_one_more s.table; spare = s.spare - 1 }

at_end : (c : After-add_running) → slice_get (with_one_more c.self.inside.table).tasks c.add_running.result.0 ≡ Some Ready
at_end c =
    let ts = c.self.inside.table.tasks in
    ap (slice_get (ts ++ Ready ∷ [])) c.add_running.ensures.task ∙ get_append_at ts Ready

pub invariant_of-self : goal.invariant_of-self
invariant_of-self c =
    let s = c.self.inside in
    let l = s.chapter.listing in
    let tx = c.args.tx in
    let given = c.args.arguments.now in
    let known : IsCallable l tx given = subst (λ (b : BookView). IsCallable b.catalogue tx given) (sym c.self.view_is) c.requires in
    let kept = kept_submitted s c.add.new.self (with_one_more s.table) (its_call c) c.self.invariant refl
    (omega (arith, c.if-spare-eq0.false))
    c.add.ensures.listing c.add.ensures.room
    (call_known l tx given c.rules.ensures.names c.rules.ensures.valued known.declared) in
    kept_stand (with_ready c) c.add_running.new.self c.add_running.result Ready Running kept c.add_running.ensures.added (at_end c) (λ n e. cc) (λ n e. cc) (λ log e. cc) refl

pub returns : goal.returns
returns c =
    let s = c.self.inside in
    let task = c.add_running.result in (
      omega (arith, c.add_running.ensures.task, length-map s.table.tasks (with_values s.present.values.items), ap (λ (b : BookView). length b.tasks) c.self.view_is),
      ap (λ (x : TableView). book_of (record (with_ready c) { table = x })) c.add_running.ensures.added
          ∙ (view_placed (with_ready c) task Running
          ∙ (ap (λ (b : BookView). stands b task Running) (view_submitted s c.add.new.self (with_one_more s.table) (its_call c) refl c.add.ensures.listing)
          ∙ ap (λ (b : BookView). stands (submitted b (its_call c)) task Running) c.self.view_is)),
      omega (arith, c.if-spare-eq0.false, ap (λ (b : BookView). b.spare) c.self.view_is),
    )
