use Rattle.std.proofs.Common.{length, map, [], ap, subst, sym, arith}
use Rattle.std.proofs.lemmas.Option.{get_or_from_slice_get, slice_get-get_or}
use Rattle.txn_programs.specs.declared.arguments.Call.{Call}
use Rattle.txn_programs.specs.Listing.{calls, tasks, task_tx, IsCallable}
use Rattle.book.specs.Chapters.{ChapterView}
use Rattle.book.proofs.Listings.{length_in, given_own, known_own}
use Rattle.book.proofs.chapter.Chapter.arguments.Goals as goal

pub arguments-requires : goal.arguments-requires
arguments-requires c =
    omega (arith, c.requires, ap (λ (v : ChapterView). length (tasks v.listing)) c.self.view_is, length_in c.self.inside c.self.invariant.listed)

pub returns-clause-value : goal.returns-clause-value
returns-clause-value c =
    sym (get_or_from_slice_get (map (λ (x : Call). x.arguments) (calls c.args.self.now.listing)) c.args.task.0 c.arguments.result.now []
    (given_own c.self.inside c.args.self.now c.args.task.0 c.arguments.result.now c.self.view_is c.self.invariant.listed c.arguments.ensures.value))

pub returns-clause-each : goal.returns-clause-each
returns-clause-each c =
    let s = c.self.inside in
    let v = c.args.self.now in
    let l = v.listing in
    let t = c.args.task in
    subst (IsCallable l (task_tx l t))
    (get_or_from_slice_get (map (λ (x : Call). x.arguments) (calls l)) t.0 c.arguments.result.now [] (given_own s v t.0 c.arguments.result.now c.self.view_is c.self.invariant.listed c.arguments.ensures.value))
    (known_own s v t (task_tx l t) c.self.view_is c.self.invariant.listed c.self.invariant.known (slice_get-get_or (tasks l) t.0 (record { 0 = 0 }) c.requires))
