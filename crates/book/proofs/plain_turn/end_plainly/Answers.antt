use Rattle.std.proofs.Common.{◌≡◌, ◌∙◌, false, Result, Ok, Err, OnOk, sym, subst}
use Rattle.std.specs.Result.{is_err}
use Rattle.txn_programs.specs.Listing.{task_tx, task_arguments}
use Rattle.txn_programs.specs.Meaning.{State}
use Rattle.book.specs.Written.{TellNoted}
use Rattle.book.proofs.PlainEnds.{ends_plainly}
use Rattle.book.proofs.plain_turn.end_plainly.Goals as goal

on_ok_known : {T E P : Type 0} (r : Result T E) → is_err r ≡ false → OnOk r P → P
on_ok_known (Ok x) e h = h
on_ok_known (Err x) e h = absurd (cc)

pub returns-clause-ends : goal.returns-clause-ends
returns-clause-ends c =
    let l = c.args.chapter.now.listing in
    let task = c.args.task in
    let run = c.in-Ok.ensures in
    let notes = c.execute-ended.new.notes.items in
    let told : TellNoted notes c.deref.result.now c.list-listed.new.self.writes.items = on_ok_known c.list-listed.result (sym c.is_err.ensures.value ∙ c.if-is_err.false) c.list-listed.ensures.listed in
    ends_plainly l (task_tx l task) (task_arguments l task) c.args.values.now.items c.execute-ended.new.values.items c.in-Ok.how notes c.list-listed.new.self.writes.items run.outcome run.after run.undone run.sized c.requires.values
    (subst (λ (m : State). TellNoted notes m c.list-listed.new.self.writes.items) c.deref.ensures.value told)
