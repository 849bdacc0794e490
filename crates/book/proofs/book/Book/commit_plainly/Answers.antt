use Rattle.std.proofs.Common.{rules, ◌≢◌, sym, subst, ℤ, List}
use Rattle.std.proofs.lemmas.Option.{slice_get_within}
use Rattle.txn_programs.specs.declared.ast.VarId.{VarId}
use Rattle.txn_programs.specs.declared.ast.Outcome.TheVariants.{Retries}
use Rattle.book.specs.Tasks.{Running}
use Rattle.book.specs.Turns.{TaskEndsPlainly}
use Rattle.book.specs.View.{BookView, IsRunning}
use Rattle.book.proofs.PlainKept.{commits_as}
use Rattle.book.proofs.book.Book.commit_plainly.Goals as goal

pub end_here-requires : goal.end_here-requires
end_here-requires c = record { exists = slice_get_within c.args.self.now.tasks c.args.task.0 Running c.requires.running }

pub commit-number-requires : goal.commit-number-requires
commit-number-requires c =
    let task = c.args.task in
    let here = c.end_here.new.self in
    let ends = subst (λ (ws : List (VarId × ℤ)). TaskEndsPlainly c.args.self.now task c.in-Ok.how ws) (sym c.deref.ensures.value) c.in-Ok.ensures.ends in
    let h = subst (λ (b : BookView). TaskEndsPlainly b task c.in-Ok.how c.deref.result.now) (sym c.in-Ok.ensures.same) ends in
    record {
      running = subst (λ (b : BookView). IsRunning b task) (sym c.in-Ok.ensures.same) c.requires.running;
      outcome = h.outcome_is;
      after = h.after_is;
      ends = search rules;
      ascending = h.ascending;
      known = h.known;
    }

pub returns-clause-committed : goal.returns-clause-committed
returns-clause-committed c =
    let ends : c.in-Ok.how ≢ Retries = search rules in
    commits_as c.args.self.now c.end_here.new.self c.commit-number.new.self c.keep-2.new.self c.args.task c.in-Ok.how c.in-Ok.writes.items c.commit-number.result c.requires.running c.in-Ok.ensures.same c.in-Ok.ensures.ends ends c.commit-number.ensures.number c.commit-number.ensures.committed c.keep-2.ensures
