use Rattle.std.proofs.Common.{◌≡◌, Some, map, refl, subst}
use Rattle.std.specs.List.{slice_get}
use Rattle.book.specs.Recorded.{told_as}
use Rattle.book.specs.declared.standing.Standing.{Standing}
use Rattle.stm_store.proofs.Asked.{told_running, told_other}
use Rattle.stm_store.proofs.store.Store.turn.Goals as goal

pub returns-in_default-clause-turn : goal.returns-in_default-clause-turn
returns-in_default-clause-turn c = (
  c.has_now.ensures.0 c.if-not-has_now.false,
  told_other c.args.self.now.book.tasks c.args.job.task.0 c.standing.result c.standing.ensures c.in_default.not-Running,
  refl,
)

pub give_turn-requires : goal.give_turn-requires
give_turn-requires c =
    let ts = c.args.self.now.book.tasks in
    record {
      running = told_running ts c.args.job.task.0 (subst (λ (s : Standing). slice_get (map told_as ts) c.args.job.task.0 ≡ Some s) c.in-Running.is c.standing.ensures);
    }

pub returns-clause-turn : goal.returns-clause-turn
returns-clause-turn c =
    let ts = c.args.self.now.book.tasks in (
      c.has_now.ensures.0 c.if-not-has_now.false,
      told_running ts c.args.job.task.0 (subst (λ (s : Standing). slice_get (map told_as ts) c.args.job.task.0 ≡ Some s) c.in-Running.is c.standing.ensures),
      c.give_turn.ensures.ends,
    )
