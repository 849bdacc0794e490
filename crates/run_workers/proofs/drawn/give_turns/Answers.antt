use Rattle.std.proofs.Common.{ℕ, refl, sym, ◌∙◌, subst}
use Rattle.std.proofs.lemmas.Option.{slice_get_within}
use Rattle.book.specs.Tasks.{Running}
use Rattle.book.proofs.Draining.{runs_now, started_falls, started_idle}
use Rattle.run_workers.specs.Drawing.{DrawnTurns, drawn_number}
use Rattle.run_workers.proofs.Drawing.{starts, gives_started}
use Rattle.run_workers.proofs.Sparing.{turned_gives}
use Rattle.run_workers.proofs.drawn.give_turns.Goals as goal

pub loop-task-init : goal.loop-task-init
loop-task-init c = (
  subst (λ (n : ℕ). DrawnTurns c.args.every c.args.seed c.args.book.now n c.args.book.now) (sym c.seed_from_u64-draws.ensures.same) DrawnTurns.NoTurn,
  c.requires.none_runs,
  λ h. h,
  refl,
)

pub serve-how-requires : goal.serve-how-requires
serve-how-requires c =
    let s = starts (drawn_number c.loop-task.draws c.loop-task.book) c.loop-task.book c.draw.new.book c.in-Some.task c.in-Some.ensures.taken in
    record { exists = slice_get_within c.draw.new.book.tasks c.in-Some.task.0 Running (runs_now c.loop-task.book c.draw.new.book c.in-Some.task s) }

pub loop-task-smaller : goal.loop-task-smaller
loop-task-smaller c =
    let s = starts (drawn_number c.loop-task.draws c.loop-task.book) c.loop-task.book c.draw.new.book c.in-Some.task c.in-Some.ensures.taken in
    started_falls c.loop-task.book c.draw.new.book c.in-Some.task s c.args.every c.keep_short.new.self
    (c.serve-how.result, (c.serve-how.new.self, c.serve-how.ensures.served, c.keep_short.ensures.kept_short))

pub loop-task-preserved : goal.loop-task-preserved
loop-task-preserved c =
    let a = c.loop-task.book in
    let b = c.draw.new.book in
    let task = c.in-Some.task in
    let s = starts (drawn_number c.loop-task.draws a) a b task c.in-Some.ensures.taken in
    let inv = c.loop-task.invariant in (
      subst (λ (n : ℕ). DrawnTurns c.args.every c.args.seed c.args.book.now n c.keep_short.new.self) (sym c.in-Some.ensures.draws)
          (DrawnTurns.OneMore b task inv.0 c.in-Some.ensures.taken
          (c.serve-how.result, (c.serve-how.new.self, c.serve-how.ensures.served, c.keep_short.ensures.kept_short))),
      started_idle a b task s c.args.every c.keep_short.new.self inv.1
          (c.serve-how.result, (c.serve-how.new.self, c.serve-how.ensures.served, c.keep_short.ensures.kept_short)),
      λ h.
          turned_gives c.args.every b task c.serve-how.result c.serve-how.new.self c.keep_short.new.self c.serve-how.ensures.served c.serve-how.ensures.memory c.keep_short.ensures.kept_short
          (gives_started a b task s (inv.2 h)),
      c.keep_short.ensures.catalogue ∙ (c.serve-how.ensures.catalogue ∙ (c.in-Some.ensures.catalogue ∙ inv.3)),
    )
