use Rattle.std.proofs.Common.{ℕ, List, sym, subst, set, arith}
use Rattle.book.specs.Changed.{AreAbove}
use Rattle.book.proofs.Changed.{room_left, above_new, above_again}
use Rattle.book.proofs.since.note.Goals as goal

pub returns-then-from-past-clause-listed : goal.returns-then-from-past-clause-listed
returns-then-from-past-clause-listed c = λ n high.
    above_again c.args.past c.args.versions.now c.args.list.now.items c.args.variable.0 n c.requires.listed c.requires.known (omega (arith, c.from.ensures, c.if-from-past.true)) high

pub add-requires : goal.add-requires
add-requires c =
    omega (arith, room_left c.args.past c.args.versions.now c.args.list.now.items c.args.variable.0 c.requires.listed c.requires.known (omega (arith, c.from.ensures, c.if-from-past.false)), c.requires.room, c.args.list.now.ok.0)

pub returns-clause-listed : goal.returns-clause-listed
returns-clause-listed c = λ n high.
    subst (λ (l : List ℕ). AreAbove c.args.past (set c.args.versions.now c.args.variable.0 n) l) (sym c.add.ensures.items)
    (above_new c.args.past c.args.versions.now c.args.list.now.items c.args.variable.0 n c.requires.listed c.requires.known (omega (arith, c.from.ensures, c.if-from-past.false)) high)
