use Rattle.std.proofs.Common.{rules, ◌≡◌, ℕ, true, ap, arith, length, length-append}
use Rattle.run_observer.specs.Observing.{Moment}
use Rattle.run_observer.proofs.Seeing.{stays_at}
use Rattle.run_observer.proofs.reading.advance_on.Goals as goal

pub returns-clause-cells : goal.returns-clause-cells
returns-clause-cells g c =
    let kept = c.advance_by.ensures.kept in
    let name = ap (λ (k : Moment × ℕ). k.1) kept in
    let cells = ap (λ (k : Moment × ℕ). k.0.cells) kept in
    search rules

pub returns-clause-stays : goal.returns-clause-stays
returns-clause-stays g c =
    let kept = c.advance_by.ensures.kept in
    let name = ap (λ (k : Moment × ℕ). k.1) kept in
    let stays = stays_at c.args.pass.now c.advance_by.new.reader.pass.now (ap (λ (k : Moment × ℕ). k.0) kept) in
    search rules

pub returns-clause-open : goal.returns-clause-open
returns-clause-open g c = λ other was.
    let name = ap (λ (k : Moment × ℕ). k.1) c.advance_by.ensures.kept in
    let open_still : c.advance_by.new.reader.pass.now.open_now ≡ true = c.advance_by.ensures.open other was in
    search rules

pub returns-clause-grows : goal.returns-clause-grows
returns-clause-grows g c =
    let reads = c.advance_by.ensures.reads in
    omega (arith, ap length reads.grown, length-append c.args.attempt.now.log reads.read)
