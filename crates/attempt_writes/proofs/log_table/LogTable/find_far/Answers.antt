use Rattle.std.proofs.Common.{◌∙◌, List, ℕ, Option, sym, ap, arith}
use Rattle.attempt_writes.specs.FarPlaces.{far_place}
use Rattle.attempt_writes.specs.Known.{Known, known_at}
use Rattle.attempt_writes.specs.LogTableInside.{pairs_of}
use Rattle.attempt_writes.specs.Places.{placed_value}
use Rattle.attempt_writes.proofs.Placed.{known_by_far}
use Rattle.attempt_writes.proofs.log_table.LogTable.find_far.Goals as goal

pub returns-in-Some : goal.returns-in-Some
returns-in-Some c =
    let b = c.self.inside in
    let w = pairs_of b in
    let x = c.args.x in
    c.look.ensures ∙ ap (λ (o : Option ℕ). placed_value o w x) (sym c.in-Some.is ∙ c.find.ensures ∙ ap (λ (ps : List (ℕ × ℕ)). far_place ps x.0) c.self.invariant.far)
    ∙ sym (known_by_far w x (omega (arith, c.requires))) ∙ ap (λ (l : Known). known_at l x) c.self.view_is

pub returns-in-None : goal.returns-in-None
returns-in-None c =
    let b = c.self.inside in
    let w = pairs_of b in
    let x = c.args.x in
    ap (λ (o : Option ℕ). placed_value o w x) (sym c.in-None.is ∙ c.find.ensures ∙ ap (λ (ps : List (ℕ × ℕ)). far_place ps x.0) c.self.invariant.far)
    ∙ sym (known_by_far w x (omega (arith, c.requires))) ∙ ap (λ (l : Known). known_at l x) c.self.view_is
