use Rattle.std.proofs.Common.{◌∙◌, List, ℕ, ap, slice_get}
use Rattle.attempt_writes.specs.FarPlaces.{far_place}
use Rattle.attempt_writes.proofs.Far.{found_place, found_no_place}
use Rattle.attempt_writes.proofs.far_places.FarPlaces.find.Goals as goal

pub returns-in-Some : goal.returns-in-Some
returns-in-Some c =
    let f = c.self.inside in
    c.place_at.ensures ∙ ap (λ (ps : List ℕ). slice_get ps c.in-Some.k) c.as_slice.ensures
    ∙ found_place f.numbers f.places.items c.args.number c.in-Some.k c.find.result c.self.invariant.each c.find.ensures.there c.find.ensures.only c.find.ensures.nowhere c.in-Some.is
    ∙ ap (λ (ps : List (ℕ × ℕ)). far_place ps c.args.number) c.self.view_is

pub returns-in-None : goal.returns-in-None
returns-in-None c =
    let f = c.self.inside in
    found_no_place f.numbers f.places.items c.args.number c.find.result c.self.invariant.each c.find.ensures.there c.find.ensures.only c.find.ensures.nowhere c.in-None.is
    ∙ ap (λ (ps : List (ℕ × ℕ)). far_place ps c.args.number) c.self.view_is
