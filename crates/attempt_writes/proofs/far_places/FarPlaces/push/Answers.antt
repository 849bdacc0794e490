use Rattle.std.proofs.Common.{◌≡◌, ◌∙◌, ◌++◌, ◌∷◌, [], List, ℕ, length, ap, subst, arith}
use Rattle.std.specs.Prelude.{IsOk}
use Rattle.attempt_writes.specs.FarPlaces.{far_place, with_places}
use Rattle.attempt_writes.proofs.Far.{absent_far, length_with_places, more_with_places}
use Rattle.attempt_writes.proofs.far_places.FarPlaces.push.Goals as goal

pub returns-in_err-reserve-clause-in_place : goal.returns-in_err-reserve-clause-in_place
returns-in_err-reserve-clause-in_place c = λ few.
    let f = c.self.inside in
    let same : length (with_places f.numbers f.places.items) ≡ length c.args.self.now = ap length c.self.view_is in
    let each = c.self.invariant.each in
    let long = length_with_places f.numbers f.places.items each in
    let ok : IsOk c.reserve.result = c.reserve.ensures.succeeds (omega (arith, same, long, each, few, c.self.invariant.short)) in
    absurd (cc (subst IsOk c.in_err-reserve.was ok))

pub push-requires-clause-new : goal.push-requires-clause-new
push-requires-clause-new c =
    let f = c.self.inside in
    absent_far f.numbers f.places.items c.args.number c.self.invariant.each (ap (λ (ps : List (ℕ × ℕ)). far_place ps c.args.number) c.self.view_is ∙ c.requires.new)

pub returns-in_err-push-clause-in_place : goal.returns-in_err-push-clause-in_place
returns-in_err-push-clause-in_place c = λ few.
    let f = c.self.inside in
    let same : length (with_places f.numbers f.places.items) ≡ length c.args.self.now = ap length c.self.view_is in
    let long = length_with_places f.numbers f.places.items c.self.invariant.each in
    let ok : IsOk c.push.result = c.push.ensures.in_place (omega (arith, same, long, few)) in
    absurd (cc (subst IsOk c.in_err-push.was ok))

pub returns-clause-ok : goal.returns-clause-ok
returns-clause-ok c =
    let f = c.self.inside in
    let n = c.args.number in
    ap (λ (ns : List ℕ). with_places ns c.push_reserved.new.self.items) c.in_ok-push.ensures.ok
    ∙ ap (λ (ps : List ℕ). with_places (f.numbers ++ n ∷ []) ps) (c.push_reserved.ensures.items ∙ ap (λ (ps : List ℕ). ps ++ c.args.place ∷ []) c.reserve.ensures.items)
    ∙ more_with_places f.numbers f.places.items n c.args.place c.self.invariant.each
    ∙ ap (λ (ps : List (ℕ × ℕ)). ps ++ (n, c.args.place) ∷ []) c.self.view_is
