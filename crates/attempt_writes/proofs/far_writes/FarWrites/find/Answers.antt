use Rattle.std.proofs.Common.{◌≡◌, ◌<◌, ◌∙◌, ℕ, List, Option, Some, length, subst, sym, ap, arith, slice_get}
use Rattle.std.specs.Prelude.{IfSome}
use Rattle.std.proofs.lemmas.Option.{slice_get_within, slice_get-get_or}
use Rattle.attempt_writes.specs.FarWrites.{Far, far_now}
use Rattle.attempt_writes.specs.Known.{known_at}
use Rattle.attempt_writes.specs.Notes.{flat}
use Rattle.attempt_writes.proofs.FarLines.{gathered_absent, gathered_known}
use Rattle.attempt_writes.proofs.far_writes.FarWrites.find.Goals as goal

there : (ns : List ℕ) (n k : ℕ) (o : Option ℕ) → o ≡ Some k → IfSome o (λ j. slice_get ns j ≡ Some n) → slice_get ns k ≡ Some n
there ns n k o is h = subst (λ (q : Option ℕ). IfSome q (λ j. slice_get ns j ≡ Some n)) is h

pub returns-in-Some : goal.returns-in-Some
returns-in-Some c =
    let f = c.self.inside in
    let k = c.in-Some.k in
    let at = there f.numbers c.args.x.0 k c.find.result c.in-Some.is c.find.ensures.there in
    let within = slice_get_within f.numbers k c.args.x.0 at in
    let lt : k < length f.table.items = omega (arith, within, c.self.invariant.each) in
    c.index.ensures ∙ ap flat (sym (slice_get-get_or f.table.items k c.index.result.now lt))
    ∙ sym (gathered_known f.numbers f.table.items k c.args.x c.self.invariant.distinct c.self.invariant.each at)
    ∙ ap (λ (v : Far). known_at (far_now v) c.args.x) c.self.view_is

pub returns-in-None : goal.returns-in-None
returns-in-None c =
    let f = c.self.inside in
    sym (gathered_absent f.numbers f.table.items c.args.x (c.find.ensures.nowhere c.in-None.is))
    ∙ ap (λ (v : Far). known_at (far_now v) c.args.x) c.self.view_is
