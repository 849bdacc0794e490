use Rattle.std.proofs.Common.{◌∙◌, refl, arith, ap, sym, subst, ℤ, List}
use Rattle.txn_programs.specs.declared.ast.VarId.{VarId}
use Rattle.book.specs.declared.stored.Stored.{Stored}
use Rattle.book.specs.Turns.{TaskEndsPlainly}
use Rattle.book.proofs.PlainKept.{same_view, same_kept, ends_here}
use Rattle.book.proofs.book.Book.end_here.Goals as goal

pub end_plainly-requires-clause-few : goal.end_plainly-requires-clause-few
end_plainly-requires-clause-few c = omega (arith, c.self.invariant.fits.values, c.self.invariant.fits.few_values)

pub invariant_of-self : goal.invariant_of-self
invariant_of-self c =
    let s = c.self.inside in
    let p : Stored = record { number = s.present.number; values = c.end_plainly.new.values; versions = s.present.versions } in
    same_kept s c.end_plainly.new.chapter p c.end_plainly.new.written c.end_plainly.ensures.chapter refl c.end_plainly.ensures.same refl c.self.invariant

pub returns-in_default-clause-same : goal.returns-in_default-clause-same
returns-in_default-clause-same c =
    let s = c.self.inside in
    let p : Stored = record { number = s.present.number; values = c.end_plainly.new.values; versions = s.present.versions } in
    same_view s c.end_plainly.new.chapter p c.end_plainly.new.written c.end_plainly.ensures.chapter refl c.end_plainly.ensures.same refl ∙ c.self.view_is

pub invariant_of-self-2 : goal.invariant_of-self-2
invariant_of-self-2 c =
    let s = c.self.inside in
    let p : Stored = record { number = s.present.number; values = c.end_plainly.new.values; versions = s.present.versions } in
    same_kept s c.end_plainly.new.chapter p _ c.end_plainly.ensures.chapter refl c.end_plainly.ensures.same refl c.self.invariant

pub returns-clause-same : goal.returns-clause-same
returns-clause-same c =
    let s = c.self.inside in
    let p : Stored = record { number = s.present.number; values = c.end_plainly.new.values; versions = s.present.versions } in
    same_view s c.end_plainly.new.chapter p c.end_plainly.new.written c.end_plainly.ensures.chapter refl c.end_plainly.ensures.same refl ∙ c.self.view_is

pub returns-clause-ends : goal.returns-clause-ends
returns-clause-ends c =
    let ends = ends_here c.self.inside c.args.self.now c.args.task c.in-Ok.how c.end_plainly.new.written.writes.items c.self.view_is c.in-Ok.ensures.ends in
    subst (λ (ws : List (VarId × ℤ)). TaskEndsPlainly c.args.self.now c.args.task c.in-Ok.how ws) (sym (ap (λ ws. ws.items) c.replace-writes.ensures.value)) ends
