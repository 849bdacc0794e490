use Rattle.std.proofs.Common.{◌≡◌, ℕ, Option, arith, sym, ap, ◌∙◌, subst}
use Rattle.std.proofs.lemmas.Option.{same_Some}
use Rattle.txn_programs.specs.declared.ast.Outcome.{Outcome}
use Rattle.txn_programs.specs.declared.report.Entry.{Entry}
use Rattle.book.specs.Tasks.{Done}
use Rattle.book.specs.Recorded.{IsRecorded}
use Rattle.book.proofs.Recording.{no_entry, entry_within, entry_read}
use Rattle.book.proofs.book.Book.outcome.Goals as goal

pub returns-in_err-number : goal.returns-in_err-number
returns-in_err-number c =
    subst (λ (r : Option Outcome). IsRecorded c.args.self.now c.args.task r) (sym c.from_residual.ensures)
    (no_entry c.self.inside c.args.self.now c.args.task c.self.view_is c.self.invariant.lawful (λ n e. absurd (c.in_err-number.ensures.none n e)))

same_number : (n m : ℕ) → Done n ≡ Done m → n ≡ m
same_number n m e = cc

pub returns-then-number-self : goal.returns-then-number-self
returns-then-number-self c =
    no_entry c.self.inside c.args.self.now c.args.task c.self.view_is c.self.invariant.lawful
    (λ n e. omega (arith, c.if-number-self.true, same_number n c.in_ok-number.number (same_Some _ _ (sym e ∙ c.in_ok-number.ensures.some))))

pub index-requires : goal.index-requires
index-requires c =
    omega (arith, c.self.inside.journal.ok.0, entry_within c.self.inside c.args.self.now c.args.task c.in_ok-number.number c.self.view_is c.self.invariant.lawful c.in_ok-number.ensures.some c.if-number-self.false)

pub returns : goal.returns
returns c =
    entry_read c.self.inside c.args.self.now c.args.task c.in_ok-number.number c.self.view_is c.self.invariant.lawful c.in_ok-number.ensures.some c.if-number-self.false
    c.index.result.now c.entry.result.outcome c.index.ensures (ap (λ (e : Entry). e.outcome) (sym c.entry.ensures))
