-- Values of a report fit 64 signed bits.
use Rattle.std.specs.Prelude.{ℕ, ℤ, List, All, FitsSigned}
use Rattle.std.specs.Int.{w64}
use Rattle.txn_programs.specs.declared.ast.Fault.TheVariants.{User, Overflow, DivideByZero, Broken, Outside}
use Rattle.txn_programs.specs.declared.ast.Outcome.{Outcome}
use Rattle.txn_programs.specs.declared.ast.Outcome.TheVariants.{Returned, Thrown, Retries}
use Rattle.txn_programs.specs.declared.report.Entry.{Entry}
use Rattle.txn_programs.specs.Told.{Told}

abbrev pub OutcomeFits : Outcome → Type 0
OutcomeFits (Returned v) = FitsSigned w64 v
OutcomeFits (Thrown (User v)) = FitsSigned w64 v
OutcomeFits (Thrown Overflow) = Unit {0}
OutcomeFits (Thrown DivideByZero) = Unit {0}
OutcomeFits (Thrown (Broken id)) = Unit {0}
OutcomeFits (Thrown Outside) = Unit {0}
OutcomeFits Retries = Unit {0}

abbrev pub ValuesFit : List (ℤ × ℕ) → Type 0
ValuesFit vars = All (λ v. FitsSigned w64 v.0) vars

abbrev pub OutcomesFit : List Entry → Type 0
OutcomesFit entries = All (λ (e : Entry). OutcomeFits e.outcome) entries

pub record ReportFits (r : Told) : Type 0 where
  pub base : ValuesFit r.base_vars
  pub entries : OutcomesFit r.entries
  pub current : ValuesFit r.current_vars
