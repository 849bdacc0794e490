-- The names that may stand in a condition, a statement or an expression.
use Rattle.std.specs.Prelude.{ℕ, List, []}
use Rattle.txn_programs.specs.declared.ast.Span.{Span}

pub record Scope : Type 0 where
  pub variables : List (List ℕ)
  pub tables : List (List ℕ)
  -- the cells of each table; there are none while names alone are judged
  pub spans : List Span
  pub parameters : List (List ℕ)

-- in a standing condition: there are no parameters
abbrev pub standing : List (List ℕ) → List (List ℕ) → List Span → Scope
standing variables tables spans = record { variables = variables; tables = tables; spans = spans; parameters = [] }

-- the same in a transaction with these parameters
abbrev pub inside : Scope → List (List ℕ) → Scope
inside s parameters = record { variables = s.variables; tables = s.tables; spans = s.spans; parameters = parameters }
