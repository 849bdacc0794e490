-- The program of a plan: what each job waits for.
use Rattle.std.specs.Prelude.{◌≡◌, ℕ, zero, suc, pos, List, [], ◌∷◌, ◌++◌, length, map, replicate}
use Rattle.txn_programs.specs.declared.ast.VarId.{VarId}
use Rattle.txn_programs.specs.declared.ast.Tx.{Tx}
use Rattle.txn_programs.specs.Tree.{statement_of, Int, Var, Eq, Statement, Set, Seq, If, Retry, Skip, Statements, End, More}
use Rattle.txn_programs.specs.Listing.{Listing}
use Rattle.example_scheduler.specs.declared.planning.Step.{Step}

-- the flag of a job
abbrev pub flag : ℕ → VarId
flag i = record { 0 = i }

-- waits until the flag is set
abbrev pub wait_for : ℕ → Statement
wait_for i = If (Eq (Var (flag i)) (Int (pos 0))) Retry Skip

abbrev pub waits : List ℕ → Statements
waits [] = End
waits (i ∷ rest) = More (wait_for i) (waits rest)

-- the first n jobs' ends: each sets its flag
abbrev pub ends : ℕ → List Statement
ends zero = []
ends (suc n) = ends n ++ Set (flag n) (Int (pos 1)) ∷ []

-- what the transactions do: each job's begin waits for the flags of those that it waits for; then come the ends
abbrev pub bodies : List (List ℕ) → List Statement
bodies after = map (λ before. Seq (waits before)) after ++ ends (length after)

-- what a transaction does
abbrev pub body_of : Tx → Statement
body_of tx = statement_of tx.body

-- the program of a plan: no flag is set at first
pub record IsPlan (after : List (List ℕ)) (l : Listing) : Type 0 where
  pub flags : l.initial ≡ replicate (length after) (pos 0)
  pub transactions : map (λ t. t.body) l.transactions ≡ bodies after

-- what each job waits for
abbrev pub after_of : List Step → List (List ℕ)
after_of steps = map (λ step. step.after.items) steps
