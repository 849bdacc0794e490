-- What a contract sees of an attempt, and what an answer says.
use Rattle.std.specs.Prelude.{◌≡◌, ◌<◌, ℕ, ℤ, List, None, [], ◌∷◌, ◌++◌, length}
use Rattle.txn_programs.specs.Tree.{Program}
use Rattle.txn_programs.specs.Listing.{Listing, call_program}
use Rattle.txn_programs.specs.Meaning.{State, outcome, after}
use Rattle.txn_programs.specs.declared.ast.VarId.{VarId}
use Rattle.txn_programs.specs.declared.ast.TxId.{TxId}
use Rattle.txn_programs.specs.declared.ast.Outcome.{Outcome}
use Rattle.txn_programs.specs.declared.ast.Outcome.TheVariants.{Returned, Thrown, Retries}
use Rattle.attempt.specs.declared.next.Stand.{Stand}
use Rattle.attempt.specs.declared.next.Stand.TheVariants as stand
use Rattle.attempt.specs.declared.next.Next.{Next}
use Rattle.attempt.specs.declared.next.Next.TheVariants as next
use Rattle.attempt_machine.specs.Asking.{Known, ask, known_at, Needs, Ends}
use Rattle.attempt_machine.specs.Frame.{store}

pub record AttemptView : Type 0 where
  -- what it evaluates
  pub program : Program
  -- how many variables there are
  pub variables : ℕ
  -- what it was told, in this order
  pub log : Known
  -- the writes that remain, ascending by variable
  pub writes : Known
  pub stand : Stand
  -- how many nodes the last advance entered
  pub steps : ℕ
  -- how many nodes all advances entered
  pub total : ℕ

-- an attempt of a transaction with these arguments that was not advanced yet
abbrev pub fresh_attempt : Listing → TxId → List ℤ → AttemptView
fresh_attempt l id given =
    record { program = call_program l id given; variables = length l.initial; log = []; writes = []; stand = stand.Fresh; steps = 0; total = 0 }

-- the attempt as it began
abbrev pub begun_anew : AttemptView → AttemptView
begun_anew a =
    record { program = a.program; variables = a.variables; log = []; writes = []; stand = stand.Fresh; steps = 0; total = 0 }

-- the attempt with a variable's value at the end of its log
abbrev pub supplied : AttemptView → VarId → ℤ → AttemptView
supplied a x v =
    record { program = a.program; variables = a.variables; log = a.log ++ (x, v) ∷ []; writes = a.writes; stand = stand.Fresh; steps = a.steps; total = a.total }

-- the attempt after an advance that entered no node
abbrev pub idle : AttemptView → AttemptView
idle a = record { program = a.program; variables = a.variables; log = a.log; writes = a.writes; stand = a.stand; steps = 0; total = a.total }

-- the answer that tells an outcome
abbrev pub next_of : Outcome → Next
next_of (Returned v) = next.Returned v
next_of (Thrown f) = next.Thrown f
next_of Retries = next.Retry

-- an answer is what the program answers over the log, and the attempt stands there with the writes that remain
abbrev pub Answers : Next → AttemptView → Type 0
Answers (next.Need x) a = (ask a.program a.log ≡ Needs x) × (a.stand ≡ stand.Needs x)
Answers (next.Returned v) a = (ask a.program a.log ≡ Ends (Returned v) a.writes) × (a.stand ≡ stand.Over (Returned v))
Answers (next.Thrown f) a = (ask a.program a.log ≡ Ends (Thrown f) a.writes) × (a.stand ≡ stand.Over (Thrown f))
Answers next.Retry a = (ask a.program a.log ≡ Ends Retries a.writes) × (a.stand ≡ stand.Over Retries)
Answers next.Memory a = a.stand ≡ stand.Spent

-- where an answer is an end, then on the state m the program ends so, and the writes stored in m are the state after it
abbrev pub HoldsAt : Next → AttemptView → State → Type 0
HoldsAt (next.Need x) a m = Unit {0}
HoldsAt (next.Returned v) a m = (outcome a.program m ≡ Returned v) × (after a.program m ≡ store a.writes m)
HoldsAt (next.Thrown f) a m = (outcome a.program m ≡ Thrown f) × (after a.program m ≡ store a.writes m)
HoldsAt next.Retry a m = (outcome a.program m ≡ Retries) × (after a.program m ≡ store a.writes m)
HoldsAt next.Memory a m = Unit {0}

-- no end was reached as memory ran out: it waits for a variable that it was not told, or is spent
abbrev pub IsHeldUp : Stand → AttemptView → Type 0
IsHeldUp stand.Fresh a = ⊥
IsHeldUp (stand.Needs x) a = (ask a.program a.log ≡ Needs x) × (x.0 < a.variables) × (known_at a.log x ≡ None)
IsHeldUp (stand.Over o) a = ⊥
IsHeldUp stand.Spent a = Unit {0}

-- writes remain only where the program returned
abbrev pub OnlyOfReturned : Stand → Known → Type 0
OnlyOfReturned stand.Fresh w = w ≡ []
OnlyOfReturned (stand.Needs x) w = w ≡ []
OnlyOfReturned (stand.Over (Returned v)) w = Unit {0}
OnlyOfReturned (stand.Over (Thrown f)) w = w ≡ []
OnlyOfReturned (stand.Over Retries) w = w ≡ []
OnlyOfReturned stand.Spent w = w ≡ []
