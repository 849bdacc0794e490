-- The pass while a transaction is observed, and the end of the attempt.
use Rattle.std.proofs.Common.{◌≡◌, ◌≢◌, ◌⊎◌, ◌∙◌, ℕ, zero, suc, ◌+◌, ◌<◌, ◌≤◌, ℤ, List, [], ◌∷◌, length, None, ap, subst, sym, refl, inl, inr, arith}
use Rattle.txn_programs.specs.declared.ast.Outcome.{Outcome}
use Rattle.txn_programs.specs.declared.ast.Outcome.TheVariants.{Returned, Thrown, Retries}
use Rattle.txn_programs.specs.declared.ast.TxId.{TxId}
use Rattle.txn_programs.specs.declared.ast.VarId.{VarId}
use Rattle.txn_programs.specs.Listing.{Listing, call_program, program_at}
use Rattle.txn_programs.specs.Meaning.{State, value_at, outcome}
use Rattle.txn_programs.specs.Tree.{Program}
use Rattle.txn_words.specs.Words.{state_value, state_of, StartsWith}
use Rattle.txn_words.specs.Stores.{id_of, new_of}
use Rattle.txn_words.proofs.Words.{starts_on, seen_state, seen_shorter}
use Rattle.attempt.specs.Asking.{Known, known_at}
use Rattle.attempt.specs.Frame.{Agrees}
use Rattle.attempt.specs.Order.{AllKnown, Apart}
use Rattle.attempt.specs.View.{AttemptView, supplied, next_of, Answers, HoldsAt}
use Rattle.attempt.specs.declared.next.Next.{Next}
use Rattle.attempt.specs.declared.next.Next.TheVariants as next
use Rattle.attempt.specs.Room.{NeedsNoMemory}
use Rattle.attempt.specs.declared.next.Stand.TheVariants.{Over, Needs, Fresh, Spent}
use Rattle.cells.specs.Cells.{CellsId}
use Rattle.cells.specs.Passing.{Passing, at, BeginsBy}
use Rattle.cells.specs.Answers.{AgreesUpTo}
use Rattle.attempt.proofs.Calls.{call_small}
use Rattle.attempt.proofs.Logs.{Going, agrees_more, known_more, apart_more, few_more, few_apart}
use Rattle.run_observer.specs.Observing.{ObservesBy, ShowsChange, IsStaleFrom, Moment, moment, StaysAt, TellsBy, MovesOn, ShowsOther, IsCutFrom, EvaluatesTo, LacksMemory}

-- a pass that stays is at the same state
pub at_stays : (p q : Passing) → StaysAt p q → at q ≡ at p
at_stays p q h = ap (λ (s : List (List ℤ)). state_of s q.rv) h.1 ∙ ap (state_of p.seen) h.2

-- and at the same moment
pub moment_stays : (p q : Passing) → q.cells ≡ p.cells → StaysAt p q → moment q ≡ moment p
moment_stays p q e h =
    let cells : moment q ≡ record { cells = p.cells; seen = q.seen; clock_loads = q.clock_loads; rv = q.rv } = ap (λ (z : CellsId). record { cells = z; seen = q.seen; clock_loads = q.clock_loads; rv = q.rv }) e in
    let seen : record { cells = p.cells; seen = q.seen; clock_loads = q.clock_loads; rv = q.rv } ≡ record { cells = p.cells; seen = p.seen; clock_loads = q.clock_loads; rv = q.rv } = ap (λ (z : List (List ℤ)). record { cells = p.cells; seen = z; clock_loads = q.clock_loads; rv = q.rv }) h.1 in
    let clock : record { cells = p.cells; seen = p.seen; clock_loads = q.clock_loads; rv = q.rv } ≡ record { cells = p.cells; seen = p.seen; clock_loads = p.clock_loads; rv = q.rv } = ap (λ (z : ℕ). record { cells = p.cells; seen = p.seen; clock_loads = z; rv = q.rv }) h.0 in
    let rv : record { cells = p.cells; seen = p.seen; clock_loads = p.clock_loads; rv = q.rv } ≡ moment p = ap (λ (z : ℕ). record { cells = p.cells; seen = p.seen; clock_loads = p.clock_loads; rv = z }) h.2 in
    cells ∙ (seen ∙ (clock ∙ rv))

pub stays_at : (p q : Passing) → moment q ≡ moment p → StaysAt p q
stays_at p q e = (ap (λ (k : Moment). k.clock_loads) e, ap (λ (k : Moment). k.seen) e, ap (λ (k : Moment). k.rv) e)

-- the outcome of an attempt's program is that of the transaction
pub ends : (l : Listing) (tx : TxId) (given : List ℤ) (t : Program) (m : State) (o : Outcome) → t ≡ call_program l tx given → outcome t m ≡ o → outcome (call_program l tx given) m ≡ o
ends l tx given t m o own h = ap (λ (u : Program). outcome u m) (sym own) ∙ h

-- a log's variables, by their places
pub known_each : (n : ℕ) (log : Known) → AllKnown n log → (i : ℕ) → i < length log → id_of log i < n
known_each n [] k i low = absurd (omega (arith, low))
known_each n (p ∷ rest) k zero low = k.0
known_each n (p ∷ rest) k (suc i) low = known_each n rest k.1 i (omega (arith, low))

-- a log that agrees with a state, by its places, and back
pub agrees_each : (log : Known) (m : State) → Agrees log m → (i : ℕ) → i < length log → state_value m (id_of log i) ≡ new_of log i
agrees_each [] m h i low = absurd (omega (arith, low))
agrees_each (p ∷ rest) m h zero low = h.0
agrees_each (p ∷ rest) m h (suc i) low = agrees_each rest m h.1 i (omega (arith, low))

pub agrees_all : (log : Known) (m : State) → AgreesUpTo log m (length log) → Agrees log m
agrees_all [] m h = tt
agrees_all (p ∷ rest) m h = (h zero (omega arith), agrees_all rest m (λ i low. h (suc i) (omega (arith, low))))

-- the pass p began, and moved at most n times since
pub record Moving (p q : Passing) (n : ℕ) : Type 0 where
  pub cells : q.cells ≡ p.cells
  pub seen : StartsWith q.seen p.seen
  pub begins : p.clock_loads < q.clock_loads
  pub moves : q.clock_loads ≤ p.clock_loads + 1 + n
  pub rv : length q.seen ≡ q.rv + 1

pub moving_first : (p q : Passing) → BeginsBy p q → Moving p q 0
moving_first p q h =
    record { cells = h.cells; seen = h.seen; begins = omega (arith, h.clock_loads); moves = omega (arith, h.clock_loads); rv = h.rv }

pub moving_more : (p q r : Passing) (n k : ℕ) (log : Known) → Moving p q n → TellsBy q r log → k ≡ n + 1 → Moving p r k
moving_more p q r n k log h t e = elim t.moment [
  | inl stays ↦ record {
    cells = t.cells ∙ h.cells;
    seen = starts_on r.seen q.seen p.seen t.seen h.seen;
    begins = omega (arith, h.begins, stays.0);
    moves = omega (arith, h.moves, stays.0, e);
    rv = ap length stays.1 ∙ (h.rv ∙ ap (λ (k : ℕ). k + 1) (sym stays.2));
  }
  | inr moves ↦ record {
    cells = t.cells ∙ h.cells;
    seen = starts_on r.seen q.seen p.seen t.seen h.seen;
    begins = omega (arith, h.begins, moves.0);
    moves = omega (arith, h.moves, moves.0, e);
    rv = moves.1;
  }
]

pub moving_few : (p q : Passing) (n : ℕ) → Moving p q n → n ≤ q.cells.variables → ObservesBy p q
moving_few p q n h few = record { cells = h.cells; seen = h.seen; begins = h.begins; moves = omega (arith, h.moves, few); rv = h.rv }

-- what a log has of a state differs from the last state, so that state is an earlier one
other_changed : (p q r : Passing) (n : ℕ) (log : Known) → Moving p q n → Agrees log (at q) → TellsBy q r log → MovesOn q r → ShowsOther r log → ShowsChange p r
other_changed p q r n log h g t moves (i, low, is, other) =
    let was : state_of r.seen q.rv ≡ at q = seen_state r.seen q.seen q.rv t.seen (omega (arith, h.rv)) in
    let before : state_value (state_of r.seen q.rv) (id_of log i) ≡ new_of log i = ap (λ m. state_value m (id_of log i)) was ∙ agrees_each log (at q) g i low in
    let apart : r.rv ≢ q.rv = λ e. other (ap (λ k. state_value (state_of r.seen k) (id_of log i)) e ∙ before) in (
      q.rv,
      omega (arith, seen_shorter q.seen p.seen h.seen, h.rv),
      omega (arith, seen_shorter r.seen q.seen t.seen, h.rv, moves.1, apart),
      λ e. other (ap (state_value (at r)) (sym is) ∙ (e ∙ (ap (state_value (state_of r.seen q.rv)) is ∙ before))),
    )

pub cut_stale : (p q r : Passing) (n : ℕ) (log : Known) → Moving p q n → Agrees log (at q) → TellsBy q r log → IsCutFrom q r log → IsStaleFrom p r
cut_stale p q r n log h g t (moves, closed, why) = (
  closed,
  omega (arith, h.begins, moves.0),
  elim why [
    | inl loads ↦ inl loads
    | inr other ↦ inr (other_changed p q r n log h g t moves other)
  ],
)

-- an attempt that was told one more variable goes on in the state to which the pass moved
pub going_told : (l : Listing) (tx : TxId) (given : List ℤ) (m m' : State) (b b' : AttemptView) (x : VarId) (v : ℤ) → x.0 < length l.initial → known_at b.log x ≡ None → b' ≡ supplied b x v → (Agrees b.log m → Agrees b'.log m') → Going l tx given m b → Going l tx given m' b'
going_told l tx given m m' b b' x v low new is agrees h =
    record {
      program = ap (λ (s : AttemptView). s.program) is ∙ h.program;
      variables = ap (λ (s : AttemptView). s.variables) is ∙ h.variables;
      agrees = agrees h.agrees;
      apart = subst (λ (s : AttemptView). Apart s.log) (sym is) (apart_more b.log x v h.apart new);
      known = subst (λ (s : AttemptView). AllKnown (length l.initial) s.log) (sym is) (known_more (length l.initial) b.log x v h.known low);
    }

-- an attempt that was told the value of a state agrees with it on
pub agrees_told : (b b' : AttemptView) (m : State) (x : VarId) → b' ≡ supplied b x (value_at m x) → Agrees b.log m → Agrees b'.log m
agrees_told b b' m x is h = subst (λ (s : AttemptView). Agrees s.log m) (sym is) (agrees_more b.log m x (value_at m x) h refl)

-- what an attempt needs is not in its log, so the log has room for it
pub room_for : (l : Listing) (tx : TxId) (given : List ℤ) (m : State) (b : AttemptView) (x : VarId) → Going l tx given m b → x.0 < b.variables → known_at b.log x ≡ None → (x.0 < length l.initial) × (length b.log < length l.initial)
room_for l tx given m b x h low new =
    let known : x.0 < length l.initial = omega (arith, low, h.variables) in
    (known, few_more (length l.initial) b.log x (value_at m x) h.apart h.known new known)

-- so a pass that moved at most once for each variable of the log did so for each variable at most
pub observes : (l : Listing) (tx : TxId) (given : List ℤ) (m : State) (a : AttemptView) (p q : Passing) → Going l tx given m a → Moving p q (length a.log) → q.cells.variables ≡ length l.initial → ObservesBy p q
observes l tx given m a p q g h wide = moving_few p q (length a.log) h (omega (arith, few_apart (length l.initial) a.log g.apart g.known, wide))

-- an attempt that read in place goes on in the state at which the pass stays
pub read_on : (l : Listing) (tx : TxId) (given : List ℤ) (p q r : Passing) (a b : AttemptView) → r.cells ≡ q.cells → StaysAt q r → length a.log ≤ length b.log → b.program ≡ a.program → b.variables ≡ a.variables →
    (Agrees a.log (at q) → Agrees b.log (at q)) → AllKnown b.variables b.log → Apart b.log → Going l tx given (at q) a → Moving p q (length a.log) → Going l tx given (at r) b × Moving p r (length b.log)
read_on l tx given p q r a b cells stays grows program variables agrees known apart g h = (
  record {
    program = program ∙ g.program;
    variables = variables ∙ g.variables;
    agrees = subst (Agrees b.log) (sym (at_stays q r stays)) (agrees g.agrees);
    apart = apart;
    known = subst (λ (n : ℕ). AllKnown n b.log) (variables ∙ g.variables) known;
  },
  record {
    cells = cells ∙ h.cells;
    seen = subst (λ (s : List (List ℤ)). StartsWith s p.seen) (sym stays.1) h.seen;
    begins = omega (arith, h.begins, stays.0);
    moves = omega (arith, h.moves, stays.0, grows);
    rv = ap length stays.1 ∙ (h.rv ∙ ap (λ (k : ℕ). k + 1) (sym stays.2));
  },
)

-- an answer that is an end is no need
pub end_needs_none : (o : Outcome) (n : Next) (x : VarId) → n ≡ next_of o → n ≢ next.Need x
end_needs_none (Returned v) n x e f = cc
end_needs_none (Thrown v) n x e f = cc
end_needs_none Retries n x e f = cc

pub memory_needs_none : (n : Next) (x : VarId) → n ≡ next.Memory → n ≢ next.Need x
memory_needs_none n x e f = cc

-- an answer that memory ran out has spent the attempt, whose program may take some
pub lacks_more : (l : Listing) (tx : TxId) (given : List ℤ) (m : State) (n : Next) (a b : AttemptView) → n ≡ next.Memory → Answers n b → Going l tx given m a → a.stand ≡ Fresh → (NeedsNoMemory a.program → a.stand ≢ Spent → n ≢ next.Memory) → LacksMemory l tx b
lacks_more l tx given m n a b e says g fresh short = (
  λ small. absurd (short (subst NeedsNoMemory (sym g.program) (call_small given (program_at l tx) small)) (λ spent. fresh_stays (sym fresh ∙ spent)) e),
  inl (subst (λ (k : Next). Answers k b) e says),
)
  where
    fresh_stays : Fresh ≢ Spent
    fresh_stays e = cc

-- an attempt that needs a variable, and was told nothing for want of room
pub lacks_room : (l : Listing) (tx : TxId) (given : List ℤ) (m : State) (n : Next) (x : VarId) (b d : AttemptView) → n ≡ next.Need x → Answers n b → Going l tx given m b → (x.0 < b.variables) × (known_at b.log x ≡ None) → d ≡ b → 8 ≤ length b.log → LacksMemory l tx d
lacks_room l tx given m n x b d e says g needed same many = (
  λ small. omega (arith, (room_for l tx given m b x g needed.0 needed.1).1, many),
  subst (λ (k : AttemptView). (k.stand ≡ Spent) ⊎ ((y : VarId) × (k.stand ≡ Needs y) × (8 ≤ length k.log))) (sym same) (inr (x, (subst (λ (k : Next). Answers k b) e says).1, many)),
)

-- an attempt that has ended has done so on each state that agrees with its log
pub evaluates_to : (l : Listing) (tx : TxId) (given : List ℤ) (m : State) (o : Outcome) (n : Next) (a : AttemptView) → n ≡ next_of o → Answers n a → ((s : State) → length s ≡ a.variables → Agrees a.log s → HoldsAt n a s) → length m ≡ length l.initial → Going l tx given m a → EvaluatesTo l tx given m o a
evaluates_to l tx given m o n a e ans holds wide g =
    let frame : (s : State) → length s ≡ length l.initial → Agrees a.log s → outcome (call_program l tx given) s ≡ o =
    λ s len h. ends l tx given a.program s o g.program (outcome_held o n a s e (holds s (len ∙ sym g.variables) h)) in
    record { program = g.program; variables = g.variables; ended = stand_held o n a e ans; agrees = g.agrees; outcome_is = frame m wide g.agrees; frame = frame }
  where
    stand_held : (o : Outcome) (n : Next) (a : AttemptView) → n ≡ next_of o → Answers n a → a.stand ≡ Over o
    stand_held (Returned v) n a e h = (subst (λ (k : Next). Answers k a) e h).1
    stand_held (Thrown v) n a e h = (subst (λ (k : Next). Answers k a) e h).1
    stand_held Retries n a e h = (subst (λ (k : Next). Answers k a) e h).1

    outcome_held : (o : Outcome) (n : Next) (a : AttemptView) (s : State) → n ≡ next_of o → HoldsAt n a s → outcome a.program s ≡ o
    outcome_held (Returned v) n a s e h = (subst (λ (k : Next). HoldsAt k a s) e h).0
    outcome_held (Thrown v) n a s e h = (subst (λ (k : Next). HoldsAt k a s) e h).0
    outcome_held Retries n a s e h = (subst (λ (k : Next). HoldsAt k a s) e h).0
