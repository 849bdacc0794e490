-- What is read in place: each pair is of the variable that was needed, and the log stays one that an attempt may have.
use Rattle.std.proofs.Common.{ℕ, [], ◌∷◌, ◌++◌, sym, subst}
use Rattle.std.proofs.lemmas.List.{append-nil, append_assoc}
use Rattle.txn_programs.specs.Meaning.{State}
use Rattle.txn_programs.specs.Scope.{ProgramKnown}
use Rattle.txn_programs.specs.Tree.{Program}
use Rattle.attempt_machine.specs.Asking.{Known}
use Rattle.attempt_machine.specs.Frame.{Agrees}
use Rattle.attempt_machine.specs.Reading.{AreNeeded, ReadsOn}
use Rattle.attempt_writes.specs.Order.{AllKnown, Apart}
use Rattle.attempt.proofs.Answered.{needs_missing}
use Rattle.attempt.proofs.Logs.{agrees_more, apart_more, known_more}

needed_agree : (t : Program) (m : State) (log more : Known) → AreNeeded t m log more → Agrees log m → Agrees (log ++ more) m
needed_agree t m log [] h g = subst (λ (l : Known). Agrees l m) (sym (append-nil log)) g
needed_agree t m log (p ∷ more) h g =
    subst (λ (l : Known). Agrees l m) (append_assoc log (p ∷ []) more) (needed_agree t m (log ++ p ∷ []) more h.2 (agrees_more log m p.0 p.1 g h.1))

-- what was read is as the state has it
pub reads_agree : (t : Program) (m : State) (earlier later : Known) → ReadsOn t m earlier later → Agrees earlier m → Agrees later m
reads_agree t m earlier later h g = subst (λ (l : Known). Agrees l m) (sym h.grown) (needed_agree t m earlier h.read h.needed g)

needed_known : (n : ℕ) (t : Program) (m : State) (log more : Known) → ProgramKnown n t → AreNeeded t m log more → AllKnown n log → Apart log → AllKnown n (log ++ more) × Apart (log ++ more)
needed_known n t m log [] k h a b = subst (λ (l : Known). AllKnown n l × Apart l) (sym (append-nil log)) (a, b)
needed_known n t m log (p ∷ more) k h a b =
    let missing = needs_missing n t log p.0 k h.0 in
    subst (λ (l : Known). AllKnown n l × Apart l) (append_assoc log (p ∷ []) more)
    (needed_known n t m (log ++ p ∷ []) more k h.2 (known_more n log p.0 p.1 a missing.0) (apart_more log p.0 p.1 b missing.1))

-- what was read is of variables that may be named, each once
pub reads_known : (n : ℕ) (t : Program) (m : State) (earlier later : Known) → ProgramKnown n t → ReadsOn t m earlier later → AllKnown n earlier → Apart earlier → AllKnown n later × Apart later
reads_known n t m earlier later k h a b = subst (λ (l : Known). AllKnown n l × Apart l) (sym h.grown) (needed_known n t m earlier h.read k h.needed a b)
