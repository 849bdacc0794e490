-- What an answer says: of the variable that is needed, and of a state that agrees with the log.
use Rattle.std.proofs.Common.{◌≡◌, subst, length}
use Rattle.txn_programs.specs.Meaning.{State, outcome, after}
use Rattle.txn_programs.specs.Tree.{Program}
use Rattle.txn_programs.specs.Scope.{ProgramKnown}
use Rattle.txn_programs.specs.declared.ast.VarId.{VarId}
use Rattle.txn_programs.specs.declared.ast.Outcome.{Outcome}
use Rattle.txn_programs.specs.declared.ast.Outcome.TheVariants.{Returned, Thrown, Retries}
use Rattle.attempt.specs.declared.next.Next.{Next}
use Rattle.attempt.specs.declared.next.Next.TheVariants as next
use Rattle.attempt_machine.specs.Asking.{Ends, ask}
use Rattle.attempt_machine.specs.Frame.{Agrees, AnswersAt, store}
use Rattle.attempt.specs.View.{AttemptView, Answers, HoldsAt, next_of}
use Rattle.attempt.proofs.Answered.{IsMissing, needs_missing}
use Rattle.attempt_machine.proofs.FrameProof.{frame_holds}

framed : (a : AttemptView) (m : State) → ProgramKnown a.variables a.program → length m ≡ a.variables → Agrees a.log m → AnswersAt (ask a.program a.log) a.program m
framed a m known len h = frame_holds a.program a.log m (rw len known) h

-- an attempt that is over
pub over_holds : (a : AttemptView) (o : Outcome) (m : State) → ProgramKnown a.variables a.program → length m ≡ a.variables → Agrees a.log m →
    ask a.program a.log ≡ Ends o a.writes → HoldsAt (next_of o) a m
over_holds a (Returned v) m known len h e = subst (λ r. AnswersAt r a.program m) e (framed a m known len h)
over_holds a (Thrown f) m known len h e = subst (λ r. AnswersAt r a.program m) e (framed a m known len h)
over_holds a Retries m known len h e = subst (λ r. AnswersAt r a.program m) e (framed a m known len h)

-- any answer
pub told_holds : (r : Next) (a : AttemptView) (m : State) → Answers r a → ProgramKnown a.variables a.program → length m ≡ a.variables → Agrees a.log m → HoldsAt r a m
told_holds (next.Need x) a m h known len g = tt
told_holds (next.Returned v) a m h known len g = over_holds a (Returned v) m known len g h.0
told_holds (next.Thrown f) a m h known len g = over_holds a (Thrown f) m known len g h.0
told_holds next.Retry a m h known len g = over_holds a Retries m known len g h.0
told_holds next.Memory a m h known len g = tt

pub told_missing : (r : Next) (a : AttemptView) (x : VarId) → Answers r a → ProgramKnown a.variables a.program → r ≡ next.Need x → IsMissing a.variables a.log x
told_missing r a x h known e = let g : Answers (next.Need x) a = subst (λ s. Answers s a) e h in needs_missing a.variables a.program a.log x known g.0

-- the outcome that an answer tells, on a state that agrees with the log
pub outcome_holds : (o : Outcome) (next : Next) (p : Program) (a : AttemptView) (m : State) → next ≡ next_of o → HoldsAt next a m → a.program ≡ p → outcome p m ≡ o
outcome_holds (Returned v) next p a m e h q = subst (λ (t : Program). outcome t m ≡ Returned v) q (subst (λ (n : Next). HoldsAt n a m) e h).0
outcome_holds (Thrown f) next p a m e h q = subst (λ (t : Program). outcome t m ≡ Thrown f) q (subst (λ (n : Next). HoldsAt n a m) e h).0
outcome_holds Retries next p a m e h q = subst (λ (t : Program). outcome t m ≡ Retries) q (subst (λ (n : Next). HoldsAt n a m) e h).0

pub after_holds : (o : Outcome) (next : Next) (p : Program) (a : AttemptView) (m : State) → next ≡ next_of o → HoldsAt next a m → a.program ≡ p → after p m ≡ store a.writes m
after_holds (Returned v) next p a m e h q = subst (λ (t : Program). after t m ≡ store a.writes m) q (subst (λ (n : Next). HoldsAt n a m) e h).1
after_holds (Thrown f) next p a m e h q = subst (λ (t : Program). after t m ≡ store a.writes m) q (subst (λ (n : Next). HoldsAt n a m) e h).1
after_holds Retries next p a m e h q = subst (λ (t : Program). after t m ≡ store a.writes m) q (subst (λ (n : Next). HoldsAt n a m) e h).1
