-- The frame theorem at the tasks of a catalogue.
use Rattle.std.proofs.Common.{◌≡◌, ℕ, zero, suc, true, List, [], ◌∷◌, length, Some, pos, sym, refl, ◌∙◌, subst, slice_get, slice_index_or}
use Rattle.std.proofs.Math.ListN.{length-set}
use Rattle.txn_programs.specs.Instance.{instance}
use Rattle.txn_programs.specs.Listing.{Listing, values, conditions, task_arguments, task_program, task_tx}
use Rattle.txn_programs.specs.Meaning.{State, outcome, after}
use Rattle.txn_programs.specs.Names.{names_hold}
use Rattle.txn_programs.specs.Scope.{ConditionsKnown, ProgramKnown}
use Rattle.txn_programs.specs.Tree.{Skip, Int, under}
use Rattle.txn_programs.specs.declared.ast.Outcome.{Outcome}
use Rattle.txn_programs.specs.declared.ast.TaskId.{TaskId}
use Rattle.txn_programs.proofs.Lawful.{known_given, standing_known}
use Rattle.attempt.specs.Asking.{Known, Answer, Ends, ask}
use Rattle.attempt.specs.Frame.{Agrees, store, AnswersBy}
use Rattle.attempt_machine.proofs.FrameProof.{frame_holds}

-- each task's program names only variables that are there
pub record IsSound (l : Listing) : Type 0 where
  pub known : (a : TaskId) → ProgramKnown (length l.initial) (task_program l a)

found : {X : Type 0} (xs : List X) (i : ℕ) (d : X) (P : X → Type 0) → ((x : X) → slice_get xs i ≡ Some x → P x) → P d → P (slice_index_or xs i d)
found [] i d P each other = other
found (x ∷ xs) zero d P each other = each x refl
found (x ∷ xs) (suc i) d P each other = found xs i d P each other

-- the rules on names of a catalogue
pub sound_by : (l : Listing) → names_hold l ≡ true → values l ≡ length l.initial → IsSound l
sound_by l names same = record {
  known = λ a.
      let n = length l.initial in
      let given = task_arguments l a in
      found l.transactions (task_tx l a).0 (record { name = []; parameters = []; body = Skip; result = Int (pos 0) }) (λ t. ProgramKnown n (instance given (under (conditions l) t)))
      (λ t e. subst (λ (n : ℕ). ProgramKnown n (instance given (under (conditions l) t))) same (known_given l (task_tx l a).0 t given names e))
      (tt, (tt, subst (λ (n : ℕ). ConditionsKnown n (conditions l)) same (standing_known l names)));
}

pub length-store : (writes : Known) (m : State) → length (store writes m) ≡ length m
length-store [] m = refl
length-store (p ∷ rest) m = length-set (store rest m) p.0.0 p.1 ∙ length-store rest m

-- where an attempt ended, its program ends so on each state that agrees with what it read
pub ends_as : (l : Listing) → IsSound l → (a : TaskId) (log writes : Known) (o : Outcome) (m : State) → length m ≡ length l.initial → Agrees log m → ask (task_program l a) log ≡ Ends o writes
    → (outcome (task_program l a) m ≡ o) × (after (task_program l a) m ≡ store writes m)
ends_as l sound a log writes o m wide agrees ends =
    let t = task_program l a in
    subst (λ (r : Answer). AnswersBy m r (outcome t m) (after t m)) ends (frame_holds t log m (subst (λ (n : ℕ). ProgramKnown n t) (sym wide) (sound.known a)) agrees)
