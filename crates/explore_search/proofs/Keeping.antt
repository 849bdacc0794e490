-- Answers that are kept hold wherever what was read is the same.
use Rattle.std.proofs.Common.{◌≡◌, ℕ, zero, suc, ◌<◌, ◌≤◌, true, ℤ, List, [], ◌∷◌, ◌++◌, Some, None, length, get_or, set, refl, sym, ◌∙◌, ap, subst, arith, inl, inr, ⊎_elim}
use Rattle.std.specs.Prelude.{slice_get}
use Rattle.std.proofs.lemmas.Bool.{cases_eq, cases_lt}
use Rattle.std.proofs.lemmas.Grind.{get_or-set_at}
use Rattle.std.proofs.lemmas.List.{get_or-set_other, get_or_append_left, length-set, length_push}
use Rattle.std.proofs.Math.Seq.{get_or-append_seam}
use Rattle.txn_programs.specs.declared.arguments.Call.{Call}
use Rattle.txn_programs.specs.declared.ast.VarId.{VarId}
use Rattle.txn_programs.specs.declared.ast.Outcome.{Outcome}
use Rattle.txn_programs.specs.Listing.{Listing, values, call_program}
use Rattle.txn_programs.specs.Meaning.{State, value_at, outcome, after}
use Rattle.txn_programs.specs.Names.{names_hold}
use Rattle.txn_programs.specs.Scope.{ProgramKnown}
use Rattle.txn_programs.specs.Tree.{Program}
use Rattle.txn_programs.proofs.Lawful.{known_call}
use Rattle.attempt.specs.Asking.{Known, Answer, Ends, ask}
use Rattle.attempt.specs.Frame.{Agrees, AnswersBy, FrameTheorem, store}
use Rattle.explore_law.specs.declared.instance.InstanceId.{InstanceId}
use Rattle.explore_law.specs.Instances.{instances, instance_program}
use Rattle.explore_law.proofs.Instances.{instance_gets, instance_callable}
use Rattle.explore_search.specs.declared.kept.Answer.{Answer as Kept}
use Rattle.explore_search.specs.Keeping.{AreAnswers, HoldsAt, HoldsOn, IsAnswer, IsPut}
use Rattle.explore_search.proofs.Calls.{stands}

-- the pairs of a log, one by one
pub agrees_all : (log : Known) (m : State) → ((i : ℕ) (p : VarId × ℤ) → slice_get log i ≡ Some p → value_at m p.0 ≡ p.1) → Agrees log m
agrees_all [] m h = tt
agrees_all (p ∷ rest) m h = (h zero p refl, agrees_all rest m (λ i q e. h (suc i) q e))

pub agrees_pair : (log : Known) (m : State) (i : ℕ) (p : VarId × ℤ) → Agrees log m → slice_get log i ≡ Some p → value_at m p.0 ≡ p.1
agrees_pair [] m i p h e = absurd (cc)
agrees_pair (q ∷ rest) m zero p h e =
    let same : q ≡ p = cc in
    ap (λ (x : VarId × ℤ). value_at m x.0) (sym same) ∙ (h.0 ∙ ap (λ (x : VarId × ℤ). x.1) same)
agrees_pair (q ∷ rest) m (suc i) p h e = agrees_pair rest m i p h.1 e

-- where the program of an instance ends over a log, a task of it ends so on each state that agrees with the log
pub ends_as : (l : Listing) (cs : List Call) (k : InstanceId) (c : Call) (t : Program) (log writes : Known) (o : Outcome) → FrameTheorem → names_hold l ≡ true → values l ≡ length l.initial
    → cs ≡ instances l → k.0 < length cs → c ≡ get_or cs k.0 c → t ≡ call_program l c.tx c.arguments → ask t log ≡ Ends o writes → (m : State) → length m ≡ length l.initial → Agrees log m
    → (outcome (instance_program l k) m ≡ o) × (after (instance_program l k) m ≡ store writes m)
ends_as l cs k c t log writes o frame names valued same low is own ends m wide agrees =
    let at : slice_get (instances l) k.0 ≡ Some c = stands l cs k.0 c same low is in
    let program : t ≡ instance_program l k = own ∙ ap (λ (x : Call). call_program l x.tx x.arguments) (sym (instance_gets l k c at)) in
    let known : ProgramKnown (values l) (call_program l c.tx c.arguments) = known_call l c.tx c.arguments names (instance_callable l k.0 c names at).declared in
    let sized : ProgramKnown (length m) t = subst (λ (n : ℕ). ProgramKnown n t) (valued ∙ sym wide) (subst (ProgramKnown (values l)) (sym own) known) in
    let framed : AnswersBy m (Ends o writes) (outcome t m) (after t m) = subst (λ (r : Answer). AnswersBy m r (outcome t m) (after t m)) ends (frame t log m sized agrees) in
    subst (λ (u : Program). (outcome u m ≡ o) × (after u m ≡ store writes m)) program framed

each_placed : (P : Kept → Type 0) (old : List Kept) (i : ℕ) (a : Kept) → i < length old → P a → ((j : ℕ) (none : Kept) → j < length old → P (get_or old j none)) → (j : ℕ) (none : Kept) → j < length (set old i a) → P (get_or (set old i a) j none)
each_placed P old i a low one all j none h =
    elim (cases_eq j i) [
      | inl same ↦ subst P (sym (get_or-set_at old i j a none same low)) one
      | inr other ↦ subst P (sym (get_or-set_other old i j a none other)) (all j none (omega (arith, h, length-set old i a)))
    ]

each_pushed : (P : Kept → Type 0) (old : List Kept) (a : Kept) → P a → ((j : ℕ) (none : Kept) → j < length old → P (get_or old j none)) → (j : ℕ) (none : Kept) → j < length (old ++ a ∷ []) → P (get_or (old ++ a ∷ []) j none)
each_pushed P old a one all j none h =
    ⊎_elim (λ (low : j < length old). subst P (sym (get_or_append_left old (a ∷ []) none j low)) (all j none low))
    (λ (high : length old ≤ j).
    let same : j ≡ length old = omega (arith, length_push old a, h) in
    subst P (sym (ap (λ (n : ℕ). get_or (old ++ a ∷ []) n none) same ∙ get_or-append_seam old a [] none)) one)
    (cases_lt j (length old))

-- with one more answer, or one in place of another, all are answers
pub put_answers : (l : Listing) (old new : List Kept) (i : ℕ) (a : Kept) → IsPut old i a new → IsAnswer l a → AreAnswers l old → AreAnswers l new
put_answers l old new i a put one all =
    ⊎_elim (λ w. subst (AreAnswers l) (sym w.1) (each_pushed (IsAnswer l) old a one all)) (λ w. subst (AreAnswers l) (sym w.1) (each_placed (IsAnswer l) old i a w.0 one all)) put

-- the answer that was put there holds
pub put_holds : (old new : List Kept) (i : ℕ) (a : Kept) (k : InstanceId) (m : State) → IsPut old i a new → HoldsOn a k m → HoldsAt new i k m
put_holds old new i a k m put holds =
    let Q : List Kept → Type 0 = λ bs. HoldsAt bs i k m in
    ⊎_elim
    (λ w. subst Q (sym w.1) (record {
      low = omega (arith, w.0, length_push old a);
      holds = λ none. subst (λ (b : Kept). HoldsOn b k m) (sym (ap (λ (n : ℕ). get_or (old ++ a ∷ []) n none) w.0 ∙ get_or-append_seam old a [] none)) holds;
    }))
    (λ w. subst Q (sym w.1) (record {
      low = omega (arith, w.0, length-set old i a);
      holds = λ none. subst (λ (b : Kept). HoldsOn b k m) (sym (get_or-set_at old i i a none refl w.0)) holds;
    }))
    put
