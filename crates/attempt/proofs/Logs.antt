-- Logs that name each variable at most once.
use Rattle.std.proofs.Common.{◌≡◌, ◌≢◌, ℕ, zero, suc, ◌<◌, ◌≤◌, ℤ, List, Bool, true, false, cond, [], ◌∷◌, ◌++◌, length, Option, Some, None, refl, sym, ◌∙◌, subst, arith}
use Rattle.std.specs.Prelude.{nat_eq}
use Rattle.std.proofs.lemmas.Bool.{cond-false, false_from_ne_true, true≢false, eq-eqb, eqb-true}
use Rattle.std.proofs.lemmas.List.{length_push}
use Rattle.txn_programs.specs.declared.ast.TxId.{TxId}
use Rattle.txn_programs.specs.declared.ast.VarId.{VarId}
use Rattle.txn_programs.specs.Listing.{Listing, call_program}
use Rattle.txn_programs.specs.Meaning.{State, value_at}
use Rattle.attempt_machine.specs.Asking.{Known, known_at}
use Rattle.attempt_machine.specs.Frame.{Agrees}
use Rattle.attempt_writes.specs.Order.{AllKnown, Apart}
use Rattle.attempt.specs.View.{AttemptView, supplied}

-- a pair at the end of a log
pub agrees_more : (log : Known) (m : State) (x : VarId) (v : ℤ) → Agrees log m → value_at m x ≡ v → Agrees (log ++ (x, v) ∷ []) m
agrees_more [] m x v h e = (e, tt)
agrees_more (p ∷ rest) m x v h e = (h.0, agrees_more rest m x v h.1 e)

pub known_more : (n : ℕ) (log : Known) (x : VarId) (v : ℤ) → AllKnown n log → x.0 < n → AllKnown n (log ++ (x, v) ∷ [])
known_more n [] x v h e = (e, tt)
known_more n (p ∷ rest) x v h e = (h.0, known_more n rest x v h.1 e)

known_case : (b : Bool) (v : ℤ) (o : Option ℤ) → cond b (Some v) o ≡ None → (b ≡ false) × (o ≡ None)
known_case true v o h = absurd (cc)
known_case false v o h = (refl, h)

-- a variable that is in no pair of a log is not that of its first pair
unknown_first : (p : VarId × ℤ) (rest : Known) (x : VarId) → known_at (p ∷ rest) x ≡ None → p.0.0 ≢ x.0
unknown_first p rest x h e = true≢false (sym (eq-eqb p.0.0 x.0 e) ∙ (known_case (nat_eq p.0.0 x.0) p.1 (known_at rest x) h).0)

unknown_rest : (p : VarId × ℤ) (rest : Known) (x : VarId) → known_at (p ∷ rest) x ≡ None → known_at rest x ≡ None
unknown_rest p rest x h = (known_case (nat_eq p.0.0 x.0) p.1 (known_at rest x) h).1

unknown_both : (p : VarId × ℤ) (rest : Known) (x : VarId) → p.0.0 ≢ x.0 → known_at rest x ≡ None → known_at (p ∷ rest) x ≡ None
unknown_both p rest x n h = cond-false _ (Some p.1) (known_at rest x) (false_from_ne_true (nat_eq p.0.0 x.0) (λ e. n (eqb-true p.0.0 x.0 e))) ∙ h

unknown_more : (log : Known) (x y : VarId) (v : ℤ) → known_at log y ≡ None → x.0 ≢ y.0 → known_at (log ++ (x, v) ∷ []) y ≡ None
unknown_more [] x y v h n = unknown_both (x, v) [] y n refl
unknown_more (p ∷ rest) x y v h n =
    unknown_both p (rest ++ (x, v) ∷ []) y (unknown_first p rest y h) (unknown_more rest x y v (unknown_rest p rest y h) n)

pub apart_more : (log : Known) (x : VarId) (v : ℤ) → Apart log → known_at log x ≡ None → Apart (log ++ (x, v) ∷ [])
apart_more [] x v h n = (refl, tt)
apart_more (p ∷ rest) x v h n =
    (unknown_more rest x p.0 v h.0 (λ (e : x.0 ≡ p.0.0). unknown_first p rest x n (sym e)), apart_more rest x v h.1 (unknown_rest p rest x n))

-- the log without the variable of number n
abbrev without : ℕ → Known → Known
without n [] = []
without n (p ∷ rest) = cond (nat_eq p.0.0 n) rest (p ∷ without n rest)

none_left : (n : ℕ) (x : VarId) (w : Known) → x.0 ≡ n → known_at w x ≡ None → AllKnown (suc n) w → AllKnown n w
none_left n x [] e h k = tt
none_left n x (p ∷ rest) e h k =
    let other = unknown_first p rest x h in
    (omega (arith, other, e, k.0), none_left n x rest e (unknown_rest p rest x h) k.1)

without_known_case : (n : ℕ) (p : VarId × ℤ) (rest : Known) (b : Bool) → nat_eq p.0.0 n ≡ b → known_at rest p.0 ≡ None → AllKnown (suc n) (p ∷ rest) → AllKnown n (without n rest) → AllKnown n (cond b rest (p ∷ without n rest))
without_known_case n p rest true e h k i = none_left n p.0 rest (eqb-true p.0.0 n e) h k.1
without_known_case n p rest false e h k i = (omega (arith, k.0, λ (s : p.0.0 ≡ n). true≢false (sym (eq-eqb p.0.0 n s) ∙ e)), i)

without_known : (n : ℕ) (w : Known) → Apart w → AllKnown (suc n) w → AllKnown n (without n w)
without_known n [] a k = tt
without_known n (p ∷ rest) a k = without_known_case n p rest (nat_eq p.0.0 n) refl a.0 k (without_known n rest a.1 k.1)

without_unknown_case : (n : ℕ) (p : VarId × ℤ) (rest : Known) (x : VarId) (b : Bool) → known_at (p ∷ rest) x ≡ None → known_at (without n rest) x ≡ None → known_at (cond b rest (p ∷ without n rest)) x ≡ None
without_unknown_case n p rest x true h i = unknown_rest p rest x h
without_unknown_case n p rest x false h i = unknown_both p (without n rest) x (unknown_first p rest x h) i

without_unknown : (n : ℕ) (w : Known) (x : VarId) → known_at w x ≡ None → known_at (without n w) x ≡ None
without_unknown n [] x h = refl
without_unknown n (p ∷ rest) x h = without_unknown_case n p rest x (nat_eq p.0.0 n) h (without_unknown n rest x (unknown_rest p rest x h))

without_apart_case : (n : ℕ) (p : VarId × ℤ) (rest : Known) (b : Bool) → Apart (p ∷ rest) → Apart (without n rest) → Apart (cond b rest (p ∷ without n rest))
without_apart_case n p rest true a i = a.1
without_apart_case n p rest false a i = (without_unknown n rest p.0 a.0, i)

without_apart : (n : ℕ) (w : Known) → Apart w → Apart (without n w)
without_apart n [] a = tt
without_apart n (p ∷ rest) a = without_apart_case n p rest (nat_eq p.0.0 n) a (without_apart n rest a.1)

without_one_case : (n : ℕ) (p : VarId × ℤ) (rest : Known) (b : Bool) → length rest ≤ suc (length (without n rest)) → length (p ∷ rest) ≤ suc (length (cond b rest (p ∷ without n rest)))
without_one_case n p rest true h = omega (arith, h)
without_one_case n p rest false h = omega (arith, h)

without_one : (n : ℕ) (w : Known) → length w ≤ suc (length (without n w))
without_one n [] = omega arith
without_one n (p ∷ rest) = without_one_case n p rest (nat_eq p.0.0 n) (without_one n rest)

-- known variables, each of them once, are no more than there are variables
pub few_apart : (n : ℕ) (w : Known) → Apart w → AllKnown n w → length w ≤ n
few_apart zero [] a k = omega arith
few_apart zero (p ∷ rest) a k = absurd (omega (arith, k.0))
few_apart (suc n) w a k =
    omega (arith, without_one n w, few_apart n (without n w) (without_apart n w a) (without_known n w a k))

-- the pair of a variable that is not in the log yet keeps these, and there is room for it
pub few_more : (n : ℕ) (log : Known) (x : VarId) (v : ℤ) → Apart log → AllKnown n log → known_at log x ≡ None → x.0 < n → length log < n
few_more n log x v a k new low =
    let few = few_apart n (log ++ (x, v) ∷ []) (apart_more log x v a new) (known_more n log x v k low) in
    omega (arith, few, length_push log (x, v))

-- an attempt of the transaction with these arguments whose log names known variables once each, with their values in the state m
pub record Going (l : Listing) (tx : TxId) (given : List ℤ) (m : State) (a : AttemptView) : Type 0 where
  pub program : a.program ≡ call_program l tx given
  pub variables : a.variables ≡ length l.initial
  pub agrees : Agrees a.log m
  pub apart : Apart a.log
  pub known : AllKnown (length l.initial) a.log

pub going_advanced : (l : Listing) (tx : TxId) (given : List ℤ) (m : State) (a b : AttemptView) → b.program ≡ a.program → b.variables ≡ a.variables → b.log ≡ a.log → Going l tx given m a → Going l tx given m b
going_advanced l tx given m a b p v e h =
    record {
      program = p ∙ h.program;
      variables = v ∙ h.variables;
      agrees = subst (λ (log : Known). Agrees log m) (sym e) h.agrees;
      apart = subst Apart (sym e) h.apart;
      known = subst (AllKnown (length l.initial)) (sym e) h.known;
    }

pub going_supplied : (l : Listing) (tx : TxId) (given : List ℤ) (m : State) (b : AttemptView) (x : VarId) (v : ℤ) → x.0 < length l.initial → known_at b.log x ≡ None → value_at m x ≡ v → Going l tx given m b → Going l tx given m (supplied b x v)
going_supplied l tx given m b x v low new is h =
    record {
      program = h.program;
      variables = h.variables;
      agrees = agrees_more b.log m x v h.agrees is;
      apart = apart_more b.log x v h.apart new;
      known = known_more (length l.initial) b.log x v h.known low;
    }
