-- The first calls of a listing, beside the parked lines whose calls they are to be.
use Rattle.std.proofs.Common.{◌≡◌, ◌∙◌, ℕ, zero, suc, ◌+◌, ◌<◌, ◌≤◌, List, [], ◌∷◌, length, take, map, Some, refl, sym, ap, arith, ◌⊎◌, inl, inr}
use Rattle.std.specs.List.{slice_get}
use Rattle.std.proofs.lemmas.Option.{same_Some, slice_get_within}
use Rattle.txn_programs.specs.declared.arguments.Call.{Call}
use Rattle.txn_programs.specs.declared.ast.TaskId.{TaskId}
use Rattle.txn_programs.specs.declared.ast.TxId.{TxId}
use Rattle.txn_programs.specs.Listing.{Listing}
use Rattle.checker.specs.Chapters.{line_call}

-- before place n each call is that of the line there
abbrev pub SameBefore : Listing → List Call → List (TaskId × TxId) → ℕ → Type 0
SameBefore l cs ps n = (j : ℕ) (p : TaskId × TxId) → j < n → slice_get ps j ≡ Some p → slice_get cs j ≡ Some (line_call l p)

pub none_before : (l : Listing) (cs : List Call) (ps : List (TaskId × TxId)) → SameBefore l cs ps 0
none_before l cs ps j p lt e = absurd (omega arith)

pub less_or_same : (j i : ℕ) → j < i + 1 → (j < i) ⊎ (j ≡ i)
less_or_same zero zero lt = inr refl
less_or_same zero (suc i) lt = inl (omega arith)
less_or_same (suc j) zero lt = absurd (omega arith)
less_or_same (suc j) (suc i) lt = elim (less_or_same j i (omega arith)) [
  | inl h ↦ inl (omega arith)
  | inr h ↦ inr (ap suc h)
]

pub one_before : (l : Listing) (cs : List Call) (ps : List (TaskId × TxId)) (i : ℕ) (p : TaskId × TxId)
    → slice_get ps i ≡ Some p → slice_get cs i ≡ Some (line_call l p) → SameBefore l cs ps i → SameBefore l cs ps (i + 1)
one_before l cs ps i p at is before j q lt e = elim (less_or_same j i lt) [
  | inl h ↦ before j q h e
  | inr h ↦
      let same : p ≡ q = same_Some p q (sym at ∙ (ap (slice_get ps) (sym h) ∙ e)) in
      ap (slice_get cs) h ∙ (is ∙ ap (λ (x : TaskId × TxId). Some (line_call l x)) same)
]

all_same : (l : Listing) (cs : List Call) (ps : List (TaskId × TxId)) → ((j : ℕ) (p : TaskId × TxId) → slice_get ps j ≡ Some p → slice_get cs j ≡ Some (line_call l p))
    → take (length ps) cs ≡ map (line_call l) ps
all_same l cs [] h = refl
all_same l [] (p ∷ ps) h = let no = h 0 p refl in absurd (cc)
all_same l (c ∷ cs) (p ∷ ps) h =
    let first : c ≡ line_call l p = same_Some c (line_call l p) (h 0 p refl) in
    ap (λ (x : Call). x ∷ take (length ps) cs) first ∙ ap (λ (xs : List Call). line_call l p ∷ xs) (all_same l cs ps (λ j q e. h (suc j) q e))

pub firsts : (l : Listing) (cs : List Call) (ps : List (TaskId × TxId)) (n : ℕ) → length ps ≤ n → SameBefore l cs ps n → take (length ps) cs ≡ map (line_call l) ps
firsts l cs ps n past before = all_same l cs ps (λ j p e. before j p (let lt = slice_get_within ps j p e in omega arith) e)

pub first_at : (l : Listing) (cs : List Call) (ps : List (TaskId × TxId)) (i : ℕ) (p : TaskId × TxId)
    → take (length ps) cs ≡ map (line_call l) ps → slice_get ps i ≡ Some p → slice_get cs i ≡ Some (line_call l p)
first_at l cs [] i p e at = absurd (cc)
first_at l [] (q ∷ ps) i p e at = absurd (cc)
first_at l (c ∷ cs) (q ∷ ps) zero p e at = let same : q ≡ p = same_Some q p at in let head : c ≡ line_call l q = cc in ap Some (head ∙ ap (line_call l) same)
first_at l (c ∷ cs) (q ∷ ps) (suc i) p e at = first_at l cs ps i p (let r : take (length ps) cs ≡ map (line_call l) ps = cc in r) at
