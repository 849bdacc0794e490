-- Tasks that hold, and what breaks them.
use Rattle.std.proofs.Common.{◌≡◌, ◌≢◌, ◌∙◌, ℕ, zero, suc, ◌+◌, ◌<◌, ◌≤◌, List, [], ◌∷◌, length, Some, refl, sym, ap, subst, arith, ◌⊎◌, inl, inr}
use Rattle.std.specs.List.{slice_get}
use Rattle.std.proofs.lemmas.Option.{same_Some}
use Rattle.txn_programs.specs.declared.ast.TaskId.{TaskId}
use Rattle.txn_programs.specs.declared.ast.TxId.{TxId}
use Rattle.txn_programs.specs.Listing.{Listing, tasks}
use Rattle.txn_programs.specs.Replay.{Once}
use Rattle.txn_programs.specs.Told.{Told}
use Rattle.txn_programs.specs.LawfulReport.{Ascends, HasOwn}
use Rattle.checker.specs.Parts.{named, TasksHold}
use Rattle.explain_reports.specs.declared.flaw.TaskLine.{TaskLine}
use Rattle.explain_reports.specs.declared.flaw.TaskLine.TheVariants as line
use Rattle.explain_reports.specs.Flaws.{IsFirstFall}
use Rattle.explain_reports.specs.First.{AllRight, IsFirstWrong}
use Rattle.explain_reports.specs.Parts.{IsOwn, IsNew, Climbs}
use Rattle.explain_reports.proofs.First.{as_all, from_all, not_all}
use Rattle.checker.proofs.Lists.{numbers}
use Rattle.checker.proofs.Named.{numbers_named, length_named}

-- ---- lines and the numbers of their tasks

line_of_number : (lines : List (TaskId × TxId)) (i t : ℕ) → slice_get (numbers lines) i ≡ Some t → (p : TaskId × TxId) × (slice_get lines i ≡ Some p) × (p.0.0 ≡ t)
line_of_number [] i t e = absurd (cc)
line_of_number (p ∷ lines) zero t e = (p, refl, same_Some p.0.0 t e)
line_of_number (p ∷ lines) (suc i) t e = line_of_number lines i t e

number_of_line : (lines : List (TaskId × TxId)) (i : ℕ) (p : TaskId × TxId) → slice_get lines i ≡ Some p → slice_get (numbers lines) i ≡ Some p.0.0
number_of_line [] i p e = absurd (cc)
number_of_line (q ∷ lines) zero p e = ap (λ (x : TaskId × TxId). Some x.0.0) (same_Some q p e)
number_of_line (q ∷ lines) (suc i) p e = number_of_line lines i p e

-- ---- each stands once

order : (i j : ℕ) → (i < j) ⊎ ((i ≡ j) ⊎ (j < i))
order zero zero = inr (inl refl)
order zero (suc j) = inl (omega arith)
order (suc i) zero = inr (inr (omega arith))
order (suc i) (suc j) = elim (order i j) [
  | inl h ↦ inl (omega arith)
  | inr h ↦ elim h [ inl e ↦ inr (inl (ap suc e)) | inr g ↦ inr (inr (omega arith)) ]
]

new_once : (lines : List (TaskId × TxId)) → AllRight (IsNew lines) lines → Once (numbers lines)
new_once lines h i j t a b =
    let p = line_of_number lines i t a in
    let q = line_of_number lines j t b in
    elim (order i j) [
      | inl lt ↦ absurd (h j q.0 q.1 i p.0 lt p.1 (p.2 ∙ sym q.2))
      | inr more ↦ elim more [
        | inl e ↦ e
        | inr lt ↦ absurd (h i p.0 p.1 j q.0 lt q.1 (q.2 ∙ sym p.2))
      ]
    ]

once_new : (lines : List (TaskId × TxId)) → Once (numbers lines) → AllRight (IsNew lines) lines
once_new lines once i p e j q lt at same =
    let again : i ≡ j = once i j p.0.0 (number_of_line lines i p e) (number_of_line lines j q at ∙ ap Some same) in omega arith

-- ---- order

-- each next number is at least so large, and larger than those before it
abbrev Mounts : ℕ → List ℕ → Type 0
Mounts least [] = Unit {0}
Mounts least (t ∷ ts) = (least ≤ t) × Mounts (t + 1) ts

above : (least : ℕ) (ts : List ℕ) → Mounts least ts → (i t : ℕ) → slice_get ts i ≡ Some t → least ≤ t
above least [] c i t e = absurd (cc)
above least (x ∷ ts) c zero t e = let same : x ≡ t = cc in omega (arith, c.0)
above least (x ∷ ts) c (suc i) t e = let more = above (x + 1) ts c.1 i t e in omega (arith, c.0)

mounts_ascend : (least : ℕ) (ts : List ℕ) → Mounts least ts → Ascends ts
mounts_ascend least [] c i j s t h a b = absurd (cc)
mounts_ascend least (x ∷ ts) c i zero s t h a b = absurd (omega arith)
mounts_ascend least (x ∷ ts) c zero (suc j) s t h a b =
    let same : x ≡ s = cc in
    let more = above (x + 1) ts c.1 j t b in
    omega arith
mounts_ascend least (x ∷ ts) c (suc i) (suc j) s t h a b = mounts_ascend (x + 1) ts c.1 i j s t (omega arith) a b

climbs_mount : (least : ℕ) (lines : List (TaskId × TxId)) → ((p : TaskId × TxId) → slice_get lines 0 ≡ Some p → least ≤ p.0.0) → AllRight (Climbs lines) lines → Mounts least (numbers lines)
climbs_mount least [] first h = tt
climbs_mount least (p ∷ lines) first h = (
  first p refl,
  climbs_mount (p.0.0 + 1) lines
      (λ q e. let lt : p.0.0 < q.0.0 = h 1 q e 0 p refl refl in omega arith)
      (λ i x e j q s at. h (suc i) x e (suc j) q (omega arith) at),
)

climbs_ascend : (lines : List (TaskId × TxId)) → AllRight (Climbs lines) lines → Ascends (numbers lines)
climbs_ascend lines h = mounts_ascend 0 (numbers lines) (climbs_mount 0 lines (λ p e. omega arith) h)

ascend_climbs : (lines : List (TaskId × TxId)) → Ascends (numbers lines) → AllRight (Climbs lines) lines
ascend_climbs lines h i p e j q s at = h j i q.0.0 p.0.0 (omega arith) (number_of_line lines j q at) (number_of_line lines i p e)

-- ---- all together

pub tasks_hold : (l : Listing) (r : Told) → AllRight (IsOwn l) (named r) → AllRight (IsNew (named r)) (named r) → AllRight (Climbs r.parked) r.parked → AllRight (Climbs r.memory) r.memory
    → r.base + length (named r) ≡ length (tasks l) → TasksHold l r
tasks_hold l r own new parked memory sum =
    record {
      own = as_all (λ (p : TaskId × TxId). HasOwn l p.0 p.1) (named r) own;
      once = subst Once (numbers_named r) (new_once (named r) new);
      parked_ascend = climbs_ascend r.parked parked;
      memory_ascend = climbs_ascend r.memory memory;
      accounted = ap (λ n. r.base + n) (sym (length_named r)) ∙ sum;
    }

pub not_own : (l : Listing) (r : Told) (k : ℕ) → IsFirstWrong (IsOwn l) (named r) k → TasksHold l r → ⊥
not_own l r k f h = not_all (IsOwn l) (named r) k f (from_all (λ (p : TaskId × TxId). HasOwn l p.0 p.1) (named r) h.own)

pub not_new : (l : Listing) (r : Told) (k : ℕ) → IsFirstWrong (IsNew (named r)) (named r) k → TasksHold l r → ⊥
not_new l r k f h = not_all (IsNew (named r)) (named r) k f (once_new (named r) (subst Once (sym (numbers_named r)) h.once))

pub parked_falls : (l : Listing) (r : Told) (i : ℕ) → IsFirstWrong (Climbs r.parked) r.parked i → TasksHold l r → ⊥
parked_falls l r i f h = not_all (Climbs r.parked) r.parked i f (ascend_climbs r.parked h.parked_ascend)

pub memory_falls : (l : Listing) (r : Told) (i : ℕ) → IsFirstWrong (Climbs r.memory) r.memory i → TasksHold l r → ⊥
memory_falls l r i f h = not_all (Climbs r.memory) r.memory i f (ascend_climbs r.memory h.memory_ascend)

pub not_counted : (l : Listing) (r : Told) → r.base + length (named r) ≢ length (tasks l) → TasksHold l r → ⊥
not_counted l r ne h = ne (ap (λ n. r.base + n) (length_named r) ∙ h.accounted)

pub falls : (l : Listing) (r : Told) (at : TaskLine) → IsFirstFall r at → TasksHold l r → ⊥
falls l r (line.Entry i) f h = f
falls l r (line.Parked i) f h = parked_falls l r i f h
falls l r (line.Memory i) f h = memory_falls l r i f.1 h
