-- Hints: each variable's is the place of its last note, so a note of the innermost branch is found.
use Rattle.std.proofs.Common.{◌≡◌, ◌≢◌, ℕ, zero, suc, ◌+◌, ◌-◌, ◌<◌, ◌≤◌, ◌⊎◌, inl, inr, List, [], ◌∷◌, ◌++◌, length, get_or, Option, Some, ℤ, refl, sym, ap, ◌∙◌, subst, arith, drop, take, reverse, slice_get, ⊎_elim}
use Rattle.std.proofs.lemmas.List.{length-take-le, take-take, set-set, drop-append-le, take-append-drop, take-append-le}
use Rattle.std.proofs.lemmas.Option.{slice_get_within}
use Rattle.std.proofs.Math.ListN.{set, length-set}
use Rattle.std.proofs.Math.Seq.{drop-length, take-length}
use Rattle.txn_programs.specs.declared.ast.VarId.{VarId}
use Rattle.attempt_writes.specs.declared.note.Note.{Note}
use Rattle.attempt_writes.specs.declared.written.Branch.{Branch}
use Rattle.attempt_writes.specs.Own.{flat, undone, listed, marks_of, AreOthers, AreApart, AreOnce, hints_before, AreHinted, IsChangedInner, IsNotedInner, IsOther}
use Rattle.attempt_writes.proofs.OwnTable.{get_same, get_other, known_listed, same_or_other}
use Rattle.attempt_writes.proofs.OwnNotes.{innermost, last_first, set_other, take_get}

set_get : (t : List ℕ) (i e : ℕ) → slice_get t i ≡ Some e → set t i e ≡ t
set_get [] i e g = refl
set_get (y ∷ t) zero e g =
    let same : y ≡ e = cc in
    ap (λ (z : ℕ). z ∷ t) (sym same)
set_get (y ∷ t) (suc i) e g = ap (λ l. y ∷ l) (set_get t i e g)

-- the last note is gone back over first
pub hints_append : (ns : List Note) (n : Note) (t : List ℕ) → hints_before (ns ++ n ∷ []) t ≡ hints_before ns (set t n.x.0 n.earlier)
hints_append [] n t = refl
hints_append (m ∷ ns) n t = ap (λ l. set l m.x.0 m.earlier) (hints_append ns n t)

-- the last note is dropped
pub hinted_pop : (i : ℕ) (ns : List Note) (n : Note) (t : List ℕ) → AreHinted i (ns ++ n ∷ []) t → AreHinted i ns (set t n.x.0 n.earlier)
hinted_pop i [] n t h = tt
hinted_pop i (m ∷ ns) n t h = (subst (λ (l : List ℕ). slice_get l m.x.0 ≡ Some i) (hints_append ns n t) h.0, hinted_pop (i + 1) ns n t h.1)

pushed_before : (ns : List Note) (n : Note) (t : List ℕ) (p : ℕ) → slice_get t n.x.0 ≡ Some n.earlier → hints_before (ns ++ n ∷ []) (set t n.x.0 p) ≡ hints_before ns t
pushed_before ns n t p e =
    hints_append ns n (set t n.x.0 p)
    ∙ ap (hints_before ns) (set-set t n.x.0 p n.earlier ∙ set_get t n.x.0 n.earlier e)

-- one note more, with the hint before
pub hinted_push : (i : ℕ) (ns : List Note) (n : Note) (t : List ℕ) (p : ℕ) → p ≡ i + length ns → slice_get t n.x.0 ≡ Some n.earlier → AreHinted i ns t → AreHinted i (ns ++ n ∷ []) (set t n.x.0 p)
hinted_push i [] n t p at e h =
    let here : p ≡ i = omega (arith, at) in
    (get_same t n.x.0 p (slice_get_within t n.x.0 n.earlier e) ∙ ap (λ (k : ℕ). Some k) here, tt)
hinted_push i (m ∷ ns) n t p at e h =
    let next : p ≡ i + 1 + length ns = omega (arith, at) in
    (subst (λ (l : List ℕ). slice_get l m.x.0 ≡ Some i) (sym (pushed_before ns n t p e)) h.0, hinted_push (i + 1) ns n t p next e h.1)

-- a variable with no note keeps its hint
other_hints : (ns : List Note) (x : VarId) (t : List ℕ) → AreOthers x ns → slice_get (hints_before ns t) x.0 ≡ slice_get t x.0
other_hints [] x t a = refl
other_hints (n ∷ ns) x t a = get_other (hints_before ns t) n.x.0 x.0 n.earlier (λ e. a.0 (sym e)) ∙ other_hints ns x t a.1

-- and can have another one
pub set_through : (ns : List Note) (x : VarId) (t : List ℕ) (p : ℕ) → AreOthers x ns → hints_before ns (set t x.0 p) ≡ set (hints_before ns t) x.0 p
set_through [] x t p a = refl
set_through (n ∷ ns) x t p a =
    ap (λ l. set l n.x.0 n.earlier) (set_through ns x t p a.1)
    ∙ set_other (hints_before ns t) x.0 n.x.0 p n.earlier (λ e. a.0 (sym e))

-- a note of a variable at some place
abbrev pub NotedAt : List Note → ℕ → VarId → Type 0
NotedAt ns k x = (n : Note) × (slice_get ns k ≡ Some n) × (n.x.0 ≡ x.0)

-- a note of a variable
abbrev pub Noted : List Note → VarId → Type 0
Noted ns x = (k : ℕ) × (n : Note) × (slice_get ns k ≡ Some n) × (n.x.0 ≡ x.0)

pub noted_or_others : (ns : List Note) (x : VarId) → Noted ns x ⊎ AreOthers x ns
noted_or_others [] x = inr tt
noted_or_others (n ∷ ns) x = same_or_other n.x.0 x.0
    (λ e. inl (zero, n, refl, e))
    (λ ne. ⊎_elim
    (λ (h : Noted ns x). inl (suc h.0, h.1, h.2, h.3))
    (λ (a : AreOthers x ns). inr (ne, a))
    (noted_or_others ns x))

-- the hint of a variable that is noted at place k is the place of a note of it from there on
latest : (i : ℕ) (ns : List Note) (t : List ℕ) (k : ℕ) (x : VarId) → AreHinted i ns t → NotedAt ns k x → (j : ℕ) × (k ≤ j) × NotedAt ns j x × (slice_get t x.0 ≡ Some (i + j))
latest i [] t k x h at = let never = at.1 in absurd (cc)
latest i (m ∷ ns) t (suc k) x h at =
    let r = latest (i + 1) ns t k x h.1 at in
    let far : i + 1 + r.0 ≡ i + suc r.0 = omega arith in
    let from = r.1 in
    (suc r.0, omega (arith, from), r.2, r.3 ∙ ap (λ (z : ℕ). Some z) far)
latest i (m ∷ ns) t zero x h at = ⊎_elim
    (λ (g : Noted ns x).
    let r = latest (i + 1) ns t g.0 x h.1 (g.1, g.2, g.3) in
    let far : i + 1 + r.0 ≡ i + suc r.0 = omega arith in
    (suc r.0, omega arith, r.2, r.3 ∙ ap (λ (z : ℕ). Some z) far))
    (λ (a : AreOthers x ns).
    let e = at.1 in
    let is : m ≡ at.0 = cc in
    let same : m.x.0 ≡ x.0 = ap (λ (b : Note). b.x.0) is ∙ at.2 in
    let here : i ≡ i + zero = omega arith in
    (zero, omega arith, at, sym (other_hints ns x t a) ∙ ap (slice_get (hints_before ns t)) (sym same) ∙ h.0 ∙ ap (λ (z : ℕ). Some z) here))
    (noted_or_others ns x)

-- the place that the hint names is that of a note of the variable, if there is one from `low` on
pub hint_found : (ns : List Note) (t : List ℕ) (low e : ℕ) (x : VarId) → AreHinted 0 ns t → slice_get t x.0 ≡ Some e → IsOther low (length ns) ns e x → (k : ℕ) → low ≤ k → NotedAt ns k x → ⊥
hint_found ns t low e x h g other k le at =
    let r = latest 0 ns t k x h at in
    let is : Some (0 + r.0) ≡ Some e = sym r.3 ∙ g in
    let sum : 0 + r.0 ≡ e = cc in
    let same : r.0 ≡ e = omega (arith, sum) in
    let from = r.1 in
    let within = slice_get_within ns r.0 r.2.0 r.2.1 in
    other r.2.0 (omega (arith, le, from, same)) (omega (arith, within, same)) (ap (slice_get ns) (sym same) ∙ r.2.1) r.2.2

pub drop_get : (ns : List Note) (low k j : ℕ) → j ≡ low + k → slice_get (drop low ns) k ≡ slice_get ns j
drop_get [] zero k j e = refl
drop_get [] (suc low) k j e = refl
drop_get (n ∷ ns) zero k j e =
    let same : k ≡ j = omega (arith, e) in
    ap (slice_get (n ∷ ns)) same
drop_get (n ∷ ns) (suc low) k zero e = absurd (omega (arith, e))
drop_get (n ∷ ns) (suc low) k (suc j) e = drop_get ns low k j (omega (arith, e))

-- where the hint names no note of the variable from `low` on, there is none
pub others_above : (ns : List Note) (t : List ℕ) (low e : ℕ) (x : VarId) → AreHinted 0 ns t → slice_get t x.0 ≡ Some e → IsOther low (length ns) ns e x → AreOthers x (drop low ns)
others_above ns t low e x h g other = ⊎_elim
    (λ (f : Noted (drop low ns) x).
    absurd (hint_found ns t low e x h g other (low + f.0) (omega arith) (f.1, sym (drop_get ns low f.0 (low + f.0) refl) ∙ f.2, f.3)))
    (λ (a : AreOthers x (drop low ns)). a)
    (noted_or_others (drop low ns) x)

others_append : (ns : List Note) (n : Note) (x : VarId) → n.x.0 ≢ x.0 → AreOthers x ns → AreOthers x (ns ++ n ∷ [])
others_append [] n x ne a = (ne, tt)
others_append (m ∷ ns) n x ne a = (a.0, others_append ns n x ne a.1)

-- one note more, of a variable that has none
pub apart_push : (ns : List Note) (n : Note) → AreOthers n.x ns → AreApart ns → AreApart (ns ++ n ∷ [])
apart_push [] n o a = (tt, tt)
apart_push (m ∷ ns) n o a = (others_append ns n m.x (λ e. o.0 (sym e)) a.0, apart_push ns n o.1 a.1)

-- the innermost branch has no note of a variable whose hint names none
pub inner_others : (bs : List Branch) (b : Branch) (ns : List Note) (t : List ℕ) (e : ℕ) (x : VarId) → slice_get bs (length bs - 1) ≡ Some b → AreHinted 0 ns t → slice_get t x.0 ≡ Some e → IsOther b.height (length ns) ns e x → IsNotedInner (reverse bs) ns x → ⊥
inner_others bs b ns t e x at h g other inner =
    let r = innermost bs b at in
    let has = subst (λ (l : List Branch). IsNotedInner l ns x) r.1 inner in
    hint_found ns t b.height e x h g other has.0 has.2 (has.1, has.4, has.5)

-- a new note of a variable that the innermost branch has not noted
pub once_push : (bs : List Branch) (b : Branch) (ns : List Note) (n : Note) → slice_get bs (length bs - 1) ≡ Some b → b.height ≤ length ns → AreOthers n.x (drop b.height ns) → AreOnce ns (reverse bs) → AreOnce (ns ++ n ∷ []) (reverse bs)
once_push bs b ns n at le a once =
    let r = innermost bs b at in
    let o = subst (AreOnce ns) r.1 once in
    subst (AreOnce (ns ++ n ∷ [])) (sym r.1) (
      subst AreApart (sym (drop-append-le b.height ns (n ∷ []) le)) (apart_push (drop b.height ns) n a o.0),
      subst (λ (l : List Note). AreOnce l r.0) (sym (take-append-le b.height ns (n ∷ []) le)) o.1,
    )

-- the element at a place
pub get_known : (t : List ℕ) (i d : ℕ) → i < length t → slice_get t i ≡ Some (get_or t i d)
get_known [] i d lt = absurd (omega arith)
get_known (y ∷ t) zero d lt = refl
get_known (y ∷ t) (suc i) d lt = get_known t i d (omega arith)

hints_join : (fs bs : List Note) (t : List ℕ) → hints_before (fs ++ bs) t ≡ hints_before fs (hints_before bs t)
hints_join [] bs t = refl
hints_join (n ∷ fs) bs t = ap (λ l. set l n.x.0 n.earlier) (hints_join fs bs t)

-- the first notes with the hints before the others
hinted_front : (i : ℕ) (fs bs : List Note) (t : List ℕ) → AreHinted i (fs ++ bs) t → AreHinted i fs (hints_before bs t)
hinted_front i [] bs t h = tt
hinted_front i (n ∷ fs) bs t h = (subst (λ (l : List ℕ). slice_get l n.x.0 ≡ Some i) (hints_join fs bs t) h.0, hinted_front (i + 1) fs bs t h.1)

pub hinted_split : (h : ℕ) (ns : List Note) (t : List ℕ) → AreHinted 0 ns t → AreHinted 0 (take h ns) (hints_before (drop h ns) t)
hinted_split h ns t k = hinted_front 0 (take h ns) (drop h ns) t (subst (λ (l : List Note). AreHinted 0 l t) (sym (take-append-drop h ns)) k)

length_hints : (ns : List Note) (t : List ℕ) → length (hints_before ns t) ≡ length t
length_hints [] t = refl
length_hints (n ∷ ns) t = length-set (hints_before ns t) n.x.0 n.earlier ∙ length_hints ns t

-- a note that is dropped gives its hint back
pub hinted_without : (front rest : List Note) (n : Note) (t : List ℕ) → AreOthers n.x rest → AreHinted 0 front (hints_before (n ∷ rest) t) → AreHinted 0 front (hints_before rest (set t n.x.0 n.earlier))
hinted_without front rest n t o h = subst (AreHinted 0 front) (sym (set_through rest n.x t n.earlier o)) h

-- a note that is kept has its new place as the hint
pub hinted_kept : (front rest : List Note) (n : Note) (t : List ℕ) (p : ℕ) → p ≡ length front → n.x.0 < length t → AreOthers n.x rest → AreHinted 0 front (hints_before (n ∷ rest) t) → AreHinted 0 (front ++ n ∷ []) (hints_before rest (set t n.x.0 p))
hinted_kept front rest n t p at lt o h =
    let u = hints_before rest t in
    let long = length_hints rest t in
    let here = get_same u n.x.0 n.earlier (omega (arith, lt, long)) in
    let next : p ≡ 0 + length front = omega (arith, at) in
    subst (AreHinted 0 (front ++ n ∷ [])) (set-set u n.x.0 n.earlier p ∙ sym (set_through rest n.x t p o))
    (hinted_push 0 front n (set u n.x.0 n.earlier) p next here h)

-- and is the first of its variable from `low` on
pub apart_kept : (ns rest : List Note) (n : Note) (t : List ℕ) (low kept : ℕ) → low ≤ kept → kept ≤ length ns → n.x.0 < length t → AreHinted 0 (take kept ns) (hints_before (n ∷ rest) t) → IsOther low kept ns n.earlier n.x → AreApart (drop low (take kept ns)) → AreApart (drop low (take kept ns ++ n ∷ []))
apart_kept ns rest n t low kept le within lt h other a =
    let front = take kept ns in
    let u = hints_before rest t in
    let long = length_hints rest t in
    let here = get_same u n.x.0 n.earlier (omega (arith, lt, long)) in
    let size = length-take-le kept ns within in
    let low' : low ≤ length front = omega (arith, le, size) in
    let other' : IsOther low (length front) front n.earlier n.x = λ m from below at. other m from (omega (arith, below, size)) (sym (take_get ns kept n.earlier (omega (arith, below, size))) ∙ at) in
    subst AreApart (sym (drop-append-le low front (n ∷ []) low'))
    (apart_push (drop low front) n (others_above front (set u n.x.0 n.earlier) low n.earlier n.x h here other') a)

-- the notes of the outer branches
pub once_inner : (bs : List Branch) (b : Branch) (ns : List Note) (height : ℕ) → slice_get bs (length bs - 1) ≡ Some b → AreOnce (take height ns) (reverse bs) → AreApart (drop b.height (take height ns))
once_inner bs b ns height at once =
    let r = innermost bs b at in
    (subst (AreOnce (take height ns)) r.1 once).0

-- after a branch is done
pub once_joined : (bs : List Branch) (b : Branch) (ns ms : List Note) (height kept : ℕ) → slice_get bs (length bs - 1) ≡ Some b → b.height ≤ height → height ≤ kept → take height ms ≡ take height ns → AreApart (drop b.height (take kept ms)) → AreOnce (take height ns) (reverse bs) → AreOnce (take kept ms) (reverse bs)
once_joined bs b ns ms height kept at low above same a once =
    let r = innermost bs b at in
    let o = subst (AreOnce (take height ns)) r.1 once in
    let far : b.height ≤ kept = omega (arith, low, above) in
    let front : take b.height (take height ns) ≡ take b.height (take kept ms) =
    ap (take b.height) (sym same) ∙ take-take b.height height ms low ∙ sym (take-take b.height kept ms far) in
    subst (AreOnce (take kept ms)) (sym r.1) (a, subst (λ (l : List Note). AreOnce l r.0) front o.1)

-- the innermost branch's notes, and those of the others
pub once_popped : (bs init : List Branch) (b : Branch) (ns : List Note) → bs ≡ init ++ b ∷ [] → AreOnce ns (reverse bs) → AreApart (drop b.height ns) × AreOnce (take b.height ns) (reverse init)
once_popped bs init b ns e once = subst (AreOnce ns) (ap reverse e ∙ last_first init b) once

-- a branch begins
pub once_entered : (bs : List Branch) (b : Branch) (ns : List Note) → b.height ≡ length ns → AreOnce ns (reverse bs) → AreOnce ns (reverse (bs ++ b ∷ []))
once_entered bs b ns e once =
    let none : drop b.height ns ≡ [] = ap (λ k. drop k ns) e ∙ drop-length ns in
    let all : take b.height ns ≡ ns = ap (λ k. take k ns) e ∙ take-length ns in
    subst (AreOnce ns) (sym (last_first bs b))
    (subst AreApart (sym none) tt, subst (λ (l : List Note). AreOnce l (reverse bs)) (sym all) once)

-- a variable with no note has the value that it had
pub other_undone : (ns : List Note) (x : VarId) (t : List (Option ℤ)) → AreOthers x ns → slice_get (undone ns t) x.0 ≡ slice_get t x.0
other_undone [] x t a = refl
other_undone (n ∷ ns) x t a = get_other (undone ns t) n.x.0 x.0 n.old (λ e. a.0 (sym e)) ∙ other_undone ns x t a.1

-- what the innermost branch has changed it has noted
pub changed_noted : (bs : List Branch) (ns : List Note) (kept : List ℕ) (t : List (Option ℤ)) (x : VarId) → IsChangedInner (marks_of bs ns kept t) (listed 0 t) x → IsNotedInner bs ns x
changed_noted [] ns kept t x h = absurd h
changed_noted (b ∷ outer) ns kept t x h = ⊎_elim
    (λ (f : Noted (drop b.height ns) x).
    let at : slice_get ns (b.height + f.0) ≡ Some f.1 = sym (drop_get ns b.height f.0 (b.height + f.0) refl) ∙ f.2 in
    let within = slice_get_within ns (b.height + f.0) f.1 at in
    (b.height + f.0, f.1, omega arith, within, at, f.3))
    (λ (a : AreOthers x (drop b.height ns)).
    absurd (h (known_listed t x ∙ ap flat (sym (other_undone (drop b.height ns) x t a)) ∙ sym (known_listed (undone (drop b.height ns) t) x))))
    (noted_or_others (drop b.height ns) x)
