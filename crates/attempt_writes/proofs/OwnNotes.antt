-- Going back by notes, and what a write leaves of the marks.
use Rattle.std.proofs.Common.{◌≡◌, ◌≢◌, ℕ, zero, suc, ◌+◌, ◌-◌, ◌<◌, ◌≤◌, List, [], ◌∷◌, ◌++◌, length, Option, Some, ℤ, refl, sym, ap, ◌∙◌, subst, arith, drop, take, reverse, slice_get, append_assoc, length-append}
use Rattle.std.proofs.lemmas.List.{set-set, length-take-le, drop-append-le, drop-set-lt, take-append-le, take_more_set, reverse-append, reverse-reverse}
use Rattle.std.proofs.lemmas.Option.{slice_get_within}
use Rattle.std.proofs.Math.ListN.{set}
use Rattle.std.proofs.Math.Seq.{drop-append_seam, drop-length, take-append_seam, take-length}
use Rattle.std.specs.List.{refill}
use Rattle.txn_programs.specs.declared.ast.VarId.{VarId}
use Rattle.attempt_writes.specs.declared.note.Note.{Note}
use Rattle.attempt_writes.specs.declared.written.Branch.{Branch}
use Rattle.attempt_writes.specs.Known.{Known}
use Rattle.attempt_writes.specs.Own.{Mark, Marked, flat, value_in, undone, listed, written_at, marks_of, AreNested, IsListed, AreNotedListed, AreInside, HaveFloors, LeavesInner, GoesBack, HasNote, IsNoted}
use Rattle.attempt_writes.specs.Order.{AllKnown}
use Rattle.attempt_writes.proofs.OwnTable.{known_small, same_or_other}

pub set_other : {X : Type 0} (t : List X) (i j : ℕ) (a b : X) → i ≢ j → set (set t i a) j b ≡ set (set t j b) i a
set_other [] i j a b ne = refl
set_other (y ∷ t) zero zero a b ne = absurd (ne refl)
set_other (y ∷ t) zero (suc j) a b ne = refl
set_other (y ∷ t) (suc i) zero a b ne = refl
set_other (y ∷ t) (suc i) (suc j) a b ne = ap (λ l. y ∷ l) (set_other t i j a b (λ e. ne (ap suc e)))

set_same : (t : List (Option ℤ)) (i : ℕ) (o : Option ℤ) → i < length t → flat (slice_get t i) ≡ o → set t i o ≡ t
set_same [] i o lt e = absurd (omega arith)
set_same (y ∷ t) zero o lt e = ap (λ (z : Option ℤ). z ∷ t) (sym e)
set_same (y ∷ t) (suc i) o lt e = ap (λ l. y ∷ l) (set_same t i o (omega arith) e)

pub undone_append : (ns : List Note) (n : Note) (t : List (Option ℤ)) → undone (ns ++ n ∷ []) t ≡ undone ns (set t n.x.0 n.old)
undone_append [] n t = refl
undone_append (m ∷ ns) n t = ap (λ l. set l m.x.0 m.old) (undone_append ns n t)

-- what comes before a write of the same variable is no matter
over : (ns : List Note) (t : List (Option ℤ)) (x : ℕ) (v o : Option ℤ) → set (undone ns (set t x v)) x o ≡ set (undone ns t) x o
over [] t x v o = set-set t x v o
over (n ∷ ns) t x v o = same_or_other n.x.0 x
    (λ e.
    ap (λ k. set (set (undone ns (set t x v)) k n.old) x o) e
    ∙ set-set (undone ns (set t x v)) x n.old o ∙ over ns t x v o
    ∙ sym (set-set (undone ns t) x n.old o)
    ∙ ap (λ k. set (set (undone ns t) k n.old) x o) (sym e))
    (λ ne.
    set_other (undone ns (set t x v)) n.x.0 x n.old o ne
    ∙ ap (λ l. set l n.x.0 n.old) (over ns t x v o)
    ∙ sym (set_other (undone ns t) n.x.0 x n.old o ne))

-- a write of a variable that has a note is undone with it
pub noted_undone : (h : ℕ) (ns : List Note) (k : ℕ) (n : Note) (t : List (Option ℤ)) (x : ℕ) (v : Option ℤ) → h ≤ k → slice_get ns k ≡ Some n → n.x.0 ≡ x → undone (drop h ns) (set t x v) ≡ undone (drop h ns) t
noted_undone h [] k n t x v le e same = absurd (cc)
noted_undone zero (m ∷ ns) zero n t x v le e same =
    let is : m ≡ n = cc in
    let at : m.x.0 ≡ x = ap (λ (b : Note). b.x.0) is ∙ same in
    ap (λ k. set (undone ns (set t x v)) k m.old) at ∙ over ns t x v m.old ∙ ap (λ k. set (undone ns t) k m.old) (sym at)
noted_undone zero (m ∷ ns) (suc k) n t x v le e same = ap (λ l. set l m.x.0 m.old) (noted_undone zero ns k n t x v (omega arith) e same)
noted_undone (suc h) (m ∷ ns) zero n t x v le e same = absurd (omega arith)
noted_undone (suc h) (m ∷ ns) (suc k) n t x v le e same = noted_undone h ns k n t x v (omega arith) e same

-- a write with a note of what was before is undone by it
pub fresh_undone : (h : ℕ) (ns : List Note) (n : Note) (t : List (Option ℤ)) (v : Option ℤ) → h ≤ length ns → n.x.0 < length t → value_in t n.x ≡ n.old → undone (drop h (ns ++ n ∷ [])) (set t n.x.0 v) ≡ undone (drop h ns) t
fresh_undone h ns n t v le lt e =
    ap (λ (l : List Note). undone l (set t n.x.0 v)) (drop-append-le h ns (n ∷ []) le)
    ∙ undone_append (drop h ns) n (set t n.x.0 v)
    ∙ ap (λ l. undone (drop h ns) l) (set-set t n.x.0 v n.old ∙ set_same t n.x.0 n.old lt e)

pub nested_more : (m n : ℕ) (bs : List Branch) → m ≤ n → AreNested m bs → AreNested n bs
nested_more m n [] le h = tt
nested_more m n (b ∷ bs) le h = (let lower = h.0 in omega (arith, lower, le), h.1)

-- the same marks where each height goes back to the same table
pub marks_same : (n : ℕ) (bs : List Branch) (before after : List Note) (kept : List ℕ) (t u : List (Option ℤ)) → AreNested n bs → ((h : ℕ) → h ≤ n → undone (drop h after) u ≡ undone (drop h before) t) → marks_of bs after kept u ≡ marks_of bs before kept t
marks_same n [] before after kept t u k e = refl
marks_same n (b ∷ bs) before after kept t u k e =
    let lower = k.0 in
    let rest = marks_same b.height bs before after (take b.floor kept) t u k.1 (λ h le. e h (omega (arith, le, lower))) in
    ap (λ (w : List (Option ℤ)). Marked (b.begin + b.passed) (reverse (drop b.floor kept)) (listed 0 w) ∷ marks_of bs after (take b.floor kept) u) (e b.height lower)
    ∙ ap (λ (l : List Mark). Marked (b.begin + b.passed) (reverse (drop b.floor kept)) (written_at b.height before t) ∷ l) rest

pub noted_append : (pairs : Known) (ns : List Note) (n : Note) → IsListed pairs n.x → AreNotedListed pairs ns → AreNotedListed pairs (ns ++ n ∷ [])
noted_append pairs [] n l a = (l, tt)
noted_append pairs (m ∷ ns) n l a = (a.0, noted_append pairs ns n l a.1)

-- the last note, and those before it
pub noted_front : (pairs : Known) (ns : List Note) (n : Note) → AreNotedListed pairs (ns ++ n ∷ []) → IsListed pairs n.x × AreNotedListed pairs ns
noted_front pairs [] n a = (a.0, tt)
noted_front pairs (m ∷ ns) n a = let r = noted_front pairs ns n a.1 in (r.0, (a.0, r.1))

pub inside_front : (k : ℕ) (ns : List Note) (n : Note) → AreInside k (ns ++ n ∷ []) → (n.x.0 < k) × AreInside k ns
inside_front k [] n a = (a.0, tt)
inside_front k (m ∷ ns) n a = let r = inside_front k ns n a.1 in (r.0, (a.0, r.1))

pub noted_still : (p q : Known) (ns : List Note) → ((y : VarId) → IsListed p y → IsListed q y) → AreNotedListed p ns → AreNotedListed q ns
noted_still p q [] f a = tt
noted_still p q (n ∷ ns) f a = (f n.x a.0, noted_still p q ns f a.1)

-- the last branch is the innermost
pub last_first : (bs : List Branch) (b : Branch) → reverse (bs ++ b ∷ []) ≡ b ∷ reverse bs
last_first bs b = reverse-append bs (b ∷ [])

abbrev EndsIn : List Branch → Branch → Type 0
EndsIn bs b = (init : List Branch) × (bs ≡ init ++ b ∷ [])

ends_in : (bs : List Branch) (b : Branch) (k : ℕ) → length bs ≤ k + 1 → slice_get bs k ≡ Some b → EndsIn bs b
ends_in [] b k le e = absurd (cc)
ends_in (c ∷ []) b zero le e =
    let same : c ≡ b = cc in
    ([], ap (λ (d : Branch). d ∷ []) same)
ends_in (c ∷ d ∷ bs) b zero le e = absurd (omega arith)
ends_in (c ∷ bs) b (suc k) le e =
    let r = ends_in bs b k (omega arith) e in
    (c ∷ r.0, ap (λ l. c ∷ l) r.1)

-- the last branch is the innermost, and the others are around it
pub innermost : (bs : List Branch) (b : Branch) → slice_get bs (length bs - 1) ≡ Some b → (outer : List Branch) × (reverse bs ≡ b ∷ outer)
innermost bs b e =
    let last : length bs ≤ length bs - 1 + 1 = omega arith in
    let r = ends_in bs b (length bs - 1) last e in
    (reverse r.0, ap reverse r.1 ∙ last_first r.0 b)

-- the innermost branch is nested in what there is, and all in it
pub inner_nested : (n : ℕ) (bs : List Branch) (b : Branch) → slice_get bs (length bs - 1) ≡ Some b → AreNested n (reverse bs) → (b.height ≤ n) × AreNested b.height (reverse bs)
inner_nested n bs b e k =
    let last : length bs ≤ length bs - 1 + 1 = omega arith in
    let r = ends_in bs b (length bs - 1) last e in
    let turned : reverse bs ≡ b ∷ reverse r.0 = ap reverse r.1 ∙ last_first r.0 b in
    let inner = subst (AreNested n) turned k in
    let low : b.height ≤ b.height = omega arith in
    (inner.0, subst (AreNested b.height) (sym turned) (low, inner.1))

-- a write of a variable that has a note in the innermost branch
pub noted_keeps : (bs : List Branch) (b : Branch) (x : VarId) (old : Option ℤ) (ns : List Note) (high : ℕ) → slice_get bs (length bs - 1) ≡ Some b → AreNested (length ns) (reverse bs) → HasNote b.height high ns x → IsNoted bs x old ns ns
noted_keeps bs b x old ns high e k has =
    let all = (inner_nested (length ns) bs b e k).1 in
    let far = has.2 in
    record {
      marks = λ kept t v lt was. marks_same b.height (reverse bs) ns ns kept t (set t x.0 (Some v)) all (λ h le. noted_undone h ns has.0 has.1 t x.0 (Some v) (omega (arith, le, far)) has.4 has.5);
      noted = λ pairs l a. a;
      nested = k;
    }

-- a write with a new note
pub noted_fresh : (bs : List Branch) (n : Note) (ns : List Note) → AreNested (length ns) (reverse bs) → IsNoted bs n.x n.old ns (ns ++ n ∷ [])
noted_fresh bs n ns k =
    let long = length-append ns (n ∷ []) in
    let more : length ns ≤ length (ns ++ n ∷ []) = omega (arith, long) in
    record {
      marks = λ kept t v lt was. marks_same (length ns) (reverse bs) ns (ns ++ n ∷ []) kept t (set t n.x.0 (Some v)) k (λ h le. fresh_undone h ns n t (Some v) le lt was);
      noted = λ pairs l a. noted_append pairs ns n l a;
      nested = nested_more (length ns) (length (ns ++ n ∷ [])) (reverse bs) more k;
    }

pub no_mark : (bs : List Branch) (ns : List Note) (kept : List ℕ) (t : List (Option ℤ)) → marks_of bs ns kept t ≡ [] → bs ≡ []
no_mark [] ns kept t e = refl
no_mark (b ∷ bs) ns kept t e = absurd (cc)

pub no_marks : (bs : List Branch) (ns : List Note) (kept : List ℕ) (t : List (Option ℤ)) → marks_of (reverse bs) ns kept t ≡ [] → bs ≡ []
no_marks bs ns kept t e = sym (reverse-reverse bs) ∙ ap reverse (no_mark (reverse bs) ns kept t e)

-- the innermost branch is nested in what there is, and the outer ones in it
pub popped_inner : (n : ℕ) (bs init : List Branch) (b : Branch) → bs ≡ init ++ b ∷ [] → AreNested n (reverse bs) → (b.height ≤ n) × AreNested b.height (reverse init)
popped_inner n bs init b e k = subst (AreNested n) (ap reverse e ∙ last_first init b) k

-- a note is undone
pub back_step : (h : ℕ) (ns : List Note) (n : Note) (t : List (Option ℤ)) → h ≤ length ns → undone (drop h ns) (set t n.x.0 n.old) ≡ undone (drop h (ns ++ n ∷ [])) t
back_step h ns n t le = sym (ap (λ (l : List Note). undone l t) (drop-append-le h ns (n ∷ []) le) ∙ undone_append (drop h ns) n t)

pub noted_inside : (k : ℕ) (w : Known) (ns : List Note) → AllKnown k w → AreNotedListed w ns → AreInside k ns
noted_inside k w [] a h = tt
noted_inside k w (n ∷ ns) a h = (known_small k w n.x a h.0, noted_inside k w ns a h.1)

-- and its loops lie above those of the outer ones
pub popped_floors : (n : ℕ) (bs init : List Branch) (b : Branch) → bs ≡ init ++ b ∷ [] → HaveFloors n (reverse bs) → (b.floor ≤ n) × (n ≤ b.floor + 32) × HaveFloors b.floor (reverse init)
popped_floors n bs init b e k = subst (HaveFloors n) (ap reverse e ∙ last_first init b) k

-- the floors of the outer branches, where the loops of the innermost are kept no longer
pub outer_floors : (bs init : List Branch) (b : Branch) (kept after : List ℕ) → bs ≡ init ++ b ∷ [] → after ≡ take b.floor kept → HaveFloors (length kept) (reverse bs) → HaveFloors (length after) (reverse init)
outer_floors bs init b kept after e is k =
    let h = popped_floors (length kept) bs init b e k in
    subst (λ (n : ℕ). HaveFloors n (reverse init)) (sym (ap length is ∙ length-take-le b.floor kept h.0)) h.2

-- a branch that begins keeps the loops that are added
pub floors_more : (bs : List Branch) (b : Branch) (kept loops : List ℕ) → b.floor ≡ length kept → length loops ≤ 32 → HaveFloors (length kept) (reverse bs) → HaveFloors (length (kept ++ loops)) (reverse (bs ++ b ∷ []))
floors_more bs b kept loops floor few k =
    let long = length-append kept loops in
    subst (HaveFloors (length (kept ++ loops))) (sym (last_first bs b)) (
      omega (arith, floor, long),
      omega (arith, floor, long, few),
      subst (λ (n : ℕ). HaveFloors n (reverse bs)) (sym floor) k,
    )

pub marks_more : (bs : List Branch) (b : Branch) (ns : List Note) (kept loops : List ℕ) (t : List (Option ℤ)) → b.floor ≡ length kept → marks_of (reverse (bs ++ b ∷ [])) ns (kept ++ loops) t ≡ Marked (b.begin + b.passed) (reverse loops) (written_at b.height ns t) ∷ marks_of (reverse bs) ns kept t
marks_more bs b ns kept loops t floor =
    ap (λ (l : List Branch). marks_of l ns (kept ++ loops) t) (last_first bs b)
    ∙ ap (λ (n : ℕ). Marked (b.begin + b.passed) (reverse (drop n (kept ++ loops))) (written_at b.height ns t) ∷ marks_of (reverse bs) ns (take n (kept ++ loops)) t) floor
    ∙ ap (λ (l : List ℕ). Marked (b.begin + b.passed) (reverse l) (written_at b.height ns t) ∷ marks_of (reverse bs) ns (take (length kept) (kept ++ loops)) t) (drop-append_seam kept loops)
    ∙ ap (λ (l : List ℕ). Marked (b.begin + b.passed) (reverse loops) (written_at b.height ns t) ∷ marks_of (reverse bs) ns l t) (take-append_seam kept loops)

-- what a branch that is done leaves
pub leaves_inner : (bs init : List Branch) (b : Branch) (ns ms : List Note) (kept loops after : List ℕ) (t : List (Option ℤ)) → bs ≡ init ++ b ∷ []
    → loops ≡ drop b.floor kept → after ≡ take b.floor kept
    → ((k : List ℕ) (u : List (Option ℤ)) → marks_of (reverse init) ms k u ≡ marks_of (reverse init) ns k u)
    → LeavesInner (marks_of (reverse bs) ns kept t) (reverse loops) (marks_of (reverse init) ms after t)
leaves_inner bs init b ns ms kept loops after t e loops_are after_is same =
    subst (λ (l : List Branch). LeavesInner (marks_of l ns kept t) (reverse loops) (marks_of (reverse init) ms after t))
    (sym (ap reverse e ∙ last_first init b))
    (ap reverse (sym loops_are), ap (λ (k : List ℕ). marks_of (reverse init) ms k t) after_is ∙ same (take b.floor kept) t)

-- what a retry leaves
pub goes_back : (bs init : List Branch) (b : Branch) (ns ms : List Note) (kept loops after : List ℕ) (t u : List (Option ℤ)) → bs ≡ init ++ b ∷ [] → AreNested (length ns) (reverse bs) → length ms ≡ b.height
    → loops ≡ drop b.floor kept → after ≡ take b.floor kept
    → ((h : ℕ) → h ≤ b.height → undone (drop h ms) u ≡ undone (drop h ns) t)
    → GoesBack (marks_of (reverse bs) ns kept t) (b.begin + b.passed) (reverse loops) (listed 0 u) (marks_of (reverse init) ms after u)
goes_back bs init b ns ms kept loops after t u e k long loops_are after_is to =
    let inner = popped_inner (length ns) bs init b e k in
    let low : b.height ≤ b.height = omega arith in
    let none : drop b.height ms ≡ [] = ap (λ m. drop m ms) (sym long) ∙ drop-length ms in
    let now : u ≡ undone (drop b.height ns) t = ap (λ (l : List Note). undone l u) (sym none) ∙ to b.height low in
    subst
    (λ (l : List Branch). GoesBack (marks_of l ns kept t) (b.begin + b.passed) (reverse loops) (listed 0 u) (marks_of (reverse init) ms after u))
    (sym (ap reverse e ∙ last_first init b)) (
      refl,
      ap reverse (sym loops_are),
      ap (listed 0) (sym now),
      ap (λ (l : List ℕ). marks_of (reverse init) ms l u) after_is ∙ marks_same b.height (reverse init) ns ms (take b.floor kept) t u inner.1 to,
    )

undone_join : (ns ms : List Note) (t : List (Option ℤ)) → undone (ns ++ ms) t ≡ undone ns (undone ms t)
undone_join [] ms t = refl
undone_join (n ∷ ns) ms t = ap (λ l. set l n.x.0 n.old) (undone_join ns ms t)

pub take_get : (ns : List Note) (kept k : ℕ) → k < kept → slice_get (take kept ns) k ≡ slice_get ns k
take_get [] zero k lt = refl
take_get [] (suc j) k lt = refl
take_get (n ∷ ns) zero k lt = absurd (omega arith)
take_get (n ∷ ns) (suc j) zero lt = refl
take_get (n ∷ ns) (suc j) (suc k) lt = take_get ns j k (omega arith)

-- a note of a variable that has an earlier one is no matter
pub has_dropped : (ns : List Note) (kept : ℕ) (rest : List Note) (n : Note) (low h : ℕ) (t : List (Option ℤ)) → HasNote low kept ns n.x → h ≤ low → undone (drop h (take kept ns ++ n ∷ rest)) t ≡ undone (drop h (take kept ns ++ rest)) t
has_dropped ns kept rest n low h t has le =
    let front = take kept ns in
    let k = has.0 in
    let from = has.2 in
    let at : slice_get front k ≡ Some has.1 = take_get ns kept k has.3 ∙ has.4 in
    let within = slice_get_within front k has.1 at in
    let below : h ≤ length front = omega (arith, le, from, within) in
    let low' : h ≤ k = omega (arith, le, from) in
    ap (λ (l : List Note). undone l t) (drop-append-le h front (n ∷ rest) below)
    ∙ undone_join (drop h front) (n ∷ rest) t
    ∙ noted_undone h front k has.1 (undone rest t) n.x.0 n.old low' at has.5
    ∙ sym (undone_join (drop h front) rest t)
    ∙ ap (λ (l : List Note). undone l t) (sym (drop-append-le h front rest below))

pub noted_without : (pairs : Known) (ns : List Note) (n : Note) (rest : List Note) → AreNotedListed pairs (ns ++ n ∷ rest) → AreNotedListed pairs (ns ++ rest)
noted_without pairs [] n rest a = a.1
noted_without pairs (m ∷ ns) n rest a = (a.0, noted_without pairs ns n rest a.1)

pub noted_prefix : (pairs : Known) (ns rest : List Note) → AreNotedListed pairs (ns ++ rest) → AreNotedListed pairs ns
noted_prefix pairs [] rest a = tt
noted_prefix pairs (m ∷ ns) rest a = (a.0, noted_prefix pairs ns rest a.1)

pub inside_drop : (k i : ℕ) (ns : List Note) → AreInside k ns → AreInside k (drop i ns)
inside_drop k zero ns a = a
inside_drop k (suc i) [] a = tt
inside_drop k (suc i) (n ∷ ns) a = inside_drop k i ns a.1

-- a note is moved to the end of those that are kept
pub kept_set : (ns : List Note) (kept i : ℕ) (n : Note) → kept ≤ i → i < length ns → drop i ns ≡ n ∷ drop (i + 1) ns → take (kept + 1) (set ns kept n) ++ drop (i + 1) (set ns kept n) ≡ take kept ns ++ drop i ns
kept_set ns kept i n le lt split =
    ap (λ (l : List Note). l ++ drop (i + 1) (set ns kept n)) (take_more_set ns kept n (omega (arith, le, lt)))
    ∙ append_assoc (take kept ns) (n ∷ []) (drop (i + 1) (set ns kept n))
    ∙ ap (λ (l : List Note). take kept ns ++ n ∷ l) (drop-set-lt (i + 1) ns kept n (omega (arith, le)))
    ∙ ap (λ (l : List Note). take kept ns ++ l) (sym split)

-- a write of all of a list
pub refilled : (n : ℕ) (ns ms : List Note) → length ms ≡ n → refill n ns ms ≡ ms
refilled n ns ms e =
    let le : n ≤ length ms = omega (arith, e) in
    take-append-le n ms (drop (length ms) ns) le ∙ ap (λ k. take k ms) (sym e) ∙ take-length ms

-- the same of any list
pub refilled_with : {X : Type 0} (n : ℕ) (ns ms : List X) → length ms ≡ n → refill n ns ms ≡ ms
refilled_with n ns ms e =
    let le : n ≤ length ms = omega (arith, e) in
    take-append-le n ms (drop (length ms) ns) le ∙ ap (λ k. take k ms) (sym e) ∙ take-length ms
