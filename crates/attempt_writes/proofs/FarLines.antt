-- Lines of far variables: what is gathered of them, and what a note goes back to.
use Rattle.std.proofs.Common.{◌≡◌, ◌≢◌, ℕ, zero, suc, ◌+◌, ◌<◌, ◌≤◌, false, List, [], ◌∷◌, ◌++◌, length, Option, Some, None, ℤ, refl, sym, ap, ◌∙◌, subst, arith, ⊎_elim, eqb, drop, take, slice_get, length-append}
use Rattle.std.specs.List.{IsDistinct}
use Rattle.std.proofs.lemmas.List.{set-append_left}
use Rattle.std.proofs.lemmas.Option.{slice_get_within}
use Rattle.std.proofs.Math.ListN.{set, length-set}
use Rattle.txn_programs.specs.declared.ast.VarId.{VarId}
use Rattle.attempt_writes.specs.declared.note.Note.{Note}
use Rattle.attempt_writes.specs.FarWrites.{gathered, written_if, AreFar}
use Rattle.attempt_writes.specs.Known.{Known, known_at, write}
use Rattle.attempt_writes.specs.Notes.{flat, undone, hints_before, AreHinted, AreInside, AreOthers, HasNote, IsOther}
use Rattle.attempt_writes.specs.NumberIndex.{IsAbsent}
use Rattle.attempt_writes.specs.Order.{Ascending}
use Rattle.attempt_writes.proofs.Indexed.{all_at, not_apart}
use Rattle.attempt_writes.proofs.OwnHints.{Noted, noted_or_others, hint_found, drop_get, other_undone}
use Rattle.attempt_writes.proofs.OwnTable.{ascending_same, known_write, known_other, same_or_other, same_id}
use Rattle.attempt_writes.proofs.Pairs.{Ascending-write}

if_ascending : (n : ℕ) (o : Option ℤ) (w : Known) → Ascending w → Ascending (written_if n o w)
if_ascending n None w a = a
if_ascending n (Some v) w a = Ascending-write w (record { 0 = n }) v a

pub gathered_ascending : (ns : List ℕ) (os : List (Option ℤ)) → Ascending (gathered ns os)
gathered_ascending [] os = tt
gathered_ascending (n ∷ ns) [] = tt
gathered_ascending (n ∷ ns) (o ∷ os) = if_ascending n o (gathered ns os) (gathered_ascending ns os)

-- a later write of a variable counts
write_again : (w : Known) (x : VarId) (u v : ℤ) → Ascending w → write (write w x u) x v ≡ write w x v
write_again w x u v a =
    ascending_same (write (write w x u) x v) (write w x v) (Ascending-write (write w x u) x v (Ascending-write w x u a)) (Ascending-write w x v a)
    (λ y. same_or_other x.0 y.0
    (λ e. ap (λ (z : VarId). known_at (write (write w x u) x v) z) (sym (same_id x y e)) ∙ known_write (write w x u) x v ∙ sym (known_write w x v) ∙ ap (λ (z : VarId). known_at (write w x v) z) (same_id x y e))
    (λ ne. known_other (write w x u) x v y ne ∙ known_other w x u y ne ∙ sym (known_other w x v y ne)))

known_two : (w : Known) (x y z : VarId) (u v : ℤ) → x.0 ≢ y.0 → x.0 ≡ z.0 → known_at (write (write w x u) y v) z ≡ Some u
known_two w x y z u v ne e =
    known_other (write w x u) y v z (λ f. ne (e ∙ sym f)) ∙ ap (λ (q : VarId). known_at (write w x u) q) (sym (same_id x z e)) ∙ known_write w x u

pub known_last : (w : Known) (x z : VarId) (v : ℤ) → x.0 ≡ z.0 → known_at (write w x v) z ≡ Some v
known_last w x z v e = ap (λ (q : VarId). known_at (write w x v) q) (sym (same_id x z e)) ∙ known_write w x v

-- writes of two variables may come in either order
write_swap : (w : Known) (x y : VarId) (u v : ℤ) → Ascending w → x.0 ≢ y.0 → write (write w x u) y v ≡ write (write w y v) x u
write_swap w x y u v a ne =
    ascending_same (write (write w x u) y v) (write (write w y v) x u) (Ascending-write (write w x u) y v (Ascending-write w x u a)) (Ascending-write (write w y v) x u (Ascending-write w y v a))
    (λ z. same_or_other x.0 z.0
    (λ e. known_two w x y z u v ne e ∙ sym (known_last (write w y v) x z u e))
    (λ nx. same_or_other y.0 z.0
    (λ e. known_last (write w x u) y z v e ∙ sym (known_two w y x z v u (λ f. ne (sym f)) e))
    (λ ny. known_other (write w x u) y v z ny ∙ known_other w x u z nx ∙ sym (known_other w y v z ny) ∙ sym (known_other (write w y v) x u z nx))))

-- a number of a later line is another
other_line : (n : ℕ) (ns : List ℕ) (k m : ℕ) → IsDistinct eqb (n ∷ ns) → slice_get ns k ≡ Some m → n ≢ m
unfolding IsDistinct
other_line n ns k m d e f = not_apart m (subst (λ (y : ℕ). eqb y m ≡ false) f (all_at (λ y. eqb n y ≡ false) ns k m d.0 e))

rest_distinct : (n : ℕ) (ns : List ℕ) → IsDistinct eqb (n ∷ ns) → IsDistinct eqb ns
unfolding IsDistinct
rest_distinct n ns d = d.1

put_first : (n : ℕ) (o : Option ℤ) (w : Known) (x : VarId) (v : ℤ) → Ascending w → n ≡ x.0 → written_if n (Some v) w ≡ write (written_if n o w) x v
put_first n None w x v a e = ap (λ (y : VarId). write w y v) (same_id (record { 0 = n }) x e)
put_first n (Some u) w x v a e =
    let y : VarId = record { 0 = n } in
    sym (write_again w y u v a) ∙ ap (λ (z : VarId). write (write w y u) z v) (same_id y x e)

put_later : (n : ℕ) (o : Option ℤ) (w : Known) (x : VarId) (v : ℤ) → Ascending w → n ≢ x.0 → written_if n o (write w x v) ≡ write (written_if n o w) x v
put_later n None w x v a ne = refl
put_later n (Some u) w x v a ne = write_swap w x (record { 0 = n }) v u a (λ e. ne (sym e))

-- a value that is put into a line is a write of its variable
pub gathered_put : (ns : List ℕ) (os : List (Option ℤ)) (k : ℕ) (x : VarId) (v : ℤ) → IsDistinct eqb ns → length os ≡ length ns → slice_get ns k ≡ Some x.0 → gathered ns (set os k (Some v)) ≡ write (gathered ns os) x v
gathered_put [] os k x v d l e = absurd (cc)
gathered_put (n ∷ ns) [] k x v d l e = absurd (omega (arith, l))
gathered_put (n ∷ ns) (o ∷ os) zero x v d l e =
    let same : n ≡ x.0 = cc in
    put_first n o (gathered ns os) x v (gathered_ascending ns os) same
gathered_put (n ∷ ns) (o ∷ os) (suc k) x v d l e =
    let shorter : length os ≡ length ns = omega (arith, l) in
    ap (written_if n o) (gathered_put ns os k x v (rest_distinct n ns d) shorter e)
    ∙ put_later n o (gathered ns os) x v (gathered_ascending ns os) (other_line n ns k x.0 d e)

absent_if : (n : ℕ) (o : Option ℤ) (w : Known) (x : VarId) → n ≢ x.0 → known_at (written_if n o w) x ≡ known_at w x
absent_if n None w x ne = refl
absent_if n (Some v) w x ne = known_other w (record { 0 = n }) v x ne

-- a variable with no line has no value
pub gathered_absent : (ns : List ℕ) (os : List (Option ℤ)) (x : VarId) → IsAbsent ns x.0 → known_at (gathered ns os) x ≡ None
gathered_absent [] os x a = refl
gathered_absent (n ∷ ns) [] x a = refl
gathered_absent (n ∷ ns) (o ∷ os) x a = absent_if n o (gathered ns os) x (λ e. a zero (ap Some e)) ∙ gathered_absent ns os x (λ k. a (suc k))

absent_rest : (n : ℕ) (ns : List ℕ) → IsDistinct eqb (n ∷ ns) → IsAbsent ns n
absent_rest n ns d = λ k e. other_line n ns k n d e refl

known_if : (n : ℕ) (o : Option ℤ) (w : Known) (x : VarId) → n ≡ x.0 → known_at w x ≡ None → known_at (written_if n o w) x ≡ o
known_if n None w x e none = none
known_if n (Some v) w x e none = known_last w (record { 0 = n }) x v e

-- a variable's value is that of its line
pub gathered_known : (ns : List ℕ) (os : List (Option ℤ)) (k : ℕ) (x : VarId) → IsDistinct eqb ns → length os ≡ length ns → slice_get ns k ≡ Some x.0 → known_at (gathered ns os) x ≡ flat (slice_get os k)
gathered_known [] os k x d l e = absurd (cc)
gathered_known (n ∷ ns) [] k x d l e = absurd (omega (arith, l))
gathered_known (n ∷ ns) (o ∷ os) zero x d l e =
    let same : n ≡ x.0 = cc in
    known_if n o (gathered ns os) x same (gathered_absent ns os x (subst (IsAbsent ns) same (absent_rest n ns d)))
gathered_known (n ∷ ns) (o ∷ os) (suc k) x d l e =
    let shorter : length os ≡ length ns = omega (arith, l) in
    absent_if n o (gathered ns os) x (other_line n ns k x.0 d e) ∙ gathered_known ns os k x (rest_distinct n ns d) shorter e

-- a line with no value gives nothing
pub gathered_more : (ns : List ℕ) (os : List (Option ℤ)) (n : ℕ) → length os ≡ length ns → gathered (ns ++ n ∷ []) (os ++ None ∷ []) ≡ gathered ns os
gathered_more [] [] n l = refl
gathered_more [] (o ∷ os) n l = absurd (omega (arith, l))
gathered_more (m ∷ ns) [] n l = absurd (omega (arith, l))
gathered_more (m ∷ ns) (o ∷ os) n l = let shorter : length os ≡ length ns = omega (arith, l) in ap (written_if m o) (gathered_more ns os n shorter)

pub length_undone : (notes : List Note) (t : List (Option ℤ)) → length (undone notes t) ≡ length t
length_undone [] t = refl
length_undone (n ∷ notes) t = length-set (undone notes t) n.x.0 n.old ∙ length_undone notes t

-- notes of the lines that there were leave a line more as it is
pub undone_more : (notes : List Note) (t : List (Option ℤ)) (o : Option ℤ) → AreInside (length t) notes → undone notes (t ++ o ∷ []) ≡ undone notes t ++ o ∷ []
undone_more [] t o h = refl
undone_more (n ∷ notes) t o h =
    let lt = h.0 in
    let long = length_undone notes t in
    ap (λ (l : List (Option ℤ)). set l n.x.0 n.old) (undone_more notes t o h.1)
    ∙ set-append_left (undone notes t) (o ∷ []) n.x.0 n.old (omega (arith, lt, long))

-- where a line's value was another, it has a note
pub changed_line : (ns : List ℕ) (os : List (Option ℤ)) (notes : List Note) (g k : ℕ) (x : VarId) → IsDistinct eqb ns → length os ≡ length ns → slice_get ns k ≡ Some x.0
    → known_at (gathered ns os) x ≢ known_at (gathered ns (undone (drop g notes) os)) x → HasNote g (length notes) notes (record { 0 = k })
changed_line ns os notes g k x d l e h = ⊎_elim
    (λ (f : Noted (drop g notes) (record { 0 = k })).
    let at : slice_get notes (g + f.0) ≡ Some f.1 = sym (drop_get notes g f.0 (g + f.0) refl) ∙ f.2 in
    let within = slice_get_within notes (g + f.0) f.1 at in
    (g + f.0, f.1, omega arith, within, at, f.3))
    (λ (a : AreOthers (record { 0 = k }) (drop g notes)).
    let long = length_undone (drop g notes) os in
    absurd (h (gathered_known ns os k x d l e ∙ ap flat (sym (other_undone (drop g notes) (record { 0 = k }) os a)) ∙ sym (gathered_known ns (undone (drop g notes) os) k x d (long ∙ l) e))))
    (noted_or_others (drop g notes) (record { 0 = k }))

-- a line whose hint names no note from `low` on has none there
pub no_note : (notes : List Note) (t : List ℕ) (low e : ℕ) (x : VarId) → AreHinted 0 notes t → slice_get t x.0 ≡ Some e → IsOther low (length notes) notes e x → HasNote low (length notes) notes x → ⊥
no_note notes t low e x h g other has = hint_found notes t low e x h g other has.0 has.2 (has.1, has.4, has.5)

pub inside_more : (k : ℕ) (notes : List Note) (n : Note) → n.x.0 < k → AreInside k notes → AreInside k (notes ++ n ∷ [])
inside_more k [] n lt h = (lt, tt)
inside_more k (m ∷ notes) n lt h = (h.0, inside_more k notes n lt h.1)

pub inside_none : (k : ℕ) (notes : List Note) → notes ≡ [] → AreInside k notes
inside_none k notes e = subst (AreInside k) (sym e) tt

pub hinted_none : (hints : List ℕ) (notes : List Note) → notes ≡ [] → AreHinted 0 notes hints
hinted_none hints notes e = subst (λ (l : List Note). AreHinted 0 l hints) (sym e) tt

pub distinct_none : (ns : List ℕ) → ns ≡ [] → IsDistinct eqb ns
unfolding IsDistinct
distinct_none ns e = subst (IsDistinct eqb) (sym e) tt

inside_take : (k h : ℕ) (notes : List Note) → AreInside k notes → AreInside k (take h notes)
inside_take k zero notes a = tt
inside_take k (suc h) [] a = tt
inside_take k (suc h) (n ∷ notes) a = (a.0, inside_take k h notes a.1)

pub inside_front_of : (k h : ℕ) (notes now : List Note) → now ≡ take h notes → AreInside k notes → AreInside k now
inside_front_of k h notes now e a = subst (AreInside k) (sym e) (inside_take k h notes a)

inside_drop : (k h : ℕ) (notes : List Note) → AreInside k notes → AreInside k (drop h notes)
inside_drop k zero notes a = a
inside_drop k (suc h) [] a = tt
inside_drop k (suc h) (n ∷ notes) a = inside_drop k h notes a.1

-- a line more, with no value, gives nothing at any height
pub at_more : (ns : List ℕ) (os : List (Option ℤ)) (notes : List Note) (n h : ℕ) → length os ≡ length ns → AreInside (length os) notes → gathered (ns ++ n ∷ []) (undone (drop h notes) (os ++ None ∷ [])) ≡ gathered ns (undone (drop h notes) os)
at_more ns os notes n h l a =
    ap (gathered (ns ++ n ∷ [])) (undone_more (drop h notes) os None (inside_drop (length os) h notes a))
    ∙ gathered_more ns (undone (drop h notes) os) n (length_undone (drop h notes) os ∙ l)

pub line_at : (ns : List ℕ) (n : ℕ) → slice_get (ns ++ n ∷ []) (length ns) ≡ Some n
line_at [] n = refl
line_at (m ∷ ns) n = line_at ns n

pub far_more : (ns : List ℕ) (n : ℕ) → 256 ≤ n → AreFar ns → AreFar (ns ++ n ∷ [])
far_more [] n le a = (le, tt)
far_more (m ∷ ns) n le a = (a.0, far_more ns n le a.1)

length_hints : (notes : List Note) (t : List ℕ) → length (hints_before notes t) ≡ length t
length_hints [] t = refl
length_hints (n ∷ notes) t = length-set (hints_before notes t) n.x.0 n.earlier ∙ length_hints notes t

hints_more : (notes : List Note) (t : List ℕ) (p : ℕ) → AreInside (length t) notes → hints_before notes (t ++ p ∷ []) ≡ hints_before notes t ++ p ∷ []
hints_more [] t p h = refl
hints_more (n ∷ notes) t p h =
    let lt = h.0 in
    let long = length_hints notes t in
    ap (λ (l : List ℕ). set l n.x.0 n.earlier) (hints_more notes t p h.1)
    ∙ set-append_left (hints_before notes t) (p ∷ []) n.x.0 n.earlier (omega (arith, lt, long))

get_front : (t u : List ℕ) (i v : ℕ) → slice_get t i ≡ Some v → slice_get (t ++ u) i ≡ Some v
get_front [] u i v e = absurd (cc)
get_front (y ∷ t) u zero v e = e
get_front (y ∷ t) u (suc i) v e = get_front t u i v e

-- the hint of a line more is no matter
pub hinted_more : (i : ℕ) (notes : List Note) (t : List ℕ) (p : ℕ) → AreInside (length t) notes → AreHinted i notes t → AreHinted i notes (t ++ p ∷ [])
hinted_more i [] t p a h = tt
hinted_more i (n ∷ notes) t p a h =
    (ap (λ (l : List ℕ). slice_get l n.x.0) (hints_more notes t p a.1) ∙ get_front (hints_before notes t) (p ∷ []) n.x.0 i h.0, hinted_more (i + 1) notes t p a.1 h.1)

inside_up : (k m : ℕ) (notes : List Note) → k ≤ m → AreInside k notes → AreInside m notes
inside_up k m [] le a = tt
inside_up k m (n ∷ notes) le a = let lt = a.0 in (omega (arith, le, lt), inside_up k m notes le a.1)

pub inside_wider : (notes : List Note) (t u : List (Option ℤ)) → u ≡ t ++ None ∷ [] → AreInside (length t) notes → AreInside (length u) notes
inside_wider notes t u e a = inside_up (length t) (length u) notes (omega (arith, ap length e, length-append t (None ∷ []))) a
