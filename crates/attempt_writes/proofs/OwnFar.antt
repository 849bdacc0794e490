-- Near writes with the far ones behind them.
use Rattle.std.proofs.Common.{◌≡◌, ◌≢◌, ℕ, zero, suc, ◌+◌, ◌<◌, ◌≤◌, Bool, true, false, List, [], ◌∷◌, ◌++◌, length, Option, Some, None, ℤ, refl, sym, ap, ◌∙◌, subst, arith, reverse, append-nil, nat_lt, ◌==◌, if◌then◌else◌, slice_get, drop}
use Rattle.std.specs.Prelude.{Result, Ok, Err, OnOk, OnErr}
use Rattle.std.proofs.lemmas.List.{reverse-reverse}
use Rattle.std.proofs.lemmas.Bool.Decides.{nat_tests}
use Rattle.std.proofs.Math.Seq.{drop-length}
use Rattle.txn_programs.specs.declared.ast.VarId.{VarId}
use Rattle.attempt_writes.specs.declared.note.Note.{Note}
use Rattle.attempt_writes.specs.declared.written.Branch.{Branch}
use Rattle.attempt_writes.specs.FarWrites.{Far, AreFar, far_at, far_now, gathered, written_if}
use Rattle.attempt_writes.specs.Known.{Known, known_at, write}
use Rattle.attempt_writes.specs.Order.{AllAfter, AllBefore}
use Rattle.attempt_writes.specs.Own.{Mark, Marked, AreFarNested, GoesBack, IsChangedInner, LeavesInner, flat, listed, marks_of, onto, undone, with_far}
use Rattle.attempt_writes.proofs.Indexed.{all_at}
use Rattle.attempt_writes.proofs.InOrder.{write_past}
use Rattle.attempt_writes.proofs.FarLines.{gathered_absent, length_undone}
use Rattle.attempt_writes.proofs.OwnNotes.{last_first}
use Rattle.attempt_writes.proofs.OwnTable.{known_listed}
use Rattle.attempt_writes.proofs.Pairs.{AllAfter-write}

front_step : (b : Bool) (v : ℤ) (o q : Option ℤ) → o ≡ q → (if b then Some v else o) ≡ (if b then Some v else q)
front_step b v o q e = ap (λ (z : Option ℤ). if b then Some v else z) e

-- what is not behind is in front
pub known_front : (a b : Known) (x : VarId) → known_at b x ≡ None → known_at (a ++ b) x ≡ known_at a x
known_front [] b x e = e
known_front (p ∷ a) b x e = front_step (p.0.0 == x.0) p.1 _ _ (known_front a b x e)

back_step : (c : Bool) (v : ℤ) (o q r : Option ℤ) → (o ≡ None → r ≡ q) → (if c then Some v else o) ≡ None → (if c then Some v else r) ≡ q
back_step true v o q r h e = absurd (cc)
back_step false v o q r h e = h e

-- what is not in front is behind
pub known_back : (a b : Known) (x : VarId) → known_at a x ≡ None → known_at (a ++ b) x ≡ known_at b x
known_back [] b x e = refl
known_back (p ∷ a) b x e = back_step (p.0.0 == x.0) p.1 (known_at a x) (known_at b x) (known_at (a ++ b) x) (known_back a b x) e

-- far writes have no near variable
pub far_none : (ns : List ℕ) (os : List (Option ℤ)) (x : VarId) → AreFar ns → x.0 < 256 → known_at (gathered ns os) x ≡ None
far_none ns os x a lt = gathered_absent ns os x (λ k e. let le : 256 ≤ x.0 = all_at (λ n. 256 ≤ n) ns k x.0 a e in omega (arith, lt, le))

get_beyond : {X : Type 0} (t : List X) (k : ℕ) → length t ≤ k → slice_get t k ≡ None
get_beyond [] k le = refl
get_beyond (y ∷ t) zero le = absurd (omega (arith, le))
get_beyond (y ∷ t) (suc k) le = get_beyond t k (omega (arith, le))

-- a table has no far variable
pub near_none : (t : List (Option ℤ)) (x : VarId) → length t ≡ 256 → 256 ≤ x.0 → known_at (listed 0 t) x ≡ None
near_none t x e le = known_listed t x ∙ ap flat (get_beyond t x.0 (omega (arith, e, le)))

first_write : (q : VarId × ℤ) (b : Known) (x : VarId) (v : ℤ) → x.0 < q.0.0 → write (q ∷ b) x v ≡ (x, v) ∷ q ∷ b
first_write q b x v lt = grind (arith, nat_tests)

first_of : (b : Known) (x : VarId) (v : ℤ) → AllAfter x b → write b x v ≡ (x, v) ∷ b
first_of [] x v a = refl
first_of (q ∷ b) x v a = first_write q b x v a.0

front_write_step : (c d : Bool) (p : VarId × ℤ) (a b l : Known) (x : VarId) (v : ℤ) → l ≡ write a x v ++ b
    → (if c then (x, v) ∷ (a ++ b) else (if d then (x, v) ∷ p ∷ (a ++ b) else p ∷ l)) ≡ (if c then (x, v) ∷ a else (if d then (x, v) ∷ p ∷ a else p ∷ write a x v)) ++ b
front_write_step true d p a b l x v e = refl
front_write_step false true p a b l x v e = refl
front_write_step false false p a b l x v e = ap (λ (m : Known). p ∷ m) e

-- a write of a variable before all behind is one in front
pub front_write : (a b : Known) (x : VarId) (v : ℤ) → AllAfter x b → write (a ++ b) x v ≡ write a x v ++ b
front_write [] b x v h = first_of b x v h
front_write (p ∷ a) b x v h = front_write_step (p.0.0 == x.0) (nat_lt x.0 p.0.0) p a b (write (a ++ b) x v) x v (front_write a b x v h)

-- a write of a variable behind all in front is one behind
pub back_write : (a b : Known) (x : VarId) (v : ℤ) → AllBefore x a → write (a ++ b) x v ≡ a ++ write b x v
back_write [] b x v h = refl
back_write (p ∷ a) b x v h = write_past p (a ++ b) x v h.0 ∙ ap (λ (m : Known). p ∷ m) (back_write a b x v h.1)

after_if : (y : VarId) (n : ℕ) (o : Option ℤ) (w : Known) → y.0 < n → AllAfter y w → AllAfter y (written_if n o w)
after_if y n None w lt a = a
after_if y n (Some v) w lt a = AllAfter-write y w (record { 0 = n }) v lt a

pub far_after : (ns : List ℕ) (os : List (Option ℤ)) (x : VarId) → AreFar ns → x.0 < 256 → AllAfter x (gathered ns os)
far_after [] os x a lt = tt
far_after (n ∷ ns) [] x a lt = tt
far_after (n ∷ ns) (o ∷ os) x a lt = let le = a.0 in after_if x n o (gathered ns os) (omega (arith, lt, le)) (far_after ns os x a.1 lt)

before_onto : (y x : VarId) (o : Option ℤ) (w : Known) → y.0 < x.0 → AllBefore x w → AllBefore x (onto y o w)
before_onto y x None w lt a = a
before_onto y x (Some v) w lt a = (lt, a)

pub near_before : (i : ℕ) (t : List (Option ℤ)) (x : VarId) → i + length t ≤ x.0 → AllBefore x (listed i t)
near_before i [] x le = tt
near_before i (o ∷ t) x le =
    let low : i < x.0 = omega (arith, le) in
    before_onto (record { 0 = i }) x o (listed (i + 1) t) low (near_before (i + 1) t x (omega (arith, le)))

pub nothing_far : (f : Far) → f.numbers ≡ [] → far_now f ≡ []
nothing_far f e = ap (λ (ns : List ℕ). gathered ns f.table) e

pub far_at_last : (f : Far) (h : ℕ) → h ≡ length f.notes → far_at h f ≡ far_now f
far_at_last f h e = ap (λ k. gathered f.numbers (undone (drop k f.notes) f.table)) e ∙ ap (λ (l : List Note). gathered f.numbers (undone l f.table)) (drop-length f.notes)

-- the same marks where far writes go back to the same
pub with_same : (n : ℕ) (bs : List Branch) (f g : Far) (ms : List Mark) → AreFarNested n bs → ((h : ℕ) → h ≤ n → far_at h g ≡ far_at h f) → with_far g bs ms ≡ with_far f bs ms
with_same n [] f g ms k e = refl
with_same n (b ∷ bs) f g [] k e = refl
with_same n (b ∷ bs) f g (Marked s loops w ∷ ms) k e =
    let lower = k.0 in
    ap (λ (far : Known). Marked s loops (w ++ far) ∷ with_far g bs ms) (e b.far lower)
    ∙ ap (λ (l : List Mark). Marked s loops (w ++ far_at b.far f) ∷ l) (with_same b.far bs f g ms k.1 (λ h le. e h (omega (arith, le, lower))))

pub no_far_mark : (f : Far) (bs : List Branch) (ns : List Note) (kept : List ℕ) (t : List (Option ℤ)) → with_far f bs (marks_of bs ns kept t) ≡ [] → bs ≡ []
no_far_mark f [] ns kept t e = refl
no_far_mark f (b ∷ bs) ns kept t e = absurd (cc)

-- a near variable that changed since the innermost branch began
pub changed_near : (f : Far) (bs : List Branch) (ns : List Note) (kept : List ℕ) (t : List (Option ℤ)) (x : VarId) → AreFar f.numbers → x.0 < 256
    → IsChangedInner (with_far f bs (marks_of bs ns kept t)) (listed 0 t ++ far_now f) x → IsChangedInner (marks_of bs ns kept t) (listed 0 t) x
changed_near f [] ns kept t x a lt h = h
changed_near f (b ∷ bs) ns kept t x a lt h = λ e.
    h (known_front (listed 0 t) (far_now f) x (far_none f.numbers f.table x a lt) ∙ e ∙ sym (known_front _ (far_at b.far f) x (far_none f.numbers _ x a lt)))

pub leaves_far : (f : Far) (b : Branch) (outer : List Branch) (ms rest : List Mark) (loops : List ℕ) → LeavesInner ms loops rest → LeavesInner (with_far f (b ∷ outer) ms) loops (with_far f outer rest)
leaves_far f b outer [] rest loops h = absurd h
leaves_far f b outer (Marked s back w ∷ ms) rest loops h = (h.0, ap (with_far f outer) h.1)

pub goes_back_far : (f g : Far) (b : Branch) (outer : List Branch) (ms rest : List Mark) (second : ℕ) (loops : List ℕ) (w : Known) → AreFarNested b.far outer
    → far_now g ≡ far_at b.far f → ((h : ℕ) → h ≤ b.far → far_at h g ≡ far_at h f)
    → GoesBack ms second loops w rest → GoesBack (with_far f (b ∷ outer) ms) second loops (w ++ far_now g) (with_far g outer rest)
goes_back_far f g b outer [] rest second loops w k now e h = absurd h
goes_back_far f g b outer (Marked s back before ∷ ms) rest second loops w k now e h =
    (h.0, h.1, ap (λ (l : Known). l ++ far_at b.far f) h.2 ∙ ap (λ (l : Known). w ++ l) (sym now), with_same b.far outer f g rest k e ∙ ap (with_far f outer) h.3)

pub far_popped : (n : ℕ) (bs init : List Branch) (b : Branch) → bs ≡ init ++ b ∷ [] → AreFarNested n (reverse bs) → (b.far ≤ n) × AreFarNested b.far (reverse init)
far_popped n bs init b e k = subst (AreFarNested n) (ap reverse e ∙ last_first init b) k

pub far_nested_more : (m n : ℕ) (bs : List Branch) → m ≤ n → AreFarNested m bs → AreFarNested n bs
far_nested_more m n [] le h = tt
far_nested_more m n (b ∷ bs) le h = (let lower = h.0 in omega (arith, lower, le), h.1)

pub pairs_case : (b : Bool) (f g : Far) (near : Known) → (b ≡ true → g.pairs ≡ near ++ far_now f) → (b ≡ false → f.numbers ≡ []) → (if b then g.pairs else near) ≡ near ++ far_now f
pairs_case true f g near h n = h refl
pairs_case false f g near h n = sym (ap (λ (l : Known). near ++ l) (nothing_far f (n refl)) ∙ append-nil near)

-- a far variable that changed since the innermost branch began
pub changed_far : (f : Far) (bs : List Branch) (ns : List Note) (kept : List ℕ) (t : List (Option ℤ)) (x : VarId) → length t ≡ 256 → 256 ≤ x.0
    → IsChangedInner (with_far f bs (marks_of bs ns kept t)) (listed 0 t ++ far_now f) x
    → (b : Branch) × (outer : List Branch) × (bs ≡ b ∷ outer) × (known_at (far_now f) x ≢ known_at (far_at b.far f) x)
changed_far f [] ns kept t x wide le h = absurd h
changed_far f (b ∷ outer) ns kept t x wide le h =
    let u = undone (drop b.height ns) t in
    (b, outer, refl, λ e. h (known_back (listed 0 t) (far_now f) x (near_none t x wide le) ∙ e ∙ sym (known_back (listed 0 u) (far_at b.far f) x (near_none u x (length_undone (drop b.height ns) t ∙ wide) le))))

innermost_case : (rb bs : List Branch) (r : Option ℕ) (g : ℕ) → reverse bs ≡ rb → (bs ≡ [] → r ≡ None) → ((b : Branch) (outer : List Branch) → reverse bs ≡ b ∷ outer → r ≡ Some b.far) → r ≡ Some g
    → (b : Branch) × (outer : List Branch) × (reverse bs ≡ b ∷ outer) × (g ≡ b.far)
innermost_case [] bs r g e none some is =
    let empty : bs ≡ [] = sym (reverse-reverse bs) ∙ ap reverse e in
    let no = none empty in
    absurd (cc)
innermost_case (b ∷ outer) bs r g e none some is =
    let there = some b outer e in
    (b, outer, e, cc)

pub innermost_is : (bs : List Branch) (r : Option ℕ) (g : ℕ) → (bs ≡ [] → r ≡ None) → ((b : Branch) (outer : List Branch) → reverse bs ≡ b ∷ outer → r ≡ Some b.far) → r ≡ Some g
    → (b : Branch) × (outer : List Branch) × (reverse bs ≡ b ∷ outer) × (g ≡ b.far)
innermost_is bs r g none some is = innermost_case (reverse bs) bs r g refl none some is

pub on_ok : {E : Type 0} (r : Result (Unit {0}) E) (A B : Type 0) → OnOk r A → (A → B) → OnOk r B
on_ok (Ok x) A B a f = f a
on_ok (Err e) A B a f = tt

pub on_err : {E : Type 0} (r : Result (Unit {0}) E) (A B : Type 0) → OnErr r A → (A → B) → OnErr r B
on_err (Ok x) A B a f = tt
on_err (Err e) A B a f = f a

either : {E : Type 0} (r : Result (Unit {0}) E) (A B C : Type 0) → OnOk r A → OnErr r B → (A → C) → (B → C) → C
either (Ok x) A B C a b f g = f a
either (Err e) A B C a b f g = g b

marks_case : (rb : List Branch) (f g : Far) (ms : List Mark) (r : Option ℕ) → AreFarNested (length f.notes) rb → ((b : Branch) (outer : List Branch) → rb ≡ b ∷ outer → r ≡ Some b.far)
    → ((h q : ℕ) → r ≡ Some q → h ≤ q → far_at h g ≡ far_at h f) → with_far g rb ms ≡ with_far f rb ms
marks_case [] f g ms r k some e = refl
marks_case (b ∷ outer) f g ms r k some e =
    let low : b.far ≤ b.far = omega arith in
    with_same b.far (b ∷ outer) f g ms (low, k.1) (λ h le. e h b.far (some b outer refl) le)

-- the marks after a far write, also one that was refused
pub put_marks : {E : Type 0} (res : Result (Unit {0}) E) (rb : List Branch) (f g : Far) (ms : List Mark) (r : Option ℕ) → AreFarNested (length f.notes) rb → ((b : Branch) (outer : List Branch) → rb ≡ b ∷ outer → r ≡ Some b.far)
    → OnOk res ((h q : ℕ) → r ≡ Some q → h ≤ q → far_at h g ≡ far_at h f) → OnErr res (g ≡ f) → with_far g rb ms ≡ with_far f rb ms
put_marks res rb f g ms r k some ok err =
    either res ((h q : ℕ) → r ≡ Some q → h ≤ q → far_at h g ≡ far_at h f) (g ≡ f) (with_far g rb ms ≡ with_far f rb ms) ok err
    (λ before. marks_case rb f g ms r k some before) (λ same. ap (λ (v : Far). with_far v rb ms) same)

pub no_far_branch : (f : Far) (bs : List Branch) (ns : List Note) (kept : List ℕ) (t : List (Option ℤ)) → with_far f (reverse bs) (marks_of (reverse bs) ns kept t) ≡ [] → bs ≡ []
no_far_branch f bs ns kept t e = sym (reverse-reverse bs) ∙ ap reverse (no_far_mark f (reverse bs) ns kept t e)
