-- A move: its checks, one after another.
use Rattle.std.proofs.Common.{◌≡◌, ◌≢◌, ◌∙◌, ℕ, zero, suc, ◌+◌, ◌-◌, ◌<◌, Bool, true, false, if◌then◌else◌, List, [], ◌∷◌, length, set, ℤ, Option, Some, None, slice_get, inl, inr, refl, sym, ap, subst, arith}
use Rattle.std.specs.Int.{w64, cast_signed}
use Rattle.std.specs.Ordering.{int_eq}
use Rattle.std.proofs.lemmas.Bool.{false≢true}
use Rattle.std.proofs.lemmas.Option.{slice_get_within}
use Rattle.txn_programs.specs.Listing.{Listing}
use Rattle.txn_programs.specs.declared.ast.TaskId.{TaskId}
use Rattle.txn_programs.specs.declared.ast.VarId.{VarId}
use Rattle.txn_words.specs.Stores.{new_of}
use Rattle.attempt.specs.Asking.{Known, Answer, Needs, Ends}
use Rattle.world_law.specs.declared.events.Fate.TheVariants as fate
use Rattle.world_law.specs.declared.events.Event.TheVariants.{First, Value, Second, Again}
use Rattle.world_law.specs.declared.events.Seen.{Seen}
use Rattle.world_law.specs.declared.events.Seen.TheVariants as seen
use Rattle.world_law.specs.World.{Check, Started, World, IsRunning, is_live, stand, changed, with_fate, running_again}
use Rattle.world_law.specs.Next.{Next, told, checks_on, reads_on, goes_again}
use Rattle.world_law.proofs.Places.{get_set}
use Rattle.world.specs.Runs.{IsChecking}
use Rattle.world.specs.Lines.{Reads, ChecksCount, Moves}

-- ---- how many pairs are left to check

abbrev pub pairs_left : Known → Option Check → ℕ
pairs_left log None = 0
pairs_left log (Some c) = length log - c.checked

abbrev pub all_left : List Started → ℕ
all_left [] = 0
all_left (y ∷ l) = pairs_left y.log y.check + all_left l

-- .. and once more where a check goes on
abbrev pub to_check : Seen → World → ℕ
to_check (seen.Checks x) w = suc (all_left w.attempts)
to_check s w = 0

left_set : (l : List Started) (i : ℕ) (y z : Started) → slice_get l i ≡ Some y → all_left (set l i z) + pairs_left y.log y.check ≡ all_left l + pairs_left z.log z.check
left_set [] i y z e = absurd (cc)
left_set (u ∷ l) zero y z e = let same : u ≡ y = cc in let p = ap (λ (v : Started). pairs_left v.log v.check) same in omega (arith, p)
left_set (u ∷ l) (suc i) y z e = let h = left_set l i y z e in omega (arith, h)

-- an attempt with as many left
left_same : (w v : World) (i : ℕ) (y z : Started) → slice_get w.attempts i ≡ Some y → v ≡ changed w i z → pairs_left z.log z.check ≡ pairs_left y.log y.check → all_left v.attempts ≡ all_left w.attempts
left_same w v i y z at e same = ap (λ (u : World). all_left u.attempts) e ∙ (let h = left_set w.attempts i y z at in omega (arith, h, same))

-- an attempt with fewer
left_less : (w v : World) (i : ℕ) (y z : Started) → slice_get w.attempts i ≡ Some y → v ≡ changed w i z → pairs_left z.log z.check < pairs_left y.log y.check → all_left v.attempts < all_left w.attempts
left_less w v i y z at e less = let h = left_set w.attempts i y z at in let f = ap (λ (u : World). all_left u.attempts) e in omega (arith, h, f, less)

told_no : (r : Answer) (z : VarId) → told r ≢ seen.Checks z
told_no (Needs x) z e = absurd (cc)
told_no (Ends o ws) z e = absurd (cc)

-- an attempt that is seen to check
checks_so : (l : Listing) (y : Started) (n checked : ℕ) (o : Option (VarId × ℤ)) (z : VarId) → (checks_on l y n checked o).0 ≡ seen.Checks z → (checks_on l y n checked o).1.check ≢ None
checks_so l y n checked (Some p) z e f = absurd (cc)
checks_so l y n checked None z e f = absurd (told_no (stand l y) z e)

checks_less : (l : Listing) (y : Started) (c : Check) (o : Option (VarId × ℤ)) (z : VarId) → slice_get y.log (c.checked + 1) ≡ o → (checks_on l y c.candidate (c.checked + 1) o).0 ≡ seen.Checks z
    → pairs_left (checks_on l y c.candidate (c.checked + 1) o).1.log (checks_on l y c.candidate (c.checked + 1) o).1.check < length y.log - c.checked
checks_less l y c (Some p) z at e = let low = slice_get_within y.log (c.checked + 1) p at in omega (arith, low)
checks_less l y c None z at e = absurd (told_no (stand l y) z e)

-- .. after a read
abbrev compared : Listing → Started → Check → Bool → Seen × Started
compared l y c b = if b then checks_on l y c.candidate (c.checked + 1) (slice_get y.log (c.checked + 1)) else (seen.Changed, with_fate y fate.Stale)

compared_less : (l : Listing) (y : Started) (c : Check) (b : Bool) (z : VarId) → (compared l y c b).0 ≡ seen.Checks z → pairs_left (compared l y c b).1.log (compared l y c b).1.check < length y.log - c.checked
compared_less l y c true z e = checks_less l y c (slice_get y.log (c.checked + 1)) z refl e
compared_less l y c false z e = absurd (cc)

compared_so : (l : Listing) (y : Started) (c : Check) (b : Bool) (z : VarId) → (compared l y c b).0 ≡ seen.Checks z → (compared l y c b).1.check ≢ None
compared_so l y c true z e = checks_so l y c.candidate (c.checked + 1) (slice_get y.log (c.checked + 1)) z e
compared_so l y c false z e = absurd (cc)

reads_less : (l : Listing) (y : Started) (x : VarId) (bits : ℕ) (o : Option Check) (z : VarId) → (reads_on l y x bits o).0 ≡ seen.Checks z → pairs_left (reads_on l y x bits o).1.log (reads_on l y x bits o).1.check < pairs_left y.log o
reads_less l y x bits None z e = absurd (told_no _ z e)
reads_less l y x bits (Some c) z e = compared_less l y c (int_eq (cast_signed w64 bits) (new_of y.log c.checked)) z e

reads_so : (l : Listing) (y : Started) (x : VarId) (bits : ℕ) (o : Option Check) (z : VarId) → (reads_on l y x bits o).0 ≡ seen.Checks z → (reads_on l y x bits o).1.check ≢ None
reads_so l y x bits None z e = absurd (told_no _ z e)
reads_so l y x bits (Some c) z e = compared_so l y c (int_eq (cast_signed w64 bits) (new_of y.log c.checked)) z e

-- ---- the task's running attempt checks

-- with another attempt in the place of a running one
set_checking : (w v : World) (a : TaskId) (i : ℕ) (y z : Started) → slice_get w.attempts i ≡ Some y → v ≡ changed w i z → z.check ≢ None → IsChecking w a → IsChecking v a
set_checking w v a i y z at e so h j u run =
    let g : IsRunning (changed w i z) a j u = subst (λ (q : World). IsRunning q a j u) e run in
    elim (get_set w.attempts i j z y u at g.0) [
      | inl old ↦ h j u (old.1, g.1, g.2)
      | inr new ↦ subst (λ (q : Started). q.check ≢ None) new.1 so
    ]

pub first_checking : (l : Listing) (w v : World) (a : TaskId) (x : VarId) → Next l w (First a x) seen.Loaded v → IsChecking w a → IsChecking v a
first_checking l w v a x n h = set_checking w v a n.0 n.1 _ n.2.0.0.0 n.5 (h n.0 n.1 n.2.0.0) h

pub value_checking : (l : Listing) (w v : World) (a : TaskId) (t : Seen) → Next l w (Value a) t v → IsChecking w a → IsChecking v a
value_checking l w v a seen.Idle n h = subst (λ (q : World). IsChecking q a) (sym n.1) h
value_checking l w v a seen.Loaded n h = set_checking w v a n.0 n.2 _ n.4.0.0.0 n.5 (h n.0 n.2 n.4.0.0) h
value_checking l w v a t n h = absurd n

second_checking : (l : Listing) (w v : World) (a : TaskId) (z : VarId) → Next l w (Second a) (seen.Checks z) v → IsChecking w a → IsChecking v a
second_checking l w v a z n h = set_checking w v a n.0 n.3 _ n.5.0.0.0 n.8 (reads_so l n.3 n.4 n.2 n.3.check z (sym n.7)) h

pub again_checking : (l : Listing) (w v : World) (a : TaskId) (z : VarId) → Next l w (Again a) (seen.Checks z) v → IsChecking v a
again_checking l w v a z n j u run =
    let i = n.0 in
    let y = n.1 in
    let can = n.3 in
    let g : IsRunning (changed w i (goes_again l w y).1) a j u = subst (λ (q : World). IsRunning q a j u) n.5 run in
    elim (get_set w.attempts i j (goes_again l w y).1 y u can.1.0 g.0) [
      | inl old ↦ absurd (false≢true (sym (can.0.1 j u old.1 g.1) ∙ ap is_live g.2))
      | inr new ↦ subst (λ (q : Started). q.check ≢ None) new.1 (checks_so l (running_again y) _ 0 (slice_get y.log 0) z (sym n.4))
    ]

pub reads_checking : (l : Listing) (w v : World) (a : TaskId) (x z : VarId) → Reads l w a x (seen.Checks z) v → IsChecking w a → IsChecking v a
reads_checking l w v a x z (inl n) h = absurd n.1
reads_checking l w v a x z (inr n) h = second_checking l n.1 v a z n.5 (value_checking l n.0 n.1 a n.2 n.4 (first_checking l w n.0 a x n.3 h))

-- ---- fewer are left

first_left : (l : Listing) (w v : World) (a : TaskId) (x : VarId) → Next l w (First a x) seen.Loaded v → all_left v.attempts ≡ all_left w.attempts
first_left l w v a x n = left_same w v n.0 n.1 _ n.2.0.0.0 n.5 refl

value_left : (l : Listing) (w v : World) (a : TaskId) (t : Seen) → Next l w (Value a) t v → all_left v.attempts ≡ all_left w.attempts
value_left l w v a seen.Idle n = ap (λ (u : World). all_left u.attempts) n.1
value_left l w v a seen.Loaded n = left_same w v n.0 n.2 _ n.4.0.0.0 n.5 refl
value_left l w v a t n = absurd n

second_left : (l : Listing) (w v : World) (a : TaskId) (z : VarId) → Next l w (Second a) (seen.Checks z) v → all_left v.attempts < all_left w.attempts
second_left l w v a z n = left_less w v n.0 n.3 _ n.5.0.0.0 n.8 (reads_less l n.3 n.4 n.2 n.3.check z (sym n.7))

reads_left : (l : Listing) (w v : World) (a : TaskId) (x z : VarId) → Reads l w a x (seen.Checks z) v → all_left v.attempts < all_left w.attempts
reads_left l w v a x z (inl n) = absurd n.1
reads_left l w v a x z (inr n) = let p = first_left l w n.0 a x n.3 in let q = value_left l n.0 n.1 a n.2 n.4 in let r = second_left l n.1 v a z n.5 in omega (arith, p, q, r)

pub to_check_less : (l : Listing) (w v : World) (a : TaskId) (x : VarId) (t : Seen) → Reads l w a x t v → to_check t v < suc (all_left w.attempts)
to_check_less l w v a x (seen.Checks z) r = let less = reads_left l w v a x z r in omega (arith, less)
to_check_less l w v a x t r = omega arith

-- ---- the loop

-- whatever the checks from here on lead to, the move leads to
abbrev pub LeadsOn : Listing → World → TaskId → Seen → World → Type 0
LeadsOn l start a s w = (s' : Seen) (v : World) (k : ℕ) → ChecksCount k l w a s s' v → Moves l start a s' v

pub leads_again : (l k : Listing) (start w : World) (a : TaskId) (s : Seen) → k ≡ l → Next k start (Again a) s w → LeadsOn l start a s w
leads_again l k start w a s own n s' v j h = (w, s, j, subst (λ (q : Listing). Next q start (Again a) s w) own n, h)

pub leads_read : (l k : Listing) (start w mid : World) (a : TaskId) (x : VarId) (s t : Seen) → k ≡ l → s ≡ seen.Checks x → LeadsOn l start a s w → Reads k w a x t mid → LeadsOn l start a t mid
leads_read l k start w mid a x s t own is on r s' v j h = on s' v (suc j) (x, mid, t, is, subst (λ (q : Listing). Reads q w a x t mid) own r, h)

pub leads_end : (l : Listing) (start w : World) (a : TaskId) (s : Seen) → ((x : VarId) → s ≢ seen.Checks x) → LeadsOn l start a s w → Moves l start a s w
leads_end l start w a s other on = on s w 0 (other, refl, refl)

-- while a variable is checked, the attempt checks
abbrev pub ChecksNow : World → TaskId → Seen → Type 0
ChecksNow w a s = (x : VarId) → s ≡ seen.Checks x → IsChecking w a

pub now_again : (k : Listing) (start w : World) (a : TaskId) (s : Seen) → Next k start (Again a) s w → ChecksNow w a s
now_again k start w a s n x is = again_checking k start w a x (subst (λ (q : Seen). Next k start (Again a) q w) is n)

pub now_read : (k : Listing) (w mid : World) (a : TaskId) (x : VarId) (t : Seen) → IsChecking w a → Reads k w a x t mid → ChecksNow mid a t
now_read k w mid a x t h r z is = reads_checking k w mid a x z (subst (λ (q : Seen). Reads k w a x q mid) is r) h
