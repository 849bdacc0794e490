-- What holds after every list of events.
use Rattle.std.proofs.Common.{◌≡◌, ◌≢◌, ℕ, zero, suc, ◌+◌, ◌*◌, ◌%◌, ◌<◌, ◌≤◌, Bool, true, false, if◌then◌else◌, ◌++◌, take, option_map, List, [], ◌∷◌, length, get_or, ℤ, pos, sym, refl, ap, ◌∙◌, subst, ⊎_elim, inl, inr, arith, Option, Some, None, slice_get}
use mathlib.Core.Logic.{dite}
use native.Mathlib.Decide.{dec_lt}
use Rattle.std.specs.Int.{w64, cast_signed}
use Rattle.std.specs.Ordering.{int_eq}
use Rattle.std.proofs.lemmas.Bool.Decides.{Decides-int_eq}
use Rattle.txn_programs.specs.Listing.{Listing, task_program}
use Rattle.txn_programs.specs.Meaning.{State}
use Rattle.txn_words.specs.Words.{WordsMean, state_value, state_of, value_word}
use Rattle.txn_words.specs.Stores.{no_change, new_of, opened}
use Rattle.txn_words.specs.Loads.{LoadedIs}
use Rattle.txn_programs.specs.declared.ast.TaskId.{TaskId}
use Rattle.txn_programs.specs.declared.ast.VarId.{VarId}
use Rattle.txn_programs.specs.declared.ast.Outcome.{Outcome}
use Rattle.txn_words.proofs.Words.{fresh, opens, all_free, all_zero, opened_sized}
use Rattle.attempt.specs.Asking.{Known, Answer, Needs, Ends, ask}
use Rattle.attempt.specs.Frame.{Agrees}
use Rattle.world_law.specs.declared.events.Fate.{Fate}
use Rattle.world_law.specs.declared.events.Fate.TheVariants as fate
use Rattle.world_law.specs.declared.events.Loads.{Loads}
use Rattle.world_law.specs.declared.events.Loads.TheVariants as loads
use Rattle.world_law.specs.declared.events.Event.{Event}
use Rattle.world_law.specs.declared.events.Event.TheVariants.{Begin, First, Value, Second, Ask, Word, Drop, Again}
use Rattle.world_law.specs.declared.events.Seen.{Seen}
use Rattle.world_law.specs.declared.events.Seen.TheVariants as seen
use Rattle.world_law.specs.World.{Check, Started, World, Committer, HoldValues, IsOpening, CanBegin, IsRunning, Reading, Apart, stand, wanted_by, wanted, bound_by, bound, with_attempt, changed, version_now, value_now, with_loads, with_read, with_fate, stale_at_load, running_again, stored}
use Rattle.world_law.specs.Next.{Next, Run, Reachable, CanGoAgain, told, checks_on, reads_on, goes_again}
use Rattle.world_law.specs.Opacity.{Opaque, WordsFit}
use Rattle.world_law.proofs.Places.{agrees_more, agrees_next, agrees_all, agrees_none, same_some}
use Rattle.world_law.proofs.Framed.{IsSound}
use Rattle.world_law.proofs.Kept.{Holds, LoadedOf, CheckHolds, ReadsHold, AreAlone, bound_within, alone_changed, alone_again, opaque_from, words_from, changed_kept, attempt_kept, asked_kept}
use Rattle.world_law.proofs.Wrote.{under_way, stored_kept, finished_kept}

many : (m : State) (words : List ℕ) → HoldValues m words → length words ≡ 2 * length m
many [] [] h = refl
many [] (a ∷ words) h = absurd h
many (v ∷ m) [] h = absurd h
many (v ∷ m) (a ∷ []) h = absurd h
many (v ∷ m) (a ∷ b ∷ words) h = let e = many m words h.2 in omega arith

value_held : (m : State) (words : List ℕ) → HoldValues m words → (x : ℕ) → x < length m
    → (get_or words (2 * x) 0 ≡ 0) × (cast_signed w64 (get_or words (2 * x + 1) 0) ≡ state_value m x)
value_held [] words h x l = absurd (omega arith)
value_held (v ∷ m) [] h x l = absurd h
value_held (v ∷ m) (a ∷ []) h x l = absurd h
value_held (v ∷ m) (a ∷ b ∷ words) h zero l = (h.0, h.1.1)
value_held (v ∷ m) (a ∷ b ∷ words) h (suc x) l = let more = value_held m words h.2 x (omega arith) in
    let c : 2 * suc x ≡ suc (suc (2 * x)) = omega arith in let d : 2 * suc x + 1 ≡ suc (suc (2 * x + 1)) = omega arith in
    (ap (λ (j : ℕ). get_or (a ∷ b ∷ words) j 0) c ∙ more.0, ap (λ (j : ℕ). cast_signed w64 (get_or (a ∷ b ∷ words) j 0)) d ∙ more.1)

only : (m : State) (n : ℕ) → n < length (m ∷ []) → n ≡ 0
only m zero l = refl
only m (suc n) l = absurd (omega arith)

opening_words : (m : State) (rest : List ℕ) → HoldValues m rest → WordsMean (0 ∷ rest) (opened m)
opening_words m rest held = opens m (0 ∷ rest) (let e = many m rest held in omega arith) refl (λ x l. let h = value_held m rest held x l in (
  ap (λ (j : ℕ). get_or (0 ∷ rest) j 0) (let e : 2 * x + 1 ≡ suc (2 * x) = omega arith in e) ∙ h.0,
  ap (λ (j : ℕ). cast_signed w64 (get_or (0 ∷ rest) j 0)) (let e : 2 * x + 2 ≡ suc (2 * x + 1) = omega arith in e) ∙ h.1,
))

none_at : (i : ℕ) (y : Started) → slice_get [] i ≡ Some y → ⊥
none_at i y e = cc

opening_holds : (k : Listing) (w : World) → IsOpening k w → Holds k w
opening_holds k w o = subst (Holds k) (sym same) record {
  commit = opened k.initial;
  history = refl;
  words = opening_words k.initial rest o.words.2;
  under = (
    0,
    record {
      counted = refl;
      past = λ x. let e = all_zero k.initial x in omega arith;
      free = all_free k.initial;
      in_order = refl;
      settled = (refl, refl);
      sized = opened_sized k.initial;
    },
  );
  states = λ n l. ap (λ (j : ℕ). length (state_of (k.initial ∷ []) j)) (only k.initial n l);
  begins = refl;
  reads = λ i y e. absurd (none_at i y e);
  loads = λ i y e. absurd (none_at i y e);
  alone = λ i j y z e. absurd (none_at i y e);
  numbered = λ i n y m. absurd (none_at i y m.0);
  made = λ n low high. absurd (omega (arith, only k.initial n high));
}
  where
    rest : List ℕ
    rest = o.words.0

    same : w ≡ record { words = 0 ∷ rest; history = k.initial ∷ []; attempts = []; committer = None }
    same = λ j. record { words = o.words.1 j; history = o.history j; attempts = o.attempts j; committer = o.committer j }

past_end : {A : Type 0} (l : List A) (i : ℕ) (d : A) → length l ≤ i → get_or l i d ≡ d
past_end [] i d h = refl
past_end (x ∷ l) zero d h = absurd (omega arith)
past_end (x ∷ l) (suc i) d h = past_end l i d (omega arith)

-- an even version word no later than the state rv: the value word is that of the state rv
fresh_now : (k : Listing) (w : World) (h : Holds k w) (x : VarId) (rv : ℕ) → rv < length w.history → version_now w x % 2 ≡ 0 → version_now w x ≤ 2 * rv → cast_signed w64 (value_now w x) ≡ state_value (state_of w.history rv) x.0
fresh_now k w h x rv low even early = let same = ap (λ (l : List State). length l) h.history in dite (dec_lt x.0 (length h.commit.values))
    (λ inside. fresh w.words h.commit x.0 rv h.words inside (omega arith) even early ∙ ap (λ (l : List State). state_value (state_of l rv) x.0) h.history)
    (λ outside. let wide = h.words.wide in
    let size = h.words.states rv (omega arith) in
    let long : length (state_of w.history rv) ≤ x.0 = subst (λ (l : List State). length (state_of l rv) ≤ x.0) h.history (omega arith) in
    ap (cast_signed w64) (past_end w.words (value_word x.0) 0 (omega arith)) ∙ sym (past_end (state_of w.history rv) x.0 (pos 0) long))

never_both : (x : VarId) (o : Outcome) (ws : Known) → Needs x ≢ Ends o ws
never_both x o ws e = absurd (cc)

same_wanted : (k : Listing) (y : Started) (x z : VarId) → wanted k y ≡ Some x → wanted k y ≡ Some z → x ≡ z
same_wanted k y x z e e' = same_some x z (sym e ∙ e')

-- an attempt that reads needs a variable
needs_one : (r : Answer) (log : Known) (o : Option Check) (x : VarId) → wanted_by r log o ≡ Some x → (z : VarId) × (r ≡ Needs z)
needs_one (Needs z) log o x e = (z, refl)
needs_one (Ends p ws) log o x e = absurd (cc)

-- .. and is not the committer
reads_apart : (k : Listing) (w : World) (i : ℕ) (y : Started) (x : VarId) → Holds k w → slice_get w.attempts i ≡ Some y → wanted k y ≡ Some x → Apart w.committer i
reads_apart k w i y x h at wants c is here =
    let p = under_way k w c h is in
    let mine : p.owner ≡ y = same_some p.owner y (sym p.was ∙ (ap (slice_get w.attempts) here ∙ at)) in
    let ended = p.explained.ended in
    let needs = needs_one (stand k y) y.log y.check x wants in
    never_both needs.0 _ ended.0 (sym needs.1 ∙ (ap (stand k) (sym mine) ∙ ended.1))

-- a stale attempt is not the committer either
stale_apart : (k : Listing) (w : World) (i : ℕ) (y : Started) → Holds k w → slice_get w.attempts i ≡ Some y → y.fate ≡ fate.Stale → Apart w.committer i
stale_apart k w i y h at stale c is here =
    let p = under_way k w c h is in
    let mine : p.owner ≡ y = same_some p.owner y (sym p.was ∙ (ap (slice_get w.attempts) here ∙ at)) in
    let both : fate.Running ≡ fate.Stale = sym p.running ∙ (ap (λ (u : Started). u.fate) mine ∙ stale) in cc

none_apart : (o : Option Committer) (i : ℕ) → o ≡ None → Apart o i
none_apart o i none c is = absurd (let e : None ≡ Some c = sym none ∙ is in cc)

loads_of : (k : Listing) (w : World) (a : TaskId) (i : ℕ) (y : Started) (x : VarId) (ls : Loads) → Holds k w → Reading k w a i y x ls → LoadedOf w (bound y) x ls
loads_of k w a i y x ls h r = subst (LoadedOf w (bound y) x) r.1 (h.loads i y r.0.0.0 x r.0.1)

standing_of : (w : World) (a : TaskId) (i : ℕ) (y : Started) → IsRunning w a i y → (n : ℕ) → y.fate ≢ fate.Committed n
standing_of w a i y run n e = let f : fate.Running ≡ fate.Committed n = sym run.2 ∙ e in absurd (cc)

-- a running attempt, which is not the committer, becomes z
goes_to : (k : Listing) (w : World) (a : TaskId) (i : ℕ) (y z : Started) → Holds k w → IsRunning w a i y → Apart w.committer i → z.task ≡ y.task → ReadsHold w.history z → ((x : VarId) → wanted k z ≡ Some x → LoadedOf w (bound z) x z.loads) → ((n : ℕ) → z.fate ≢ fate.Committed n)
    → Holds k (changed w i z)
goes_to k w a i y z h run apart task reads held never =
    changed_kept k w i y z h record { was = run.0; standing = standing_of w a i y run; alone = alone_changed k w i y z h run.0 run.2 task; reads = reads; loads = held; apart = apart } never

fate_kept : (k : Listing) (w : World) (a : TaskId) (i : ℕ) (y : Started) (f : Fate) → Holds k w → IsRunning w a i y → Apart w.committer i → ((n : ℕ) → f ≢ fate.Committed n) → Holds k (changed w i (with_fate y f))
fate_kept k w a i y f h run apart never = goes_to k w a i y (with_fate y f) h run apart refl (h.reads i y run.0) (h.loads i y run.0) never

-- a load that finds the read stale
stale_kept : (k : Listing) (w : World) (a : TaskId) (i : ℕ) (y : Started) (x : VarId) (ls : Loads) → Holds k w → Reading k w a i y x ls → Holds k (changed w i (stale_at_load y))
stale_kept k w a i y x ls h r =
    goes_to k w a i y (stale_at_load y) h r.0.0 (reads_apart k w i y x h r.0.0.0 r.0.1) refl (h.reads i y r.0.0.0) (h.loads i y r.0.0.0) (λ n e. absurd (cc))

-- the loads of a read that goes on
loads_kept : (k : Listing) (w : World) (a : TaskId) (i : ℕ) (y : Started) (x : VarId) (old new : Loads) → Holds k w → Reading k w a i y x old → LoadedOf w (bound y) x new → Holds k (changed w i (with_loads y new))
loads_kept k w a i y x old new h r holds =
    goes_to k w a i y (with_loads y new) h r.0.0 (reads_apart k w i y x h r.0.0.0 r.0.1) refl (h.reads i y r.0.0.0)
    (λ z wants. subst (λ (v : VarId). LoadedOf w (bound y) v new) (same_wanted k y x z r.0.1 wants) holds) (standing_of w a i y r.0.0)

-- what a read that ends well has found
read_is : (w : World) (rv first bits : ℕ) (x : VarId) → LoadedOf w rv x (loads.Value first bits) → version_now w x ≡ first → state_value (state_of w.history rv) x.0 ≡ cast_signed w64 bits
read_is w rv first bits x s same =
    let z : ℤ = state_value (state_of w.history rv) x.0 in
    ⊎_elim (λ (t : first < version_now w x). absurd (omega arith))
    (λ (t : (cast_signed w64 (value_now w x) ≡ z) × (cast_signed w64 bits ≡ z)). sym t.1) (s.0.2 s.1.0 s.1.1)

-- a read that ends well, and is no check
read_kept : (k : Listing) (w : World) (a : TaskId) (i first bits : ℕ) (y : Started) (x : VarId) (f : Fate) → Holds k w → Reading k w a i y x (loads.Value first bits) → version_now w x ≡ first → y.check ≡ None → ((n : ℕ) → f ≢ fate.Committed n)
    → Holds k (changed w i (with_fate (with_read y x bits) f))
read_kept k w a i first bits y x f h r same plain never =
    let own : bound y ≡ y.rv = ap (λ (o : Option Check). bound_by y.rv o) plain in
    let s = subst (λ (n : ℕ). LoadedOf w n x (loads.Value first bits)) own (loads_of k w a i y x (loads.Value first bits) h r) in
    let reads = h.reads i y r.0.0.0 in
    let log : Known = y.log ++ (x, cast_signed w64 bits) ∷ [] in
    goes_to k w a i y (with_fate (with_read y x bits) f) h r.0.0 (reads_apart k w i y x h r.0.0.0 r.0.1) refl
    (reads.0, agrees_more y.log (state_of w.history y.rv) x (cast_signed w64 bits) reads.1 (read_is w y.rv first bits x s same), subst (CheckHolds w.history log) (sym plain) tt)
    (λ v wants. (tt, tt)) never

-- an attempt that has found the first pairs to be so in a state of the history goes on
checked_reads : (k : Listing) (w : World) (y : Started) (n checked : ℕ) (o : Option (VarId × ℤ)) → slice_get y.log checked ≡ o → ReadsHold w.history y → n < length w.history → Agrees (take checked y.log) (state_of w.history n) → ReadsHold w.history (checks_on k y n checked o).1
checked_reads k w y n checked (Some p) e reads low agrees = (reads.0, reads.1, record { within = low; agrees = agrees })
checked_reads k w y n checked None e reads low agrees = (low, agrees_all y.log checked (state_of w.history n) e agrees, tt)

checked_task : (k : Listing) (y : Started) (n checked : ℕ) (o : Option (VarId × ℤ)) → (checks_on k y n checked o).1.task ≡ y.task
checked_task k y n checked (Some p) = refl
checked_task k y n checked None = refl

checked_fate : (k : Listing) (y : Started) (n checked : ℕ) (o : Option (VarId × ℤ)) → (checks_on k y n checked o).1.fate ≡ y.fate
checked_fate k y n checked (Some p) = refl
checked_fate k y n checked None = refl

checked_loads : (k : Listing) (w : World) (y : Started) (n checked : ℕ) (o : Option (VarId × ℤ)) (x : VarId) → LoadedOf w (bound (checks_on k y n checked o).1) x (checks_on k y n checked o).1.loads
checked_loads k w y n checked (Some p) x = (tt, tt)
checked_loads k w y n checked None x = (tt, tt)

-- the pair that an attempt checks is of the variable that it reads
wanted_pair : (r : Answer) (log : Known) (c : Check) (x : VarId) (d : VarId × ℤ) → wanted_by r log (Some c) ≡ Some x → slice_get log c.checked ≡ Some (x, (get_or log c.checked d).1)
wanted_pair (Needs z) log c x d e = pair_at log c.checked x d e
  where
    pair_at : (l : Known) (i : ℕ) (x : VarId) (d : VarId × ℤ) → option_map (λ (p : VarId × ℤ). p.0) (slice_get l i) ≡ Some x → slice_get l i ≡ Some (x, (get_or l i d).1)
    pair_at [] i x d e = absurd (cc)
    pair_at (p ∷ l) zero x d e = let same : p.0 ≡ x = cc in ap (λ (z : VarId). let q : VarId × ℤ = (z, p.1) in Some q) same
    pair_at (p ∷ l) (suc i) x d e = pair_at l i x d e
wanted_pair (Ends o ws) log c x d e = absurd (cc)

-- a read that ends well in a check
compared_kept : (k : Listing) (w : World) (a : TaskId) (i first bits : ℕ) (y : Started) (x : VarId) (c : Check) (b : Bool) → int_eq (cast_signed w64 bits) (new_of y.log c.checked) ≡ b → Holds k w → Reading k w a i y x (loads.Value first bits) → version_now w x ≡ first → y.check ≡ Some c
    → Holds k (changed w i (if b then checks_on k y c.candidate (c.checked + 1) (slice_get y.log (c.checked + 1)) else (seen.Changed, with_fate y fate.Stale)).1)
compared_kept k w a i first bits y x c true e h r same is =
    let o : Option (VarId × ℤ) = slice_get y.log (c.checked + 1) in
    let apart = reads_apart k w i y x h r.0.0.0 r.0.1 in
    let reads = h.reads i y r.0.0.0 in
    let so_far : CheckHolds w.history y.log (Some c) = subst (CheckHolds w.history y.log) is reads.2 in
    let own : bound y ≡ c.candidate = ap (λ (q : Option Check). bound_by y.rv q) is in
    let s = subst (λ (n : ℕ). LoadedOf w n x (loads.Value first bits)) own (loads_of k w a i y x (loads.Value first bits) h r) in
    let pair = wanted_pair (stand k y) y.log c x no_change (ap (wanted_by (stand k y) y.log) (sym is) ∙ r.0.1) in
    let value = read_is w c.candidate first bits x s same ∙ (Decides-int_eq (cast_signed w64 bits) (new_of y.log c.checked)).0 e in
    goes_to k w a i y (checks_on k y c.candidate (c.checked + 1) o).1 h r.0.0 apart (checked_task k y c.candidate (c.checked + 1) o)
    (checked_reads k w y c.candidate (c.checked + 1) o refl reads so_far.within (agrees_next y.log c.checked (state_of w.history c.candidate) x (new_of y.log c.checked) pair so_far.agrees value))
    (λ z wants. checked_loads k w y c.candidate (c.checked + 1) o z) (λ n f. standing_of w a i y r.0.0 n (sym (checked_fate k y c.candidate (c.checked + 1) o) ∙ f))
compared_kept k w a i first bits y x c false e h r same is = fate_kept k w a i y fate.Stale h r.0.0 (reads_apart k w i y x h r.0.0.0 r.0.1) (λ n f. absurd (cc))

second_kept : (k : Listing) (w : World) (a : TaskId) (i first bits : ℕ) (y : Started) (x : VarId) (o : Option Check) → Holds k w → Reading k w a i y x (loads.Value first bits) → version_now w x ≡ first → y.check ≡ o → Holds k (changed w i (reads_on k y x bits o).1)
second_kept k w a i first bits y x None h r same is = read_kept k w a i first bits y x y.fate h r same is (standing_of w a i y r.0.0)
second_kept k w a i first bits y x (Some c) h r same is = compared_kept k w a i first bits y x c (int_eq (cast_signed w64 bits) (new_of y.log c.checked)) refl h r same is

second_on : (k : Listing) (w w' : World) (a : TaskId) (s : Seen) → Holds k w
    → (i first bits : ℕ) × (y : Started) × (x : VarId) × Reading k w a i y x (loads.Value first bits) × (version_now w x ≡ first) × (s ≡ (reads_on k y x bits y.check).0) × (w' ≡ changed w i (reads_on k y x bits y.check).1) → Holds k w'
second_on k w w' a s h n = subst (Holds k) (sym n.8) (second_kept k w a n.0 n.1 n.2 n.3 n.4 n.3.check h n.5 n.6 refl)

-- an attempt that runs again
again_on : (k : Listing) (w w' : World) (a : TaskId) (s : Seen) → Holds k w
    → (i : ℕ) × (y : Started) × (x : VarId) × CanGoAgain k w a i y x × (s ≡ (goes_again k w y).0) × (w' ≡ changed w i (goes_again k w y).1) → Holds k w'
again_on k w w' a s h n =
    let i = n.0 in
    let y = n.1 in
    let can = n.3 in
    let at = can.1.0 in
    let z = running_again y in
    let clock : ℕ = get_or w.words 0 0 in
    let o : Option (VarId × ℤ) = slice_get y.log 0 in
    let reads = h.reads i y at in
    let low : clock < length w.history = let tick = h.words.clock in let same = ap (λ (l : List State). length l) h.history in omega arith in
    subst (Holds k) (sym n.5) (changed_kept k w i y (checks_on k z clock 0 o).1 h record {
      was = at;
      standing = λ m e. let f : fate.Stale ≡ fate.Committed m = sym can.2 ∙ e in absurd (cc);
      alone = alone_again k w a i y (checks_on k z clock 0 o).1 h at can.0 (checked_task k z clock 0 o ∙ can.1.1);
      reads = checked_reads k w z clock 0 o refl reads low (agrees_none y.log (state_of w.history clock));
      loads = λ v wants. checked_loads k w z clock 0 o v;
      apart = stale_apart k w i y h at can.2;
    } (λ m e. let f : fate.Running ≡ fate.Committed m = sym (checked_fate k z clock 0 o) ∙ e in absurd (cc)))

begins_on : (k : Listing) (w w' : World) (a : TaskId) (s : Seen) → Holds k w → CanBegin k w a × (s ≡ told (ask (task_program k a) [])) × (w' ≡ with_attempt w a fate.Running) → Holds k w'
begins_on k w w' a s h n = subst (Holds k) (sym n.2) (attempt_kept k w a fate.Running h n.0 (λ j e. absurd (cc)))

-- each event keeps what holds
pub next_holds : (k : Listing) (w w' : World) (e : Event) (s : Seen) → IsSound k → Holds k w → Next k w e s w' → Holds k w'
next_holds k w w' (Begin a) seen.Idle sound h n = subst (Holds k) (sym n.1) h
next_holds k w w' (Begin a) seen.Spent sound h n = subst (Holds k) (sym n.1) (attempt_kept k w a fate.Spent h n.0 (λ j e. absurd (cc)))
next_holds k w w' (Begin a) s sound h n = begins_on k w w' a s h n
next_holds k w w' (First a x) seen.Idle sound h n = subst (Holds k) (sym n.1) h
next_holds k w w' (First a x) seen.Stale sound h n = subst (Holds k) (sym n.4) (stale_kept k w a n.0 n.1 x loads.Nothing h n.2)
next_holds k w w' (First a x) seen.Loaded sound h n = subst (Holds k) (sym n.5) (loads_kept k w a n.0 n.1 x loads.Nothing (loads.Version (version_now w x)) h n.2
    ((omega arith, omega arith, λ even low. inr (fresh_now k w h x (bound n.1) (let r = h.reads n.0 n.1 n.2.0.0.0 in bound_within w.history n.1.log n.1.rv n.1.check r.0 r.2) even low, tt)), (n.3, n.4)))
next_holds k w w' (First a x) s sound h n = absurd n
next_holds k w w' (Value a) seen.Idle sound h n = subst (Holds k) (sym n.1) h
next_holds k w w' (Value a) seen.Loaded sound h n = subst (Holds k) (sym n.5) (let s = loads_of k w a n.0 n.2 n.3 (loads.Version n.1) h n.4 in let z : ℤ = state_value (state_of w.history (bound n.2)) n.3.0 in
    loads_kept k w a n.0 n.2 n.3 (loads.Version n.1) (loads.Value n.1 (value_now w n.3)) h n.4
    ((s.0.0, omega arith, λ even low. ⊎_elim (λ (t : n.1 < version_now w n.3). inl t) (λ (t : (cast_signed w64 (value_now w n.3) ≡ z) × LoadedIs z []). inr (t.0, t.0)) (s.0.2 even low)), s.1))
next_holds k w w' (Value a) s sound h n = absurd n
next_holds k w w' (Second a) seen.Idle sound h n = subst (Holds k) (sym n.1) h
next_holds k w w' (Second a) seen.Stale sound h n = subst (Holds k) (sym n.7) (stale_kept k w a n.0 n.3 n.4 (loads.Value n.1 n.2) h n.5)
next_holds k w w' (Second a) seen.Spent sound h n = subst (Holds k) (sym n.8) (read_kept k w a n.0 n.1 n.2 n.3 n.4 fate.Spent h n.5 n.6 n.7 (λ j e. absurd (cc)))
next_holds k w w' (Second a) s sound h n = second_on k w w' a s h n
next_holds k w w' (Ask a) seen.Idle sound h n = subst (Holds k) (sym n.1) h
next_holds k w w' (Ask a) seen.Stale sound h n = subst (Holds k) (sym n.6) (fate_kept k w a n.0 n.1 fate.Stale h n.4.0.0 (none_apart w.committer n.0 n.4.1) (λ j e. absurd (cc)))
next_holds k w w' (Ask a) seen.Parked sound h n = subst (Holds k) (sym n.5) (fate_kept k w a n.0 n.1 fate.Parked h n.3.0.0 (none_apart w.committer n.0 n.3.1) (λ j e. absurd (cc)))
next_holds k w w' (Ask a) (seen.Commits c) sound h n = subst (Holds k) (sym n.8) (asked_kept k w a n.0 n.1 n.2 n.3 sound h n.4.0 n.4.1 n.5 n.6)
next_holds k w w' (Ask a) s sound h n = absurd n
next_holds k w w' Word seen.Idle sound h n = subst (Holds k) (sym n.1) h
next_holds k w w' Word seen.Stored sound h n = subst (Holds k) (sym n.5) (stored_kept k w n.0 n.1 n.2 h n.3)
next_holds k w w' Word (seen.Committed c) sound h n =
    subst (Holds k) (sym n.8) (finished_kept k (stored w n.0 n.1 n.2) (record n.0 { stored = n.0.stored + 1 }) n.3 (stored_kept k w n.0 n.1 n.2 h n.4) refl n.5 n.7)
next_holds k w w' Word s sound h n = absurd n
next_holds k w w' (Drop a) seen.Idle sound h n = subst (Holds k) (sym n.1) h
next_holds k w w' (Drop a) seen.Dropped sound h n = subst (Holds k) (sym n.3) (fate_kept k w a n.0 n.1 fate.Dropped h n.2.0 n.2.1 (λ j e. absurd (cc)))
next_holds k w w' (Drop a) s sound h n = absurd n
next_holds k w w' (Again a) seen.Idle sound h n = subst (Holds k) (sym n.1) h
next_holds k w w' (Again a) s sound h n = again_on k w w' a s h n

run_on : (k : Listing) → IsSound k → (events : List Event) (answers : List Seen) (w w' : World) → Holds k w → Run k w events answers w' → Holds k w'
run_on k sound [] [] w w' h r = subst (Holds k) (sym r) h
run_on k sound (e ∷ es) (s ∷ ss) w w' h r = run_on k sound es ss r.0 w' (next_holds k w r.0 e s sound h r.1) r.2
run_on k sound [] (s ∷ ss) w w' h r = absurd r
run_on k sound (e ∷ es) [] w w' h r = absurd r

-- a world that events lead to
pub reached_holds : (k : Listing) → IsSound k → (w : World) → Reachable k w → Holds k w
reached_holds k sound w r = run_on k sound r.2 r.3 r.0 w (opening_holds k r.0 r.1) r.4

pub reached_opaque : (k : Listing) → IsSound k → (w : World) → Reachable k w → Opaque k w
reached_opaque k sound w r = opaque_from k w sound (reached_holds k sound w r)

pub reached_words : (k : Listing) → IsSound k → (w : World) → Reachable k w → WordsFit k w
reached_words k sound w r = words_from k w (reached_holds k sound w r)
