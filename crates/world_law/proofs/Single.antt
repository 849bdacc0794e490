-- Two answers of one event are equal, and so are the worlds after them.
use Rattle.std.proofs.Common.{◌≡◌, ◌≢◌, ◌⊎◌, ℕ, ◌+◌, ◌*◌, ◌%◌, ◌<◌, ◌≤◌, List, [], ◌∷◌, length, sym, refl, ap, ◌∙◌, subst, inl, inr, arith, Option, Some, None, slice_get, get_or, set, ℤ, true}
use Rattle.std.specs.Int.{w64, cast_unsigned}
use Rattle.std.proofs.lemmas.Int.{of_z-to_z}
use Rattle.txn_programs.specs.Listing.{Listing, task_program}
use Rattle.txn_words.specs.Words.{last_state, value_word}
use Rattle.txn_programs.specs.declared.ast.TaskId.{TaskId}
use Rattle.txn_programs.specs.declared.ast.VarId.{VarId}
use Rattle.txn_programs.specs.declared.ast.Outcome.{Outcome}
use Rattle.txn_programs.specs.declared.ast.Outcome.TheVariants.{Retries}
use Rattle.attempt.specs.Asking.{Known, Answer, Needs, Ends, ask}
use Rattle.attempt.specs.Frame.{Agrees}
use Rattle.world_law.specs.declared.events.Fate.TheVariants as fate
use Rattle.world_law.specs.declared.events.Event.TheVariants.{Begin, First, Value, Second, Ask, Word, Drop, Again}
use Rattle.world_law.specs.declared.events.Seen.{Seen}
use Rattle.world_law.specs.declared.events.Seen.TheVariants as seen
use Rattle.world_law.specs.declared.events.Loads.{Loads}
use Rattle.world_law.specs.declared.events.Loads.TheVariants as loads
use Rattle.world_law.specs.declared.events.Store.{Store}
use Rattle.world_law.specs.declared.events.Store.TheVariants.{Lock, Put, Tick, Free}
use Rattle.world_law.specs.World.{Check, Started, World, Committer, AreBits, is_live, CanBegin, IsRunning, IsLatest, Reading, stand, wanted, bound, with_attempt, changed, version_now, value_now, with_loads, with_read, with_fate, stale_at_load, running_again, committing, stores, Writes, stored, finished}
use Rattle.world_law.specs.Next.{Next, told, checks_on, reads_on, goes_again, CanGoAgain, CanAsk, CanDrop, IsNextStore}
use Rattle.world_law.specs.Determined.{HasOneAnswer, HasOneRefusal}
use Rattle.world_law.proofs.Places.{same_some}
use Rattle.world_law.proofs.Kept.{Holds}

abbrev Same : Seen → World → Seen → World → Type 0
Same s v s' v' = (s ≡ s') × (v ≡ v')

-- the event is not possible, or P tells how it is, and R what comes of it
abbrev Comes : (P : Type 0) → (P → Seen → World → Type 0) → World → Seen → World → Type 0
Comes P R w s v = ((P → ⊥) × (s ≡ seen.Idle) × (v ≡ w)) ⊎ ((p : P) × R p s v)

comes_once : (P : Type 0) (R : P → Seen → World → Type 0) (w : World) (s s' : Seen) (v v' : World) → ((p q : P) → R p s v → R q s' v' → Same s v s' v') → Comes P R w s v → Comes P R w s' v' → Same s v s' v'
comes_once P R w s s' v v' one (inl n) (inl m) = (n.1 ∙ sym m.1, n.2 ∙ sym m.2)
comes_once P R w s s' v v' one (inl n) (inr m) = absurd (n.0 m.0)
comes_once P R w s s' v v' one (inr n) (inl m) = absurd (m.0 n.0)
comes_once P R w s s' v v' one (inr n) (inr m) = one n.0 m.0 n.1 m.1

live_of : (w : World) (a : TaskId) (i : ℕ) (y : Started) → IsRunning w a i y → is_live y.fate ≡ true
live_of w a i y run = ap is_live run.2

-- a task has one running attempt
one_running : (l : Listing) (w : World) (a : TaskId) (i j : ℕ) (y z : Started) → Holds l w → IsRunning w a i y → IsRunning w a j z → (i ≡ j) × (y ≡ z)
one_running l w a i j y z h run run' =
    let same = h.alone i j y z run.0 run'.0 (run.1 ∙ sym run'.1) (live_of w a i y run) (live_of w a j z run') in
    (same, same_some y z (sym run.0 ∙ (ap (slice_get w.attempts) same ∙ run'.0)))

one_answer : (l : Listing) (y z : Started) (r r' : Answer) → y ≡ z → stand l y ≡ r → stand l z ≡ r' → r ≡ r'
one_answer l y z r r' same is is' = sym is ∙ (ap (stand l) same ∙ is')

-- an attempt reads one variable
one_wanted : (l : Listing) (y z : Started) (x u : VarId) → y ≡ z → wanted l y ≡ Some x → wanted l z ≡ Some u → x ≡ u
one_wanted l y z x u same is is' = same_some x u (sym is ∙ (ap (wanted l) same ∙ is'))

same_outcome : (o o' : Outcome) (ws ws' : Known) → Ends o ws ≡ Ends o' ws' → o ≡ o'
same_outcome o o' ws ws' e = cc

same_writes : (o o' : Outcome) (ws ws' : Known) → Ends o ws ≡ Ends o' ws' → ws ≡ ws'
same_writes o o' ws ws' e = cc

same_version : (a b : ℕ) → loads.Version a ≡ loads.Version b → a ≡ b
same_version a b e = cc

same_first : (a b c d : ℕ) → loads.Value a c ≡ loads.Value b d → a ≡ b
same_first a b c d e = cc

same_bits : (a b c d : ℕ) → loads.Value a c ≡ loads.Value b d → c ≡ d
same_bits a b c d e = cc

told_not : (r : Answer) → told r ≢ seen.Spent
told_not (Needs x) e = absurd (cc)
told_not (Ends o ws) e = absurd (cc)

-- First

abbrev FirstAt : Listing → World → TaskId → VarId → Type 0
FirstAt l w a x = (i : ℕ) × (y : Started) × Reading l w a i y x loads.Nothing

abbrev FirstTo : (l : Listing) (w : World) (a : TaskId) (x : VarId) → FirstAt l w a x → Seen → World → Type 0
FirstTo l w a x p s v =
    (((version_now w x % 2 ≡ 1) ⊎ (2 * bound p.1 < version_now w x)) × (s ≡ seen.Stale) × (v ≡ changed w p.0 (stale_at_load p.1)))
    ⊎ ((version_now w x % 2 ≡ 0) × (version_now w x ≤ 2 * bound p.1) × (s ≡ seen.Loaded) × (v ≡ changed w p.0 (with_loads p.1 (loads.Version (version_now w x)))))

first_comes : (l : Listing) (w : World) (a : TaskId) (x : VarId) (s : Seen) (v : World) → Next l w (First a x) s v → Comes (FirstAt l w a x) (FirstTo l w a x) w s v
first_comes l w a x seen.Idle v n = inl (λ p. n.0 p.0 p.1 p.2, refl, n.1)
first_comes l w a x seen.Stale v n = inr ((n.0, n.1, n.2), inl (n.3, refl, n.4))
first_comes l w a x seen.Loaded v n = inr ((n.0, n.1, n.2), inr (n.3, n.4, refl, n.5))
first_comes l w a x s v n = absurd n

first_apart : {A : Type 0} (version rv rv' : ℕ) → rv ≡ rv' → (version % 2 ≡ 1) ⊎ (2 * rv < version) → version % 2 ≡ 0 → version ≤ 2 * rv' → A
first_apart version rv rv' e (inl odd) even low = absurd (omega arith)
first_apart version rv rv' e (inr late) even low = absurd (omega arith)

first_once : (l : Listing) (w : World) (a : TaskId) (x : VarId) (s s' : Seen) (v v' : World) → Holds l w → (p q : FirstAt l w a x) → FirstTo l w a x p s v → FirstTo l w a x q s' v' → Same s v s' v'
first_once l w a x s s' v v' h p q (inl n) (inl m) = let e = one_running l w a p.0 q.0 p.1 q.1 h p.2.0.0 q.2.0.0 in
    (n.1 ∙ sym m.1, n.2 ∙ ((λ t. changed w (e.0 t) (stale_at_load (e.1 t))) ∙ sym m.2))
first_once l w a x s s' v v' h p q (inl n) (inr m) = let e = one_running l w a p.0 q.0 p.1 q.1 h p.2.0.0 q.2.0.0 in
    first_apart (version_now w x) (bound p.1) (bound q.1) (ap bound e.1) n.0 m.0 m.1
first_once l w a x s s' v v' h p q (inr n) (inl m) = let e = one_running l w a q.0 p.0 q.1 p.1 h q.2.0.0 p.2.0.0 in
    first_apart (version_now w x) (bound q.1) (bound p.1) (ap bound e.1) m.0 n.0 n.1
first_once l w a x s s' v v' h p q (inr n) (inr m) = let e = one_running l w a p.0 q.0 p.1 q.1 h p.2.0.0 q.2.0.0 in
    (n.2 ∙ sym m.2, n.3 ∙ ((λ t. changed w (e.0 t) (with_loads (e.1 t) (loads.Version (version_now w x)))) ∙ sym m.3))

-- Value

abbrev ValueAt : Listing → World → TaskId → Type 0
ValueAt l w a = (i first : ℕ) × (y : Started) × (x : VarId) × Reading l w a i y x (loads.Version first)

abbrev ValueTo : (l : Listing) (w : World) (a : TaskId) → ValueAt l w a → Seen → World → Type 0
ValueTo l w a p s v = (s ≡ seen.Loaded) × (v ≡ changed w p.0 (with_loads p.2 (loads.Value p.1 (value_now w p.3))))

value_comes : (l : Listing) (w : World) (a : TaskId) (s : Seen) (v : World) → Next l w (Value a) s v → Comes (ValueAt l w a) (ValueTo l w a) w s v
value_comes l w a seen.Idle v n = inl (λ p. n.0 p.0 p.1 p.2 p.3 p.4, refl, n.1)
value_comes l w a seen.Loaded v n = inr ((n.0, n.1, n.2, n.3, n.4), (refl, n.5))
value_comes l w a s v n = absurd n

value_once : (l : Listing) (w : World) (a : TaskId) (s s' : Seen) (v v' : World) → Holds l w → (p q : ValueAt l w a) → ValueTo l w a p s v → ValueTo l w a q s' v' → Same s v s' v'
value_once l w a s s' v v' h p q n m =
    let e = one_running l w a p.0 q.0 p.2 q.2 h p.4.0.0 q.4.0.0 in
    let x = one_wanted l p.2 q.2 p.3 q.3 e.1 p.4.0.1 q.4.0.1 in
    let f = same_version p.1 q.1 (sym p.4.1 ∙ (ap (λ (y : Started). y.loads) e.1 ∙ q.4.1)) in
    (n.0 ∙ sym m.0, n.1 ∙ ((λ t. changed w (e.0 t) (with_loads (e.1 t) (loads.Value (f t) (value_now w (x t))))) ∙ sym m.1))

-- Second

abbrev SecondAt : Listing → World → TaskId → Type 0
SecondAt l w a = (i first bits : ℕ) × (y : Started) × (x : VarId) × Reading l w a i y x (loads.Value first bits)

abbrev SecondTo : (l : Listing) (w : World) (a : TaskId) → SecondAt l w a → Seen → World → Type 0
SecondTo l w a p s v =
    ((version_now w p.4 ≢ p.1) × (s ≡ seen.Stale) × (v ≡ changed w p.0 (stale_at_load p.3)))
    ⊎ ((version_now w p.4 ≡ p.1) × (s ≡ (reads_on l p.3 p.4 p.2 p.3.check).0) × (v ≡ changed w p.0 (reads_on l p.3 p.4 p.2 p.3.check).1))

second_comes : (l : Listing) (w : World) (a : TaskId) (s : Seen) (v : World) → Next l w (Second a) s v → s ≢ seen.Spent → Comes (SecondAt l w a) (SecondTo l w a) w s v
second_comes l w a seen.Idle v n room = inl (λ p. n.0 p.0 p.1 p.2 p.3 p.4 p.5, refl, n.1)
second_comes l w a seen.Stale v n room = inr ((n.0, n.1, n.2, n.3, n.4, n.5), inl (n.6, refl, n.7))
second_comes l w a seen.Spent v n room = absurd (room refl)
second_comes l w a s v n room = inr ((n.0, n.1, n.2, n.3, n.4, n.5), inr (n.6, n.7, n.8))

-- both reads are of the same attempt, variable and loads
pub record OneRead (p0 p1 p2 q0 q1 q2 : ℕ) (y z : Started) (x u : VarId) : Type 0 where
  pub place : p0 ≡ q0
  pub first : p1 ≡ q1
  pub bits : p2 ≡ q2
  pub attempt : y ≡ z
  pub variable : x ≡ u

one_read : (l : Listing) (w : World) (a : TaskId) → Holds l w → (p q : SecondAt l w a) → OneRead p.0 p.1 p.2 q.0 q.1 q.2 p.3 q.3 p.4 q.4
one_read l w a h p q =
    let e = one_running l w a p.0 q.0 p.3 q.3 h p.5.0.0 q.5.0.0 in
    let same = sym p.5.1 ∙ (ap (λ (y : Started). y.loads) e.1 ∙ q.5.1) in
    record {
      place = e.0;
      first = same_first p.1 q.1 p.2 q.2 same;
      bits = same_bits p.1 q.1 p.2 q.2 same;
      attempt = e.1;
      variable = one_wanted l p.3 q.3 p.4 q.4 e.1 p.5.0.1 q.5.0.1;
    }

second_once : (l : Listing) (w : World) (a : TaskId) (s s' : Seen) (v v' : World) → Holds l w → (p q : SecondAt l w a) → SecondTo l w a p s v → SecondTo l w a q s' v' → Same s v s' v'
second_once l w a s s' v v' h p q (inl n) (inl m) = let e = one_read l w a h p q in
    (n.1 ∙ sym m.1, n.2 ∙ ((λ t. changed w (e.place t) (stale_at_load (e.attempt t))) ∙ sym m.2))
second_once l w a s s' v v' h p q (inl n) (inr m) = let e = one_read l w a h p q in
    absurd (n.0 (ap (version_now w) e.variable ∙ (m.0 ∙ sym e.first)))
second_once l w a s s' v v' h p q (inr n) (inl m) = let e = one_read l w a h p q in
    absurd (m.0 (ap (version_now w) (sym e.variable) ∙ (n.0 ∙ e.first)))
second_once l w a s s' v v' h p q (inr n) (inr m) = let e = one_read l w a h p q in (
  n.1 ∙ ((λ t. (reads_on l (e.attempt t) (e.variable t) (e.bits t) (e.attempt t).check).0) ∙ sym m.1),
  n.2 ∙ ((λ t. changed w (e.place t) (reads_on l (e.attempt t) (e.variable t) (e.bits t) (e.attempt t).check).1) ∙ sym m.2),
)

-- Ask

abbrev AskAt : Listing → World → TaskId → Type 0
AskAt l w a = (i : ℕ) × (y : Started) × (o : Outcome) × (ws : Known) × CanAsk l w a i y o ws

abbrev AskTo : (l : Listing) (w : World) (a : TaskId) → AskAt l w a → Seen → World → Type 0
AskTo l w a p s v =
    ((Agrees p.1.log (last_state w.history) → ⊥) × (s ≡ seen.Stale) × (v ≡ changed w p.0 (with_fate p.1 fate.Stale)))
    ⊎ (Agrees p.1.log (last_state w.history)
    × (((p.2 ≡ Retries) × (s ≡ seen.Parked) × (v ≡ changed w p.0 (with_fate p.1 fate.Parked)))
    ⊎ ((p.2 ≢ Retries) × (s ≡ seen.Commits (length w.history)) × (v ≡ record w { committer = Some (committing w p.0 p.3) }))))

ask_comes : (l : Listing) (w : World) (a : TaskId) (s : Seen) (v : World) → Next l w (Ask a) s v → Comes (AskAt l w a) (AskTo l w a) w s v
ask_comes l w a seen.Idle v n = inl (λ p. n.0 p.0 p.1 p.2 p.3 p.4, refl, n.1)
ask_comes l w a seen.Stale v n = inr ((n.0, n.1, n.2, n.3, n.4), inl (n.5, refl, n.6))
ask_comes l w a seen.Parked v n = inr ((n.0, n.1, Retries, n.2, n.3), inr (n.4, inl (refl, refl, n.5)))
ask_comes l w a (seen.Commits k) v n = inr ((n.0, n.1, n.2, n.3, n.4), inr (n.6, inr (n.5, ap seen.Commits n.7, n.8)))
ask_comes l w a s v n = absurd n

one_end : (l : Listing) (w : World) (a : TaskId) → Holds l w → (p q : AskAt l w a) → ((p.0 ≡ q.0) × (p.1 ≡ q.1)) × ((p.2 ≡ q.2) × (p.3 ≡ q.3))
one_end l w a h p q =
    let e = one_running l w a p.0 q.0 p.1 q.1 h p.4.0.0 q.4.0.0 in
    let ends = one_answer l p.1 q.1 (Ends p.2 p.3) (Ends q.2 q.3) e.1 p.4.0.1 q.4.0.1 in
    (e, (same_outcome p.2 q.2 p.3 q.3 ends, same_writes p.2 q.2 p.3 q.3 ends))

agrees_too : (w : World) (y z : Started) → y ≡ z → Agrees y.log (last_state w.history) → Agrees z.log (last_state w.history)
agrees_too w y z e h = subst (λ (u : Started). Agrees u.log (last_state w.history)) e h

ask_once : (l : Listing) (w : World) (a : TaskId) (s s' : Seen) (v v' : World) → Holds l w → (p q : AskAt l w a) → AskTo l w a p s v → AskTo l w a q s' v' → Same s v s' v'
ask_once l w a s s' v v' h p q (inl n) (inl m) = let e = one_end l w a h p q in
    (n.1 ∙ sym m.1, n.2 ∙ ((λ t. changed w (e.0.0 t) (with_fate (e.0.1 t) fate.Stale)) ∙ sym m.2))
ask_once l w a s s' v v' h p q (inl n) (inr m) = absurd (n.0 (agrees_too w q.1 p.1 (sym (one_end l w a h p q).0.1) m.0))
ask_once l w a s s' v v' h p q (inr n) (inl m) = absurd (m.0 (agrees_too w p.1 q.1 (one_end l w a h p q).0.1 n.0))
ask_once l w a s s' v v' h p q (inr (g, inl n)) (inr (g', inl m)) = let e = one_end l w a h p q in
    (n.1 ∙ sym m.1, n.2 ∙ ((λ t. changed w (e.0.0 t) (with_fate (e.0.1 t) fate.Parked)) ∙ sym m.2))
ask_once l w a s s' v v' h p q (inr (g, inl n)) (inr (g', inr m)) = absurd (m.0 (sym (one_end l w a h p q).1.0 ∙ n.0))
ask_once l w a s s' v v' h p q (inr (g, inr n)) (inr (g', inl m)) = absurd (n.0 ((one_end l w a h p q).1.0 ∙ m.0))
ask_once l w a s s' v v' h p q (inr (g, inr n)) (inr (g', inr m)) = let e = one_end l w a h p q in
    (n.1 ∙ sym m.1, n.2 ∙ ((λ t. record w { committer = Some (committing w (e.0.0 t) (e.1.1 t)) }) ∙ sym m.2))

-- Word

abbrev WordAt : World → Type 0
WordAt w = (c : Committer) × (st : Store) × (words : List ℕ) × IsNextStore w c st words

abbrev WordTo : (w : World) → WordAt w → Seen → World → Type 0
WordTo w p s v =
    ((p.0.stored + 1 < length (stores p.0.changes)) × (s ≡ seen.Stored) × (v ≡ stored w p.0 p.1 p.2))
    ⊎ ((p.0.stored + 1 ≡ length (stores p.0.changes)) × (s ≡ seen.Committed p.0.number)
    × ((y : Started) × (slice_get w.attempts p.0.place ≡ Some y) × (v ≡ finished (stored w p.0 p.1 p.2) p.0 y)))

no_committer : (o : Option Committer) (c : Committer) → o ≡ None → o ≡ Some c → ⊥
no_committer o c e e' = let f : None ≡ Some c = sym e ∙ e' in cc

word_comes : (l : Listing) (w : World) (s : Seen) (v : World) → Next l w Word s v → Comes (WordAt w) (WordTo w) w s v
word_comes l w seen.Idle v n = inl (λ p. no_committer w.committer p.0 n.0 p.3.0, refl, n.1)
word_comes l w seen.Stored v n = inr ((n.0, n.1, n.2, n.3), inl (n.4, refl, n.5))
word_comes l w (seen.Committed k) v n = inr ((n.0, n.1, n.2, n.4), inr (n.5, ap seen.Committed n.6, (n.3, n.7, n.8)))
word_comes l w s v n = absurd n

one_bits : (v : ℤ) (bits bits' : ℕ) → AreBits v bits → AreBits v bits' → bits ≡ bits'
one_bits v bits bits' h h' = sym (of_z-to_z w64 bits h.0) ∙ (ap (cast_unsigned w64) (h.1 ∙ sym h'.1) ∙ of_z-to_z w64 bits' h'.0)

one_write : (st : Store) (n : ℕ) (words a b : List ℕ) → Writes st n words a → Writes st n words b → a ≡ b
one_write (Lock x) n words a b h h' = h ∙ sym h'
one_write (Put x v) n words a b h h' = h.2 ∙ (ap (λ (bits : ℕ). set words (value_word x.0) bits) (one_bits v h.0 h'.0 h.1 h'.1) ∙ sym h'.2)
one_write Tick n words a b h h' = h ∙ sym h'
one_write (Free x) n words a b h h' = h ∙ sym h'

one_store : (w : World) (p q : WordAt w) → (p.0 ≡ q.0) × ((p.1 ≡ q.1) × (p.2 ≡ q.2))
one_store w p q =
    let c = same_some p.0 q.0 (sym p.3.0 ∙ q.3.0) in
    let st = same_some p.1 q.1 (sym p.3.1 ∙ (ap (λ (d : Committer). slice_get (stores d.changes) d.stored) c ∙ q.3.1)) in
    let writes = subst (λ (d : Committer). Writes p.1 d.number w.words p.2) c p.3.2 in
    (c, (st, one_write q.1 q.0.number w.words p.2 q.2 (subst (λ (t : Store). Writes t q.0.number w.words p.2) st writes) q.3.2))

not_last : {A : Type 0} (c d : Committer) → c ≡ d → c.stored + 1 < length (stores c.changes) → d.stored + 1 ≡ length (stores d.changes) → A
not_last c d e low last = absurd (let more = subst (λ (c : Committer). c.stored + 1 < length (stores c.changes)) e low in omega (arith, more, last))

word_once : (w : World) (s s' : Seen) (v v' : World) → (p q : WordAt w) → WordTo w p s v → WordTo w q s' v' → Same s v s' v'
word_once w s s' v v' p q (inl n) (inl m) = let e = one_store w p q in
    (n.1 ∙ sym m.1, n.2 ∙ ((λ t. stored w (e.0 t) (e.1.0 t) (e.1.1 t)) ∙ sym m.2))
word_once w s s' v v' p q (inl n) (inr m) = not_last p.0 q.0 (one_store w p q).0 n.0 m.0
word_once w s s' v v' p q (inr n) (inl m) = not_last q.0 p.0 (sym (one_store w p q).0) m.0 n.0
word_once w s s' v v' p q (inr n) (inr m) =
    let e = one_store w p q in
    let y = same_some n.2.0 m.2.0 (sym n.2.1 ∙ (ap (λ (c : Committer). slice_get w.attempts c.place) e.0 ∙ m.2.1)) in (
      n.1 ∙ ((λ t. seen.Committed (e.0 t).number) ∙ sym m.1),
      n.2.2 ∙ ((λ t. finished (stored w (e.0 t) (e.1.0 t) (e.1.1 t)) (e.0 t) (y t)) ∙ sym m.2.2),
    )

-- Drop

abbrev DropAt : World → TaskId → Type 0
DropAt w a = (i : ℕ) × (y : Started) × CanDrop w a i y

abbrev DropTo : (w : World) (a : TaskId) → DropAt w a → Seen → World → Type 0
DropTo w a p s v = (s ≡ seen.Dropped) × (v ≡ changed w p.0 (with_fate p.1 fate.Dropped))

drop_comes : (l : Listing) (w : World) (a : TaskId) (s : Seen) (v : World) → Next l w (Drop a) s v → Comes (DropAt w a) (DropTo w a) w s v
drop_comes l w a seen.Idle v n = inl (λ p. n.0 p.0 p.1 p.2, refl, n.1)
drop_comes l w a seen.Dropped v n = inr ((n.0, n.1, n.2), (refl, n.3))
drop_comes l w a s v n = absurd n

drop_once : (l : Listing) (w : World) (a : TaskId) (s s' : Seen) (v v' : World) → Holds l w → (p q : DropAt w a) → DropTo w a p s v → DropTo w a q s' v' → Same s v s' v'
drop_once l w a s s' v v' h p q n m = let e = one_running l w a p.0 q.0 p.1 q.1 h p.2.0 q.2.0 in
    (n.0 ∙ sym m.0, n.1 ∙ ((λ t. changed w (e.0 t) (with_fate (e.1 t) fate.Dropped)) ∙ sym m.1))

-- Again

abbrev AgainAt : Listing → World → TaskId → Type 0
AgainAt l w a = (i : ℕ) × (y : Started) × (x : VarId) × CanGoAgain l w a i y x

abbrev AgainTo : (l : Listing) (w : World) (a : TaskId) → AgainAt l w a → Seen → World → Type 0
AgainTo l w a p s v = (s ≡ (goes_again l w p.1).0) × (v ≡ changed w p.0 (goes_again l w p.1).1)

again_comes : (l : Listing) (w : World) (a : TaskId) (s : Seen) (v : World) → Next l w (Again a) s v → Comes (AgainAt l w a) (AgainTo l w a) w s v
again_comes l w a seen.Idle v n = inl (λ p. n.0 p.0 p.1 p.2 p.3, refl, n.1)
again_comes l w a s v n = inr ((n.0, n.1, n.2, n.3), (n.4, n.5))

-- a task has one latest attempt
one_latest : (w : World) (a : TaskId) (i j : ℕ) (y z : Started) → IsLatest w a i y → IsLatest w a j z → (i ≡ j) × (y ≡ z)
one_latest w a i j y z latest latest' =
    let same : i ≡ j = omega (arith, latest.2 j z latest'.0 latest'.1, latest'.2 i y latest.0 latest.1) in
    (same, same_some y z (sym latest.0 ∙ (ap (slice_get w.attempts) same ∙ latest'.0)))

again_once : (l : Listing) (w : World) (a : TaskId) (s s' : Seen) (v v' : World) → (p q : AgainAt l w a) → AgainTo l w a p s v → AgainTo l w a q s' v' → Same s v s' v'
again_once l w a s s' v v' p q n m = let e = one_latest w a p.0 q.0 p.1 q.1 p.3.1 q.3.1 in
    (n.0 ∙ ((λ t. (goes_again l w (e.1 t)).0) ∙ sym m.0), n.1 ∙ ((λ t. changed w (e.0 t) (goes_again l w (e.1 t)).1) ∙ sym m.1))

checks_not : (l : Listing) (y : Started) (n checked : ℕ) (o : Option (VarId × ℤ)) → (checks_on l y n checked o).0 ≢ seen.Spent
checks_not l y n checked (Some p) e = absurd (cc)
checks_not l y n checked None e = told_not (stand l y) e

-- Begin

abbrev BeginTo : (l : Listing) (w : World) (a : TaskId) → CanBegin l w a → Seen → World → Type 0
BeginTo l w a p s v = (s ≡ told (ask (task_program l a) [])) × (v ≡ with_attempt w a fate.Running)

begin_comes : (l : Listing) (w : World) (a : TaskId) (s : Seen) (v : World) → Next l w (Begin a) s v → s ≢ seen.Spent → Comes (CanBegin l w a) (BeginTo l w a) w s v
begin_comes l w a seen.Idle v n room = inl (n.0, refl, n.1)
begin_comes l w a seen.Spent v n room = absurd (room refl)
begin_comes l w a s v n room = inr (n.0, (n.1, n.2))

begin_once : (l : Listing) (w : World) (a : TaskId) (s s' : Seen) (v v' : World) → (p q : CanBegin l w a) → BeginTo l w a p s v → BeginTo l w a q s' v' → Same s v s' v'
begin_once l w a s s' v v' p q n m = (n.0 ∙ sym m.0, n.1 ∙ sym m.1)

pub single_answer : (l : Listing) (w : World) → Holds l w → HasOneAnswer l w
single_answer l w h (Begin a) s s' v v' n m room room' =
    comes_once (CanBegin l w a) (BeginTo l w a) w s s' v v' (begin_once l w a s s' v v') (begin_comes l w a s v n room) (begin_comes l w a s' v' m room')
single_answer l w h (First a x) s s' v v' n m room room' =
    comes_once (FirstAt l w a x) (FirstTo l w a x) w s s' v v' (first_once l w a x s s' v v' h) (first_comes l w a x s v n) (first_comes l w a x s' v' m)
single_answer l w h (Value a) s s' v v' n m room room' =
    comes_once (ValueAt l w a) (ValueTo l w a) w s s' v v' (value_once l w a s s' v v' h) (value_comes l w a s v n) (value_comes l w a s' v' m)
single_answer l w h (Second a) s s' v v' n m room room' =
    comes_once (SecondAt l w a) (SecondTo l w a) w s s' v v' (second_once l w a s s' v v' h) (second_comes l w a s v n room) (second_comes l w a s' v' m room')
single_answer l w h (Ask a) s s' v v' n m room room' =
    comes_once (AskAt l w a) (AskTo l w a) w s s' v v' (ask_once l w a s s' v v' h) (ask_comes l w a s v n) (ask_comes l w a s' v' m)
single_answer l w h Word s s' v v' n m room room' =
    comes_once (WordAt w) (WordTo w) w s s' v v' (word_once w s s' v v') (word_comes l w s v n) (word_comes l w s' v' m)
single_answer l w h (Drop a) s s' v v' n m room room' =
    comes_once (DropAt w a) (DropTo w a) w s s' v v' (drop_once l w a s s' v v' h) (drop_comes l w a s v n) (drop_comes l w a s' v' m)
single_answer l w h (Again a) s s' v v' n m room room' =
    comes_once (AgainAt l w a) (AgainTo l w a) w s s' v v' (again_once l w a s s' v v') (again_comes l w a s v n) (again_comes l w a s' v' m)

-- an attempt that begins, or goes on after a read, may have another answer than running out of memory
could_begin : (l : Listing) (w : World) (a : TaskId) (r : Answer) → CanBegin l w a → r ≡ ask (task_program l a) [] → (s : Seen) × (u : World) × (s ≢ seen.Spent) × Next l w (Begin a) s u
could_begin l w a (Needs x) can e = (seen.Needs x, with_attempt w a fate.Running, told_not (Needs x), (can, ap told e, refl))
could_begin l w a (Ends o ws) can e = (seen.Ended o, with_attempt w a fate.Running, told_not (Ends o ws), (can, ap told e, refl))

could_go_on : (l : Listing) (w : World) (a : TaskId) (r : Answer) (p : SecondAt l w a) → version_now w p.4 ≡ p.1 → p.3.check ≡ None → r ≡ stand l (with_read p.3 p.4 p.2) → (s : Seen) × (u : World) × (s ≢ seen.Spent) × Next l w (Second a) s u
could_go_on l w a (Needs x) p same plain e =
    (seen.Needs x, changed w p.0 (reads_on l p.3 p.4 p.2 p.3.check).1, told_not (Needs x), (p.0, p.1, p.2, p.3, p.4, p.5, same, ap told e ∙ ap (λ (o : Option Check). (reads_on l p.3 p.4 p.2 o).0) (sym plain), refl))
could_go_on l w a (Ends o ws) p same plain e =
    (seen.Ended o, changed w p.0 (reads_on l p.3 p.4 p.2 p.3.check).1, told_not (Ends o ws), (p.0, p.1, p.2, p.3, p.4, p.5, same, ap told e ∙ ap (λ (o : Option Check). (reads_on l p.3 p.4 p.2 o).0) (sym plain), refl))

pub single_refusal : (l : Listing) (w : World) → Holds l w → HasOneRefusal l w
single_refusal l w h (Begin a) v v' n m = (n.1 ∙ sym m.1, could_begin l w a (ask (task_program l a) []) n.0 refl)
single_refusal l w h (First a x) v v' n m = absurd n
single_refusal l w h (Value a) v v' n m = absurd n
single_refusal l w h (Second a) v v' n m =
    let p : SecondAt l w a = (n.0, n.1, n.2, n.3, n.4, n.5) in
    let q : SecondAt l w a = (m.0, m.1, m.2, m.3, m.4, m.5) in
    let e = one_read l w a h p q in (
      n.8 ∙ ((λ t. changed w (e.place t) (with_fate (with_read (e.attempt t) (e.variable t) (e.bits t)) fate.Spent)) ∙ sym m.8),
      could_go_on l w a (stand l (with_read p.3 p.4 p.2)) p n.6 n.7 refl,
    )
single_refusal l w h (Ask a) v v' n m = absurd n
single_refusal l w h Word v v' n m = absurd n
single_refusal l w h (Drop a) v v' n m = absurd n
single_refusal l w h (Again a) v v' n m = absurd (checks_not l (running_again n.1) (get_or w.words 0 0) 0 (slice_get n.1.log 0) (sym n.4))
