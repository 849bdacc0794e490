-- The queues of tasks that are left.
use Rattle.std.proofs.Common.{◌≡◌, ◌⊎◌, inl, inr, ℕ, zero, suc, ◌+◌, ◌<◌, ◌≤◌, List, [], ◌∷◌, ◌++◌, length, map, get_or, set, drop, replicate, Option, Some, None, refl, sym, ◌∙◌, ap, subst, ⊎_elim, arith, length-append}
use Rattle.std.specs.Prelude.{MatchOption, vec_len}
use Rattle.std.specs.declared.alloc.Global.{Global}
use Rattle.std.specs.declared.vec.Vec.{Vec}
use Rattle.std.specs.List.{slice_get}
use Rattle.std.specs.Option.{option_to_list}
use Rattle.std.proofs.lemmas.List.{length-map, map-set, get_or-map, get_or-set_same, get_or-set_other}
use Rattle.std.proofs.lemmas.Option.{same_Some, slice_get_within}
use Rattle.std.proofs.lemmas.Bool.{cases_eq}
use Rattle.txn_programs.specs.declared.arguments.Call.{Call}
use Rattle.txn_programs.specs.Listing.{Listing, calls, tasks}
use Rattle.txn_programs.specs.Replay.{Stands, Once}
use Rattle.explore_law.specs.declared.instance.InstanceId.{InstanceId}
use Rattle.explore_law.specs.Instances.{instances}
use Rattle.explore_law.specs.Orders.{counted}
use Rattle.explore_law.proofs.Instances.{counted_more, counted_none, length-counted}
use Rattle.explore_runner.specs.Giving.{queues, queue_at, Leaves, IsOf, AreOwn}
use Rattle.explore_runner.proofs.Shuffles.{once_append}

pub get_append_at : {X : Type 0} (xs : List X) (y : X) → slice_get (xs ++ y ∷ []) (length xs) ≡ Some y
get_append_at [] y = refl
get_append_at (x ∷ xs) y = get_append_at xs y

pub get_append_left : {X : Type 0} (xs ys : List X) (k : ℕ) (x : X) → slice_get xs k ≡ Some x → slice_get (xs ++ ys) k ≡ Some x
get_append_left [] ys k x h = absurd (cc)
get_append_left (y ∷ xs) ys zero x h = h
get_append_left (y ∷ xs) ys (suc k) x h = get_append_left xs ys k x h

get_append_last : {X : Type 0} (xs : List X) (y : X) (k : ℕ) (x : X) → slice_get (xs ++ y ∷ []) k ≡ Some x → (slice_get xs k ≡ Some x) ⊎ (y ≡ x)
get_append_last [] y zero x h = inr (same_Some y x h)
get_append_last [] y (suc k) x h = absurd (cc)
get_append_last (z ∷ xs) y zero x h = inl h
get_append_last (z ∷ xs) y (suc k) x h = get_append_last xs y k x h

abbrev items : Vec ℕ Global → List ℕ
items v = v.items

-- the queue at a place
queue_is : (vs : List (Vec ℕ Global)) (k : ℕ) (v : Vec ℕ Global) → k < length vs → v ≡ get_or vs k v → queue_at (queues vs) k ≡ v.items
queue_is vs k v low e = get_or-map items vs k v [] low ∙ ap items (sym e)

pub set_queue : (vs : List (Vec ℕ Global)) (k : ℕ) (old new : Vec ℕ Global) (t : ℕ) → k < length vs → old ≡ get_or vs k old → new.items ≡ old.items ++ t ∷ []
    → queues (set vs k new) ≡ set (queues vs) k (queue_at (queues vs) k ++ t ∷ [])
set_queue vs k old new t low e more =
    map-set items vs k new ∙ ap (set (queues vs) k) (more ∙ ap (λ (q : List ℕ). q ++ t ∷ []) (sym (queue_is vs k old low e)))

nothing : {X : Type 0} (xs : List X) → length xs ≡ 0 → xs ≡ []
nothing [] e = refl
nothing (x ∷ xs) e = absurd (omega (arith, e))

pub leaves : (vs : List (Vec ℕ Global)) (inst : InstanceId) (old new : Vec ℕ Global) (r : Option ℕ) → inst.0 < length vs → old ≡ get_or vs inst.0 old → old.items ≡ new.items ++ option_to_list r
    → MatchOption r ((vec_len old ≡ 0) × (vec_len new ≡ 0)) (λ _. vec_len new + 1 ≡ vec_len old) → Leaves (queues vs) inst r (queues (set vs inst.0 new))
leaves vs inst old new None low e less cases = queue_is vs inst.0 old low e ∙ nothing old.items (omega (arith, cases.0, old.ok.0))
leaves vs inst old new (Some t) low e less cases = (new.items, queue_is vs inst.0 old low e ∙ less, map-set items vs inst.0 new)

-- the queues of the tasks from number n on
pub record Filled (l : Listing) (n : ℕ) (qs : List (List ℕ)) : Type 0 where
  pub own : (k i t : ℕ) → slice_get (queue_at qs k) i ≡ Some t → IsOf l (record { 0 = k }) t
  pub from : (k i t : ℕ) → slice_get (queue_at qs k) i ≡ Some t → n ≤ t
  pub once : (k : ℕ) → Once (queue_at qs k)
  pub counts : map length qs ≡ counted l (drop n (calls l))

pub filled_size : (l : Listing) (n : ℕ) (qs : List (List ℕ)) → Filled l n qs → length qs ≡ length (instances l)
filled_size l n qs h = sym (length-map qs length) ∙ (ap length h.counts ∙ length-counted l (drop n (calls l)))

none_queued : (n k : ℕ) → get_or {A = List ℕ} (replicate n []) k [] ≡ []
none_queued zero k = refl
none_queued (suc n) zero = refl
none_queued (suc n) (suc k) = none_queued n k

no_lengths : (n : ℕ) → map (λ (q : List ℕ). length q) (replicate n []) ≡ replicate n zero
no_lengths zero = refl
no_lengths (suc n) = ap (λ xs. zero ∷ xs) (no_lengths n)

past_end : {X : Type 0} (xs : List X) → drop (length xs) xs ≡ []
past_end [] = refl
past_end (x ∷ xs) = past_end xs

not_queued : (n k i t : ℕ) → slice_get (queue_at (replicate n []) k) i ≡ Some t → ⊥
not_queued n k i t e = let no : slice_get [] i ≡ Some t = subst (λ (q : List ℕ). slice_get q i ≡ Some t) (none_queued n k) e in absurd (cc)

none_past : (l : Listing) → drop (length (tasks l)) (calls l) ≡ []
none_past l = ap (λ n. drop n (calls l)) (length-map (calls l) (λ (c : Call). c.tx)) ∙ past_end (calls l)

pub filled_none : (l : Listing) (n : ℕ) → n ≡ length (instances l) → Filled l (length (tasks l)) (replicate n [])
filled_none l n e =
    record {
      own = λ k i t h. absurd (not_queued n k i t h);
      from = λ k i t h. absurd (not_queued n k i t h);
      once = λ k i j t p q. absurd (not_queued n k i t p);
      counts = no_lengths n ∙ (ap (λ m. replicate m zero) e ∙ (sym (counted_none l) ∙ ap (counted l) (sym (none_past l))));
    }

pub drop_at : {X : Type 0} (xs : List X) (i : ℕ) (x : X) → slice_get xs i ≡ Some x → drop i xs ≡ x ∷ drop (i + 1) xs
drop_at [] i x e = absurd (cc)
drop_at (y ∷ ys) zero x e = let same : y ≡ x = same_Some y x e in ap (λ z. z ∷ ys) same
drop_at (y ∷ ys) (suc i) x e =
    let more : suc i + 1 ≡ suc (i + 1) = omega arith in
    drop_at ys i x e ∙ ap (λ k. x ∷ drop k (y ∷ ys)) (sym more)

abbrev instance : ℕ → InstanceId
instance n = record { 0 = n }

-- one more task, the one before them
pub filled_more : (l : Listing) (n m : ℕ) (inst : InstanceId) (c : Call) (qs : List (List ℕ)) → n ≡ m + 1 → slice_get (instances l) inst.0 ≡ Some c → slice_get (calls l) m ≡ Some c → Filled l n qs
    → Filled l m (set qs inst.0 (queue_at qs inst.0 ++ m ∷ []))
filled_more l n m inst c qs next at is h =
    let q = queue_at qs inst.0 in
    let more = set qs inst.0 (q ++ m ∷ []) in
    let within : inst.0 < length qs = omega (arith, slice_get_within (instances l) inst.0 c at, filled_size l n qs h) in
    let now : queue_at more inst.0 ≡ q ++ m ∷ [] = get_or-set_same qs inst.0 (q ++ m ∷ []) [] within in
    let Q : ℕ → ℕ → ℕ → Type 0 = λ k i t. slice_get (queue_at more k) i ≡ Some t in
    let here : (i t : ℕ) → Q inst.0 i t → (slice_get q i ≡ Some t) ⊎ (m ≡ t) = λ i t e. get_append_last q m i t (ap (λ (x : List ℕ). slice_get x i) (sym now) ∙ e) in
    let there : (k i t : ℕ) → (k ≡ inst.0 → ⊥) → Q k i t → slice_get (queue_at qs k) i ≡ Some t = λ k i t apart e. ap (λ (x : List ℕ). slice_get x i) (sym (get_or-set_other qs inst.0 k (q ++ m ∷ []) [] apart)) ∙ e in
    let count : get_or (map length qs) inst.0 0 ≡ length q = get_or-map length qs inst.0 [] 0 within in
    let C = counted l (drop n (calls l)) in
    let size : length (q ++ m ∷ []) ≡ get_or C inst.0 0 + 1 = omega (arith, length-append q (m ∷ []), count, ap (λ (x : List ℕ). get_or x inst.0 0) h.counts) in
    let last : drop m (calls l) ≡ c ∷ drop n (calls l) = drop_at (calls l) m c is ∙ ap (λ k. c ∷ drop k (calls l)) (sym next) in
    record {
      own = λ k i t e.
          ⊎_elim
          (λ (same : k ≡ inst.0).
          ⊎_elim
          (λ (old : slice_get q i ≡ Some t). subst (λ j. IsOf l (instance j) t) (sym same) (h.own inst.0 i t old))
          (λ (new : m ≡ t). record { call = c; instance = ap (slice_get (instances l)) same ∙ at; made = ap (slice_get (calls l)) (sym new) ∙ is })
          (here i t (subst (λ (j : ℕ). Q j i t) same e)))
          (λ (apart : k ≡ inst.0 → ⊥). h.own k i t (there k i t apart e))
          (cases_eq k inst.0);
      from = λ k i t e.
          ⊎_elim
          (λ (same : k ≡ inst.0).
          ⊎_elim (λ (old : slice_get q i ≡ Some t). let le = h.from inst.0 i t old in omega (arith, le, next)) (λ (new : m ≡ t). omega (arith, new)) (here i t (subst (λ (j : ℕ). Q j i t) same e)))
          (λ (apart : k ≡ inst.0 → ⊥). let le = h.from k i t (there k i t apart e) in omega (arith, le, next))
          (cases_eq k inst.0);
      once = λ k.
          ⊎_elim
          (λ (same : k ≡ inst.0).
          subst (λ (x : List ℕ). Once x) (sym (ap (queue_at more) same ∙ now))
          (once_append q (m ∷ []) (h.once inst.0) (λ i j t a b. only i j t a b)
          (λ u a b. let le = h.from inst.0 a.0 u a.1 in let e = alone u b in omega (arith, le, next, e))))
          (λ (apart : k ≡ inst.0 → ⊥). subst (λ (x : List ℕ). Once x) (sym (get_or-set_other qs inst.0 k (q ++ m ∷ []) [] apart)) (h.once k))
          (cases_eq k inst.0);
      counts = map-set length qs inst.0 (q ++ m ∷ [])
          ∙ (ap (λ (x : List ℕ). set x inst.0 (length (q ++ m ∷ []))) h.counts
          ∙ (ap (λ (j : ℕ). set C inst.0 j) size ∙ (sym (counted_more l inst c (drop n (calls l)) at) ∙ ap (counted l) (sym last))));
    }
  where
    alone : (u : ℕ) → Stands (m ∷ []) u → m ≡ u
    alone u (zero, e) = same_Some m u e
    alone u (suc i, e) = absurd (cc)

    only : (i j t : ℕ) → slice_get (m ∷ []) i ≡ Some t → slice_get (m ∷ []) j ≡ Some t → i ≡ j
    only zero zero t a b = refl
    only zero (suc j) t a b = absurd (cc)
    only (suc i) j t a b = absurd (cc)

pub filled_own : (l : Listing) (n : ℕ) (qs : List (List ℕ)) → Filled l n qs → AreOwn l qs
filled_own l n qs h = record { own = h.own; once = h.once }

pub queues_size : (vs : List (Vec ℕ Global)) → length (queues vs) ≡ length vs
queues_size vs = length-map vs items
