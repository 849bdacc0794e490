-- The instances, while they are listed.
use Rattle.std.proofs.Common.{◌≡◌, ℕ, ◌+◌, ◌-◌, ◌<◌, ◌≤◌, Bool, true, false, cond, ℤ, pos, List, [], ◌∷◌, ◌++◌, length, map, take, get_or, replicate, Option, Some, refl, sym, ◌∙◌, ap, subst, ⊎_elim, arith, eqb, length-append}
use Rattle.std.specs.Prelude.{slice_get, flat_map}
use Rattle.std.specs.List.{Contains, range_with_len}
use Rattle.std.proofs.lemmas.Bool.Decides.{Decides-eqb}
use Rattle.std.proofs.lemmas.List.{length-map, get_or-map, map-append, append-nil, append_assoc, take_all, take_more, take-append-le, length-take}
use Rattle.std.proofs.lemmas.List.Concat.{flat_map-append}
use Rattle.std.proofs.lemmas.List.Elements.{Contains-append_right, Contains-append_cases, filter-append}
use Rattle.std.proofs.lemmas.Option.{slice_get_within, slice_get-get_or, get_or_from_slice_get}
use Rattle.txn_programs.specs.declared.arguments.Call.{Call}
use Rattle.txn_programs.specs.declared.limits.TheConstants.{MAX_PARAMETERS}
use Rattle.txn_programs.specs.Limits.{limits_hold}
use Rattle.txn_programs.specs.declared.ast.TaskId.{TaskId}
use Rattle.txn_programs.specs.declared.ast.TxId.{TxId}
use Rattle.txn_programs.specs.Names.{names_hold}
use Rattle.txn_programs.specs.Listing.{Listing, calls, tasks, task_arguments}
use Rattle.txn_programs.proofs.Lawful.{callable_task, few_tasks, task_calls}
use Rattle.explore_law.specs.declared.instance.InstanceId.{InstanceId}
use Rattle.explore_law.specs.Instances.{calls_to, each_once, instances}
use Rattle.explore_law.specs.Orders.{Config}
use Rattle.explore_law.proofs.Instances.{is_to, passes_in, passes_of, length-filter-le, once_in, once_of, once_new, once_old, known_or_not, length-once, of_range, range_few, in_get, get_in, instance_in, few_instances}
use Rattle.explore_search.specs.Shelf.{Shelf, Adds, nowhere}
use Rattle.explore_search.specs.Indexed.{config_at}
use Rattle.explore_search.specs.Instancing.{AddsCall, TellsTasks, first_calls, key, index}
use Rattle.explore_search.proofs.Indexing.{at_contains, contains_at}
use Rattle.explore_search.proofs.Graphing.{range_push}

abbrev call : ℕ → List ℤ → Call
call k xs = record { tx = record { 0 = k }; arguments = xs }

-- the numbers of a call tell which one it is
pub key_same : (c d : Call) → key c ≡ key d → c ≡ d
key_same c d e =
    let counts : c.tx.0 ∷ length c.arguments ∷ [] ≡ d.tx.0 ∷ length d.arguments ∷ [] = ap (λ (p : Config). p.left) e in
    let tx : c.tx.0 ≡ d.tx.0 = ap (λ (xs : List ℕ). get_or xs 0 0) counts in
    let size : length c.arguments ≡ length d.arguments = ap (λ (xs : List ℕ). get_or xs 1 0) counts in
    let blank : ℕ → List ℤ = λ n. replicate (MAX_PARAMETERS - n) (pos 0) in
    let whole : c.arguments ++ blank (length c.arguments) ≡ d.arguments ++ blank (length d.arguments) = ap (λ (p : Config). p.state) e in
    let front : (xs : List ℤ) → take (length xs) (xs ++ blank (length xs)) ≡ xs = λ xs. take-append-le (length xs) xs (blank (length xs)) (omega arith) ∙ take_all (length xs) xs (omega arith) in
    let arguments : c.arguments ≡ d.arguments =
    sym (front c.arguments) ∙ (ap (take (length c.arguments)) whole ∙ (ap (λ (n : ℕ). take n (d.arguments ++ blank (length d.arguments))) size ∙ front d.arguments)) in
    ap (λ (k : ℕ). call k c.arguments) tx ∙ ap (λ (xs : List ℤ). call d.tx.0 xs) arguments

-- a call is listed where its numbers are
pub key_in : (cs : List Call) (c : Call) → Contains cs c → Contains (map key cs) (key c)
key_in cs c h =
    let at = get_in cs c h in
    let low = slice_get_within cs at.0 c at.1 in
    contains_at (map key cs) at.0 (key c) (omega (arith, low, length-map cs key)) (get_or-map key cs at.0 c nowhere low ∙ ap key (get_or_from_slice_get cs at.0 c c at.1))

pub key_at : (cs : List Call) (k : ℕ) (c : Call) → k < length (map key cs) → config_at (map key cs) k ≡ key c → slice_get cs k ≡ Some c
key_at cs k c low is =
    let within : k < length cs = omega (arith, low, length-map cs key) in
    slice_get-get_or cs k c within ∙ ap Some (key_same (get_or cs k c) c (sym (get_or-map key cs k c nowhere within) ∙ is))

pub key_of : (cs : List Call) (c : Call) → Contains (map key cs) (key c) → Contains cs c
key_of cs c h = let at = at_contains (map key cs) (key c) h in in_get cs at.0 c (key_at cs at.0 c at.1 at.2)

-- where no configuration came the call was there
pub added_old : (cs : List Call) (c : Call) (old new : Shelf) (q : Config) → old ≡ index cs → q ≡ key c → Adds old new q → length new.configs ≤ length old.configs → Contains cs c
added_old cs c old new q is same adds few =
    ⊎_elim
    (λ w. key_of cs c (subst (Contains (map key cs)) same (subst (λ (s : Shelf). Contains s.configs q) is w.0)))
    (λ w. absurd (omega (arith, few, ap length w.1, length-append old.configs (q ∷ []))))
    adds.added

-- the calls of a transaction's tasks so far, behind those of the transactions before it
abbrev pub so_far : Listing → ℕ → ℕ → List Call
so_far l k t = first_calls l k ++ calls_to (each_once (take t (calls l))) k

pub start_to : (l : Listing) (k : ℕ) → first_calls l k ≡ so_far l k 0
start_to l k = sym (append-nil (first_calls l k))

next_call : (l : Listing) (t : ℕ) (c : Call) → slice_get (calls l) t ≡ Some c → take (t + 1) (calls l) ≡ take t (calls l) ++ c ∷ []
next_call l t c e = take_more (calls l) t c (slice_get_within (calls l) t c e) ∙ ap (λ (x : Call). take t (calls l) ++ x ∷ []) (get_or_from_slice_get (calls l) t c c e)

-- a call of another transaction changes nothing
pub passed_by : (l : Listing) (k t : ℕ) (c : Call) → slice_get (calls l) t ≡ Some c → (c.tx.0 ≡ k → ⊥) → so_far l k t ≡ so_far l k (t + 1)
passed_by l k t c e apart =
    let xs = take t (calls l) in
    let out : eqb c.tx.0 k ≡ false = by (eqb c.tx.0 k) refl in
    let dropped : calls_to (each_once xs ++ c ∷ []) k ≡ calls_to (each_once xs) k =
    filter-append (is_to k) (each_once xs) (c ∷ []) ∙ (ap (λ (b : Bool). calls_to (each_once xs) k ++ cond b (c ∷ []) []) out ∙ append-nil (calls_to (each_once xs) k)) in
    let same : calls_to (each_once (xs ++ c ∷ [])) k ≡ calls_to (each_once xs) k =
    ⊎_elim (λ (h : Contains xs c). ap (λ (ys : List Call). calls_to ys k) (once_old xs c h)) (λ (h : Contains xs c → ⊥). ap (λ (ys : List Call). calls_to ys k) (once_new xs c h) ∙ dropped) (known_or_not xs c) in
    ap (λ (ys : List Call). first_calls l k ++ ys) (sym same ∙ ap (λ (ys : List Call). calls_to (each_once ys) k) (sym (next_call l t c e)))
  where
    by : (b : Bool) → eqb c.tx.0 k ≡ b → b ≡ false
    by true is = absurd (apart ((Decides-eqb c.tx.0 k).0 is))
    by false is = refl

-- a call of the transaction comes behind the others, unless it is one of them
pub added_to : (l : Listing) (k t : ℕ) (c : Call) (before after : List Call) → slice_get (calls l) t ≡ Some c → c.tx.0 ≡ k → before ≡ so_far l k t → AddsCall before c after → after ≡ so_far l k (t + 1)
added_to l k t c before after e own is adds =
    let xs = take t (calls l) in
    let here : eqb c.tx.0 k ≡ true = (Decides-eqb c.tx.0 k).1 own in
    let next : (ys : List Call) → each_once (xs ++ c ∷ []) ≡ ys → first_calls l k ++ calls_to ys k ≡ so_far l k (t + 1) = λ ys h.
    ap (λ (zs : List Call). first_calls l k ++ calls_to zs k) (sym h) ∙ ap (λ (zs : List Call). first_calls l k ++ calls_to (each_once zs) k) (sym (next_call l t c e)) in
    ⊎_elim
    (λ w.
    let there : Contains (so_far l k t) c = subst (λ (ys : List Call). Contains ys c) is w.0 in
    let known : Contains xs c =
    ⊎_elim (λ (h : Contains (first_calls l k) c). absurd (let on = of_range (each_once (calls l)) 0 k c h in omega (arith, on.2, own)))
    (λ (h : Contains (calls_to (each_once xs) k) c). once_of xs c (passes_of (is_to k) (each_once xs) c h).0)
    (Contains-append_cases (first_calls l k) (calls_to (each_once xs) k) c there) in
    w.1 ∙ (is ∙ next (each_once xs) (once_old xs c known)))
    (λ w.
    let new : Contains xs c → ⊥ = λ h.
    w.0 (subst (λ (ys : List Call). Contains ys c) (sym is) (Contains-append_right (first_calls l k) (calls_to (each_once xs) k) c (passes_in (is_to k) (each_once xs) c (once_in xs c h) here))) in
    let kept : calls_to (each_once xs ++ c ∷ []) k ≡ calls_to (each_once xs) k ++ c ∷ [] =
    filter-append (is_to k) (each_once xs) (c ∷ []) ∙ ap (λ (b : Bool). calls_to (each_once xs) k ++ cond b (c ∷ []) []) here in
    let more : so_far l k t ++ c ∷ [] ≡ first_calls l k ++ calls_to (each_once xs ++ c ∷ []) k =
    append_assoc (first_calls l k) (calls_to (each_once xs) k) (c ∷ []) ∙ ap (λ (ys : List Call). first_calls l k ++ ys) (sym kept) in
    w.1 ∙ (ap (λ (ys : List Call). ys ++ c ∷ []) is ∙ (more ∙ next (each_once xs ++ c ∷ []) (once_new xs c new))))
    adds

-- there are few so far
pub few_so_far : (l : Listing) (k t : ℕ) → limits_hold l ≡ true → length (so_far l k t) ≤ 131072
few_so_far l k t limits =
    let xs = take t (calls l) in
    omega (
      arith,
      length-append (first_calls l k) (calls_to (each_once xs) k),
      range_few (each_once (calls l)) 0 k,
      length-once (calls l),
      length-filter-le (is_to k) (each_once xs),
      length-once xs,
      length-take t (calls l),
      few_tasks l limits,
      length-map (calls l) (λ (c : Call). c.tx),
    )

-- all tasks were looked at
pub all_to : (l : Listing) (k t : ℕ) → length (calls l) ≤ t → so_far l k t ≡ first_calls l (k + 1)
all_to l k t done =
    let f = calls_to (each_once (calls l)) in
    ap (λ (xs : List Call). first_calls l k ++ calls_to (each_once xs) k) (take_all t (calls l) done)
    ∙ (ap (λ (ys : List Call). first_calls l k ++ ys) (sym (append-nil (f k)))
    ∙ (sym (flat_map-append f (range_with_len 0 k) (k ∷ [])) ∙ ap (flat_map f) (sym (range_push k))))

pub first_all : (l : Listing) (k : ℕ) → k ≡ length l.transactions → first_calls l k ≡ instances l
unfolding instances
first_all l k e = ap (first_calls l) e

-- the instances of the tasks so far
pub told_more : (l : Listing) (ks : List InstanceId) (t : ℕ) (k : InstanceId) → t < length (calls l) → slice_get (instances l) k.0 ≡ slice_get (calls l) t
    → map (λ (m : InstanceId). slice_get (instances l) m.0) ks ≡ map Some (take t (calls l))
    → map (λ (m : InstanceId). slice_get (instances l) m.0) (ks ++ k ∷ []) ≡ map Some (take (t + 1) (calls l))
told_more l ks t k low is h =
    let f : InstanceId → Option Call = λ m. slice_get (instances l) m.0 in
    let c = get_or (calls l) t (call 0 []) in
    let one : f k ≡ Some c = is ∙ slice_get-get_or (calls l) t (call 0 []) low in
    map-append f ks (k ∷ [])
    ∙ (ap (λ (ys : List (Option Call)). ys ++ f k ∷ []) h
    ∙ (ap (λ (y : Option Call). map Some (take t (calls l)) ++ y ∷ []) one
    ∙ (sym (map-append (λ (x : Call). Some x) (take t (calls l)) (c ∷ [])) ∙ ap (map (λ (x : Call). Some x)) (sym (take_more (calls l) t (call 0 []) low)))))

pub told_all : (l : Listing) (ks : List InstanceId) (t : ℕ) → length (calls l) ≤ t → map (λ (m : InstanceId). slice_get (instances l) m.0) ks ≡ map Some (take t (calls l)) → TellsTasks l ks
told_all l ks t done h = h ∙ ap (map (λ (x : Call). Some x)) (take_all t (calls l) done)

-- the call of a task, as it is read
pub own_call : (l : Listing) (t : TaskId) (tx : TxId) (given : List ℤ) → slice_get (tasks l) t.0 ≡ Some tx → given ≡ task_arguments l t → slice_get (calls l) t.0 ≡ Some (call tx.0 given)
own_call l t tx given own is = task_calls l t tx own ∙ ap (λ (xs : List ℤ). Some (call tx.0 xs)) (sym is)

-- its numbers are found where its instance stands
pub told_number : (l : Listing) (s : Shelf) (t number : ℕ) (c : Call) (q : Config) → s ≡ index (instances l) → slice_get (calls l) t ≡ Some c → q ≡ key c → number < length s.configs
    → get_or s.configs number nowhere ≡ q → slice_get (instances l) number ≡ slice_get (calls l) t
told_number l s t number c q is own same low found =
    let rows : s.configs ≡ map key (instances l) = ap (λ (x : Shelf). x.configs) is in
    key_at (instances l) number c (omega (arith, low, ap length rows)) (ap (λ (ps : List Config). config_at ps number) (sym rows) ∙ (found ∙ same)) ∙ sym own

pub low_number : (l : Listing) (s : Shelf) (number : ℕ) → limits_hold l ≡ true → s ≡ index (instances l) → number < length s.configs → number < 65536
low_number l s number limits is low =
    let rows : s.configs ≡ map key (instances l) = ap (λ (x : Shelf). x.configs) is in
    omega (arith, low, ap length rows, length-map (instances l) key, few_instances l, few_tasks l limits, length-map (calls l) (λ (c : Call). c.tx))

pub never_missing : (l : Listing) (s : Shelf) (t : ℕ) (c : Call) (q : Config) → names_hold l ≡ true → s ≡ index (instances l) → slice_get (calls l) t ≡ Some c → q ≡ key c → (Contains s.configs q → ⊥) → ⊥
never_missing l s t c q names is own same none =
    let there = key_in (instances l) c (instance_in l c (in_get (calls l) t c own) (callable_task l t c names own).declared) in
    none (subst (λ (x : Shelf). Contains x.configs q) (sym is) (subst (Contains (map key (instances l))) (sym same) there))
