-- Each instance can be called.
use Rattle.std.proofs.Common.{◌≡◌, ℕ, ◌<◌, ◌≤◌, true, ℤ, List, [], ◌∷◌, Some, None, length, get_or, refl, sym, ◌∙◌, ap, subst, arith}
use Rattle.std.specs.Prelude.{slice_get}
use Rattle.std.proofs.lemmas.Option.{slice_get-get_or}
use Rattle.txn_programs.specs.declared.arguments.Call.{Call}
use Rattle.txn_programs.specs.Limits.{limits_hold}
use Rattle.txn_programs.specs.Listing.{Listing, IsCallable, calls}
use Rattle.txn_programs.specs.Names.{names_hold}
use Rattle.txn_programs.proofs.Lawful.{few_tasks}
use Rattle.std.proofs.lemmas.List.{length-map}
use Rattle.explore_law.specs.declared.instance.InstanceId.{InstanceId}
use Rattle.explore_law.specs.Instances.{instances, instance_at}
use Rattle.explore_law.proofs.Instances.{few_instances, instance_callable, instance_gets}

-- what is read there is the instance
pub stands : (l : Listing) (cs : List Call) (k : ℕ) (c : Call) → cs ≡ instances l → k < length cs → c ≡ get_or cs k c → slice_get (instances l) k ≡ Some c
stands l cs k c same low is = subst (λ (xs : List Call). slice_get xs k ≡ Some c) same (slice_get-get_or cs k c low ∙ ap Some (sym is))

pub read_callable : (l : Listing) (cs : List Call) (k : ℕ) (c : Call) → names_hold l ≡ true → cs ≡ instances l → k < length cs → c ≡ get_or cs k c → IsCallable l c.tx c.arguments
read_callable l cs k c names same low is = instance_callable l k c names (stands l cs k c same low is)

pub own_transaction : (l : Listing) (cs : List Call) (inst : InstanceId) (d : Call) → cs ≡ instances l → inst.0 < length cs → (instance_at l inst).tx ≡ (get_or cs inst.0 d).tx
own_transaction l cs inst d same low =
    let there : slice_get (instances l) inst.0 ≡ Some (get_or cs inst.0 d) = subst (λ (xs : List Call). slice_get xs inst.0 ≡ Some (get_or cs inst.0 d)) same (slice_get-get_or cs inst.0 d low) in
    ap (λ (x : Call). x.tx) (instance_gets l inst (get_or cs inst.0 d) there)

pub declared : (l : Listing) (cs : List Call) (inst : InstanceId) (d : Call) → names_hold l ≡ true → cs ≡ instances l → inst.0 < length cs → (get_or cs inst.0 d).tx.0 < length l.transactions
declared l cs inst d names same low =
    let there : slice_get (instances l) inst.0 ≡ Some (get_or cs inst.0 d) = subst (λ (xs : List Call). slice_get xs inst.0 ≡ Some (get_or cs inst.0 d)) same (slice_get-get_or cs inst.0 d low) in
    (instance_callable l inst.0 (get_or cs inst.0 d) names there).declared

-- there are few
pub few : (l : Listing) (cs : List Call) → limits_hold l ≡ true → cs ≡ instances l → length cs ≤ 65536
few l cs limits same = omega (arith, ap length same, few_instances l, few_tasks l limits, length-map (calls l) (λ (c : Call). c.tx))

-- with its arguments as they are given
pub callable_by : (l : Listing) (cs : List Call) (k : ℕ) (c : Call) (given : List ℤ) → names_hold l ≡ true → cs ≡ instances l → k < length cs → c ≡ get_or cs k c → given ≡ c.arguments → IsCallable l c.tx given
callable_by l cs k c given names same low is own = subst (IsCallable l c.tx) (sym own) (read_callable l cs k c names same low is)

pub first_callable : (l : Listing) (cs : List Call) (c : Call) (given : List ℤ) → names_hold l ≡ true → cs ≡ instances l → Some c ≡ slice_get cs 0 → given ≡ c.arguments → IsCallable l c.tx given
first_callable l cs c given names same first own = subst (IsCallable l c.tx) (sym own) (instance_callable l 0 c names (subst (λ (xs : List Call). slice_get xs 0 ≡ Some c) same (sym first)))

pub none_first : (cs : List Call) → None ≡ slice_get cs 0 → length cs ≡ 0
none_first [] is = refl
none_first (c ∷ cs) is = absurd (cc)
