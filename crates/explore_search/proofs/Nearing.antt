-- The configuration with the most tasks left, of those at which something shows.
use Rattle.std.proofs.Common.{◌≡◌, ℕ, zero, suc, ◌+◌, ◌<◌, ◌≤◌, List, [], ◌∷◌, ◌++◌, length, get_or, take, sum, sum_by, Option, Some, None, refl, sym, ap, subst, ⊎_elim, arith}
use Rattle.std.proofs.lemmas.List.{take_more}
use Rattle.std.proofs.lemmas.List.Sums.{sum_by-append, sum_by-cons}
use Rattle.std.proofs.lemmas.Bool.{cases_lt}
use Rattle.txn_programs.specs.declared.ast.TxId.{TxId}
use Rattle.explore_law.specs.declared.instance.InstanceId.{InstanceId}
use Rattle.txn_programs.specs.Listing.{Listing}
use Rattle.explore_law.specs.declared.sought.Sought.{Sought}
use Rattle.explore_law.specs.Finding.{ShowsAt, IsWayWhere}
use Rattle.explore_law.specs.Orders.{Config, Reached}
use Rattle.explore_law.specs.Ways.{IsWay}
use Rattle.explore_search.specs.Indexed.{config_at}
use Rattle.explore_search.specs.Nearest.{ByOrNone, IsNearest, IsNearestOrNone}
use Rattle.explore_search.proofs.Indexing.{at_contains}
use Rattle.explore_search.proofs.Fewest.{more_left}
use Rattle.std.specs.List.{Contains}

-- the sum of one more
pub sum_more : (xs : List ℕ) (i : ℕ) → i < length xs → sum (take (i + 1) xs) ≡ sum (take i xs) + get_or xs i 0
sum_more xs i low =
    let id : ℕ → ℕ = λ n. n in
    let x = get_or xs i 0 in
    let whole : sum_by id (take (i + 1) xs) ≡ sum_by id (take i xs ++ x ∷ []) = ap (sum_by id) (take_more xs i 0 low) in
    let parts : sum_by id (take i xs ++ x ∷ []) ≡ sum_by id (take i xs) + sum_by id (x ∷ []) = sum_by-append id (take i xs) (x ∷ []) in
    let last : sum_by id (x ∷ []) ≡ x + sum_by id [] = sum_by-cons id x [] in
    omega (arith, whole, parts, last)

-- a count is no more than the sum
pub count_in_sum : (xs : List ℕ) (i : ℕ) → get_or xs i 0 ≤ sum xs
count_in_sum [] zero = omega arith
count_in_sum [] (suc i) = omega arith
count_in_sum (x ∷ xs) zero = let e = sum_by-cons (λ (n : ℕ). n) x xs in omega (arith, e)
count_in_sum (x ∷ xs) (suc i) =
    let e = sum_by-cons (λ (n : ℕ). n) x xs in
    let rest = count_in_sum xs i in
    omega (arith, e, rest)

-- it shows by no instance
pub none_by : (l : Listing) (tx : TxId) (s : Sought) (p : Config) (r : Option InstanceId) → ByOrNone l tx s p r → ((k : InstanceId) → r ≡ Some k → ⊥) → ShowsAt l tx s p → ⊥
none_by l tx s p None h none = h
none_by l tx s p (Some k) h none = absurd (none k refl)

module _ (l : Listing) (tx : TxId) (s : Sought) (ps : List Config) where
  abbrev left_at : ℕ → ℕ
  left_at i = sum (config_at ps i).left

  -- how many tasks are left at the configuration that is known
  abbrev pub AreLeft : ℕ → Option (ℕ × InstanceId) → Type 0
  AreLeft most None = most ≡ 0
  AreLeft most (Some at) = most ≡ left_at at.0

  before_or_here : (i n : ℕ) → i < n + 1 → (P : ℕ → Type 0) → (i < n → P i) → P n → P i
  before_or_here i n low P before here =
      ⊎_elim (λ (h : i < n). before h) (λ (h : n ≤ i). let same : n ≡ i = omega (arith, low, h) in subst P same here) (cases_lt i n)

  -- one more at which no more tasks are left
  pub none_nearer : (n most : ℕ) (r : Option (ℕ × InstanceId)) → AreLeft most r → left_at n ≤ most → IsNearestOrNone l tx s ps n r → IsNearestOrNone l tx s ps (n + 1) r
  none_nearer n most None left less h = λ i low.
      before_or_here i n low (λ j. ShowsAt l tx s (config_at ps j) → ⊥) (λ b. h i b)
      (λ shows. let some = count_in_sum (config_at ps n).left shows.instance.0 in omega (arith, some, shows.shows.left, less, left))
  none_nearer n most (Some at) left less h =
      record {
        listed = omega (arith, h.listed);
        own = h.own;
        shows = h.shows;
        first = h.first;
        most = λ i low. before_or_here i n low (λ j. ShowsAt l tx s (config_at ps j) → left_at j ≤ left_at at.0) (λ b. h.most i b) (λ shows. omega (arith, less, left));
      }

  -- one more at which it does not show
  pub not_there : (n : ℕ) (r : Option (ℕ × InstanceId)) → (ShowsAt l tx s (config_at ps n) → ⊥) → IsNearestOrNone l tx s ps n r → IsNearestOrNone l tx s ps (n + 1) r
  not_there n None lacks h = λ i low. before_or_here i n low (λ j. ShowsAt l tx s (config_at ps j) → ⊥) (λ b. h i b) lacks
  not_there n (Some at) lacks h =
      record {
        listed = omega (arith, h.listed);
        own = h.own;
        shows = h.shows;
        first = h.first;
        most = λ i low. before_or_here i n low (λ j. ShowsAt l tx s (config_at ps j) → left_at j ≤ left_at at.0) (λ b. h.most i b) (λ shows. absurd (lacks shows));
      }

  -- one more at which it shows, and more tasks are left
  pub nearer : (n most : ℕ) (inst : InstanceId) (r : Option (ℕ × InstanceId)) → AreLeft most r → most < left_at n → ByOrNone l tx s (config_at ps n) (Some inst)
      → IsNearestOrNone l tx s ps n r → IsNearestOrNone l tx s ps (n + 1) (Some (n, inst))
  nearer n most inst None left more shows h =
      record {
        listed = omega arith;
        own = shows.0.0;
        shows = shows.0.1;
        first = shows.1;
        most = λ i low. before_or_here i n low (λ j. ShowsAt l tx s (config_at ps j) → left_at j ≤ left_at n) (λ b w. absurd (h i b w)) (λ w. omega arith);
      }
  nearer n most inst (Some at) left more shows h =
      record {
        listed = omega arith;
        own = shows.0.0;
        shows = shows.0.1;
        first = shows.1;
        most = λ i low.
            before_or_here i n low (λ j. ShowsAt l tx s (config_at ps j) → left_at j ≤ left_at n)
            (λ b w. let below = h.most i b w in omega (arith, below, left, more)) (λ w. omega arith);
      }

  -- the way to the nearest is no longer than any to where it shows
  pub way_to_nearest : (j : ℕ) (inst : InstanceId) (turns : List InstanceId) → ((p : Config) → Reached l p → Contains ps p) → IsNearest l tx s ps (length ps) j inst → IsWay l turns (config_at ps j)
      → IsWayWhere l tx s turns inst
  way_to_nearest j inst turns all h way =
      record {
        own = h.own;
        config = config_at ps j;
        leads = way.leads;
        shows = h.shows;
        first = λ before less own shows. h.first before less (own, shows);
        fewest = λ others q leads shows.
            let at = at_contains ps q (all q (record { turns = others; leads = leads })) in
            let here : ShowsAt l tx s (config_at ps at.0) = subst (ShowsAt l tx s) (sym at.2) shows in
            let most : left_at at.0 ≤ left_at j = h.most at.0 at.1 here in
            let same : left_at at.0 ≡ sum q.left = ap (λ (p : Config). sum p.left) at.2 in
            more_left l turns others (config_at ps j) q way.leads leads (omega (arith, most, same));
      }

  -- where it shows at no configuration that is listed, no order comes to where it does
  pub shows_nowhere : ((p : Config) → Reached l p → Contains ps p) → IsNearestOrNone l tx s ps (length ps) None → (p : Config) → Reached l p → ShowsAt l tx s p → ⊥
  shows_nowhere all h p reached shows =
      let at = at_contains ps p (all p reached) in
      h at.0 at.1 (subst (ShowsAt l tx s) (sym at.2) shows)
