-- Configs that are looked up by buckets.
use Rattle.std.specs.Prelude.{Bool, false, is_some, IfNone, Option, Some, None}
use Rattle.std.proofs.lemmas.Bool.{true≢false}
use Rattle.std.proofs.Common.{◌≡◌, ◌≢◌, ℕ, ◌+◌, ◌-◌, ◌<◌, ◌≤◌, ℤ, List, [], ◌∷◌, ◌++◌, length, get_or, set, sym, ◌∙◌, ap, subst, ⊎_elim, arith}
use Rattle.std.specs.List.{Contains}
use Rattle.std.proofs.lemmas.List.{length_push, get_or_append_left, get_or-set_same, get_or-set_other, length-set}
use Rattle.std.proofs.lemmas.Option.{slice_get-get_or, get_or_from_slice_get}
use Rattle.std.proofs.Math.Seq.{get_or-append_seam}
use Rattle.std.proofs.lemmas.Bool.{cases_lt, cases_eq}
use Rattle.explore_law.specs.Orders.{Config}
use Rattle.explore_search.specs.Bucket.{bucket_of}
use Rattle.explore_search.specs.Shelf.{nowhere, config}
use Rattle.explore_search.specs.Indexed.{config_at, bucket_at, LeadsBelow, LeadsToAll, IsLinked, IsIndexed}

pub any_default : {X : Type 0} (ps : List X) (i : ℕ) (p q : X) → i < length ps → get_or ps i p ≡ get_or ps i q
any_default ps i p q h = get_or_from_slice_get ps i (get_or ps i q) p (slice_get-get_or ps i q h)

pub config_is : (p : Config) (xs : List ℤ) (ys : List ℕ) → p.state ≡ xs → p.left ≡ ys → p ≡ config xs ys
config_is p xs ys e f = ap (λ (l : List ℤ). config l p.left) e ∙ ap (config xs) f

pub contains_at : (ps : List Config) (i : ℕ) (p : Config) → i < length ps → config_at ps i ≡ p → Contains ps p
contains_at ps i p h e = (i, h, any_default ps i p nowhere h ∙ e)

pub at_contains : (ps : List Config) (p : Config) → Contains ps p → (i : ℕ) × (i < length ps) × (config_at ps i ≡ p)
at_contains ps p (i, h, e) = (i, h, any_default ps i nowhere p h ∙ e)

-- the bucket of a configuration that is there is the same behind a push
pub bucket_kept : (buckets : ℕ) (ps : List Config) (p : Config) (i : ℕ) → i < length ps → bucket_at buckets (ps ++ p ∷ []) i ≡ bucket_at buckets ps i
bucket_kept buckets ps p i h = ap (λ (q : Config). bucket_of buckets q.state q.left) (get_or_append_left ps (p ∷ []) nowhere i h)

pub bucket_last : (buckets : ℕ) (ps : List Config) (p : Config) → bucket_at buckets (ps ++ p ∷ []) (length ps) ≡ bucket_of buckets p.state p.left
bucket_last buckets ps p = ap (λ (q : Config). bucket_of buckets q.state q.left) (get_or-append_seam ps p [] nowhere)

-- behind a push all is found as before, below the configuration that was pushed
pub leads_kept : (buckets : ℕ) (ps : List Config) (p : Config) (n next b : ℕ) → n ≤ length ps → LeadsBelow buckets ps n next b → LeadsBelow buckets (ps ++ p ∷ []) n next b
leads_kept buckets ps p n next b h leads =
    record {
      within = leads.within;
      own = λ some. bucket_kept buckets ps p (next - 1) (omega (arith, leads.within)) ∙ leads.own some;
      all = λ j low e. leads.all j low (sym (bucket_kept buckets ps p j (omega arith)) ∙ e);
    }

-- and with it, in another bucket
pub leads_past : (buckets : ℕ) (ps : List Config) (p : Config) (next b : ℕ) → bucket_of buckets p.state p.left ≢ b → LeadsToAll buckets ps next b → LeadsToAll buckets (ps ++ p ∷ []) next b
leads_past buckets ps p next b other leads =
    let size = length_push ps p in
    record {
      within = omega (arith, leads.within, size);
      own = λ some. bucket_kept buckets ps p (next - 1) (omega (arith, leads.within)) ∙ leads.own some;
      all = λ j low e.
          ⊎_elim (λ (h : j < length ps). leads.all j h (sym (bucket_kept buckets ps p j h) ∙ e))
          (λ (h : length ps ≤ j).
          let same : j ≡ length ps = omega (arith, size, low) in
          absurd (other (sym (bucket_last buckets ps p) ∙ ap (bucket_at buckets (ps ++ p ∷ [])) (sym same) ∙ e)))
          (cases_lt j (length ps));
    }

-- and to it, in its own
pub leads_new : (buckets : ℕ) (ps : List Config) (p : Config) → LeadsToAll buckets (ps ++ p ∷ []) (length ps + 1) (bucket_of buckets p.state p.left)
leads_new buckets ps p =
    let size = length_push ps p in
    record {
      within = omega (arith, size);
      own = λ some. ap (bucket_at buckets (ps ++ p ∷ [])) (omega arith) ∙ bucket_last buckets ps p;
      all = λ j low e. omega (arith, size, low);
    }

linked_more : (buckets : ℕ) (ps : List Config) (links : List ℕ) (p : Config) (head : ℕ) → LeadsToAll buckets ps head (bucket_of buckets p.state p.left) → IsLinked buckets ps links → IsLinked buckets (ps ++ p ∷ []) (links ++ head ∷ [])
linked_more buckets ps links p head leads linked =
    let size = length_push ps p in
    let sizes = length_push links head in
    let each = linked.each in
    let qs = ps ++ p ∷ [] in
    record {
      each = omega (arith, size, sizes, each);
      back = λ i low.
          ⊎_elim (λ (h : i < length ps).
          let before : LeadsBelow buckets qs i (get_or links i 0) (bucket_at buckets ps i) = leads_kept buckets ps p i (get_or links i 0) (bucket_at buckets ps i) (omega arith) (linked.back i h) in
          let own : LeadsBelow buckets qs i (get_or links i 0) (bucket_at buckets qs i) = subst (LeadsBelow buckets qs i (get_or links i 0)) (sym (bucket_kept buckets ps p i h)) before in
          subst (λ (next : ℕ). LeadsBelow buckets qs i next (bucket_at buckets qs i)) (sym (get_or_append_left links (head ∷ []) 0 i (omega (arith, each, h)))) own)
          (λ (h : length ps ≤ i).
          let same : i ≡ length ps = omega (arith, size, low) in
          let last : get_or (links ++ head ∷ []) (length ps) 0 ≡ head = ap (λ (k : ℕ). get_or (links ++ head ∷ []) k 0) (sym each) ∙ get_or-append_seam links head [] 0 in
          let before : LeadsBelow buckets qs (length ps) head (bucket_of buckets p.state p.left) = leads_kept buckets ps p (length ps) head (bucket_of buckets p.state p.left) (omega arith) leads in
          let own : LeadsBelow buckets qs (length ps) head (bucket_at buckets qs (length ps)) = subst (LeadsBelow buckets qs (length ps) head) (sym (bucket_last buckets ps p)) before in
          let here : LeadsBelow buckets qs (length ps) (get_or (links ++ head ∷ []) (length ps) 0) (bucket_at buckets qs (length ps)) = subst (λ (next : ℕ). LeadsBelow buckets qs (length ps) next (bucket_at buckets qs (length ps))) (sym last) own in
          subst (λ (k : ℕ). LeadsBelow buckets qs k (get_or (links ++ head ∷ []) k 0) (bucket_at buckets qs k)) (sym same) here)
          (cases_lt i (length ps));
    }

once_more : (ps : List Config) (p : Config) → (Contains ps p → ⊥) → ((i j : ℕ) → i < length ps → j < length ps → config_at ps i ≡ config_at ps j → i ≡ j)
    → (i j : ℕ) → i < length (ps ++ p ∷ []) → j < length (ps ++ p ∷ []) → config_at (ps ++ p ∷ []) i ≡ config_at (ps ++ p ∷ []) j → i ≡ j
once_more ps p new once i j low high e =
    let size = length_push ps p in
    let last = get_or-append_seam ps p [] nowhere in
    ⊎_elim
    (λ (h : i < length ps).
    let a = get_or_append_left ps (p ∷ []) nowhere i h in
    ⊎_elim
    (λ (k : j < length ps). once i j h k (sym a ∙ e ∙ get_or_append_left ps (p ∷ []) nowhere j k))
    (λ (k : length ps ≤ j).
    let same : j ≡ length ps = omega (arith, size, high) in
    absurd (new (contains_at ps i p h (sym a ∙ e ∙ ap (config_at (ps ++ p ∷ [])) same ∙ last))))
    (cases_lt j (length ps)))
    (λ (h : length ps ≤ i).
    let same : i ≡ length ps = omega (arith, size, low) in
    ⊎_elim
    (λ (k : j < length ps).
    let b = get_or_append_left ps (p ∷ []) nowhere j k in
    absurd (new (contains_at ps j p k (sym b ∙ sym e ∙ ap (config_at (ps ++ p ∷ [])) same ∙ last))))
    (λ (k : length ps ≤ j). omega (arith, size, high, same))
    (cases_lt j (length ps)))
    (cases_lt i (length ps))

-- a configuration that is not listed is pushed, and its bucket leads to it
pub indexed_more : (ps : List Config) (heads links : List ℕ) (p : Config) (b : ℕ) → b < length heads → b ≡ bucket_of (length heads) p.state p.left → (Contains ps p → ⊥) → IsIndexed ps heads links
    → IsIndexed (ps ++ p ∷ []) (set heads b (length ps + 1)) (links ++ get_or heads b 0 ∷ [])
indexed_more ps heads links p b low own new h =
    let n = length heads in
    let size : length (set heads b (length ps + 1)) ≡ n = length-set heads b (length ps + 1) in
    let qs = ps ++ p ∷ [] in
    let leads : LeadsToAll n ps (get_or heads b 0) (bucket_of n p.state p.left) = subst (LeadsToAll n ps (get_or heads b 0)) own (h.leads b low) in
    let linked : IsLinked n qs (links ++ get_or heads b 0 ∷ []) = linked_more n ps links p (get_or heads b 0) leads h.linked in
    let heads_at : (k : ℕ) → k < n → LeadsToAll n qs (get_or (set heads b (length ps + 1)) k 0) k = λ k within.
    ⊎_elim
    (λ (e : k ≡ b).
    let at : get_or (set heads b (length ps + 1)) b 0 ≡ length ps + 1 = get_or-set_same heads b (length ps + 1) 0 low in
    let new : LeadsToAll n qs (length ps + 1) b = subst (LeadsToAll n qs (length ps + 1)) (sym own) (leads_new n ps p) in
    let here : LeadsToAll n qs (get_or (set heads b (length ps + 1)) b 0) b = subst (λ (next : ℕ). LeadsToAll n qs next b) (sym at) new in
    subst (λ (c : ℕ). LeadsToAll n qs (get_or (set heads b (length ps + 1)) c 0) c) (sym e) here)
    (λ (e : k ≢ b).
    let at : get_or (set heads b (length ps + 1)) k 0 ≡ get_or heads k 0 = get_or-set_other heads b k (length ps + 1) 0 e in
    subst (λ (next : ℕ). LeadsToAll n qs next k) (sym at) (leads_past n ps p (get_or heads k 0) k (λ same. e (sym same ∙ sym own)) (h.leads k within)))
    (cases_eq k b) in
    record {
      some = omega (arith, size, h.some);
      leads = λ k within. subst (λ (m : ℕ). LeadsToAll m qs (get_or (set heads b (length ps + 1)) k 0) k) (sym size) (heads_at k (omega (arith, size, within)));
      linked = subst (λ (m : ℕ). IsLinked m qs (links ++ get_or heads b 0 ∷ [])) (sym size) linked;
      once = once_more ps p new h.once;
    }

-- what holds where there is none
pub none_from : {X P : Type 0} (r : Option X) (some : Bool) → some ≡ is_some r → some ≡ false → IfNone r P → P
none_from None some is none h = h
none_from (Some x) some is none h = absurd (true≢false (sym is ∙ none))
