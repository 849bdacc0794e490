-- What is found when the search is done.
use Rattle.std.proofs.Common.{◌≡◌, ℕ, zero, suc, ◌+◌, ◌<◌, ◌≤◌, true, false, List, [], ◌∷◌, ◌++◌, length, map, replicate, get_or, Some, refl, sym, ◌∙◌, ap, subst, inl, inr, ⊎_elim, arith}
use Rattle.std.specs.Prelude.{All, slice_get, option_map}
use Rattle.std.specs.List.{Contains}
use Rattle.std.specs.List.Sorted.{IsPermutation, IsSorted}
use Rattle.std.proofs.lemmas.List.{length-map, get_or-map, length-replicate}
use Rattle.std.proofs.lemmas.List.Elements.{All-from_get_or}
use Rattle.std.proofs.lemmas.List.Edits.{swapped_from_swap, length-swap}
use Rattle.std.specs.List.{swap}
use Rattle.std.proofs.lemmas.List.Sorted.{IsPermutation-keeps, IsPermutation-sym, Contains-permutation}
use Rattle.std.proofs.lemmas.Option.{slice_get_within, slice_get-get_or, slice_get-map, get_or_from_slice_get}
use Rattle.std.proofs.lemmas.Bool.{cases_lt, cases_eq}
use Rattle.txn_programs.specs.Listing.{Listing, calls}
use Rattle.explore_law.specs.declared.found.Kinds.{Kinds}
use Rattle.explore_law.specs.declared.found.Found.{Found}
use Rattle.explore_law.specs.declared.instance.InstanceId.{InstanceId}
use Rattle.explore_law.specs.Instances.{instances}
use Rattle.explore_law.specs.Orders.{Config, first_config, Reached}
use Rattle.explore_law.specs.Explored.{Kind, Returning, Throwing, Overflowing, DividingByZero, GoingOutside, Breaking, shows, IsOnce, ReachesMore, Explored, end_config, end_configs, config_cmp}
use Rattle.explore_law.specs.declared.found.End.{End}
use Rattle.std.specs.Ordering.{is_lt}
use Rattle.explore_search.specs.Shelf.{Shelf, Adds, nowhere}
use Rattle.explore_search.specs.Indexed.{config_at}
use Rattle.explore_search.proofs.Indexing.{contains_at, at_contains, any_default}
use Rattle.explore_search.specs.Noting.{none_seen}
use Rattle.explore_search.specs.Searching.{IsTried, IsSearched, IsUnderWay, first_shelf}
use Rattle.explore_law.proofs.Instances.{length-counted}
use Rattle.explore_search.proofs.Whole.{reached_first, all_reached, all_seen, all_ends}
use Rattle.explore_search.proofs.Trying.{ended_on}

-- a list that lists nothing twice, by configurations
abbrev pub Apart : List Config → Type 0
Apart ps = (i j : ℕ) → i < length ps → j < length ps → get_or ps i nowhere ≡ get_or ps j nowhere → i ≡ j

pub once_from_apart : (ps : List Config) → Apart ps → IsOnce ps
once_from_apart ps h i j p e f = h i j (slice_get_within ps i p e) (slice_get_within ps j p f) (get_or_from_slice_get ps i p nowhere e ∙ sym (get_or_from_slice_get ps j p nowhere f))

apart_swapped : (n a b : ℕ) (f g : ℕ → Config) → a < n → b < n → ((i j : ℕ) → i < n → j < n → f i ≡ f j → i ≡ j) → g a ≡ f b → g b ≡ f a → ((m : ℕ) → (m ≡ a → ⊥) → (m ≡ b → ⊥) → g m ≡ f m)
    → (i j : ℕ) → i < n → j < n → g i ≡ g j → i ≡ j
apart_swapped n a b f g la lb h ga gb other i j li lj e =
    ⊎_elim
    (λ (ia : i ≡ a).
    let gi : g i ≡ f b = ap g ia ∙ ga in
    ⊎_elim (λ (ja : j ≡ a). ia ∙ sym ja)
    (λ (ja : j ≡ a → ⊥). ⊎_elim
    (λ (jb : j ≡ b). let same : b ≡ a = h b a lb la (sym gi ∙ e ∙ ap g jb ∙ gb) in ia ∙ sym same ∙ sym jb)
    (λ (jb : j ≡ b → ⊥). absurd (jb (h j b lj lb (sym (other j ja jb) ∙ sym e ∙ gi))))
    (cases_eq j b))
    (cases_eq j a))
    (λ (ia : i ≡ a → ⊥). ⊎_elim
    (λ (ib : i ≡ b).
    let gi : g i ≡ f a = ap g ib ∙ gb in
    ⊎_elim (λ (ja : j ≡ a). let same : a ≡ b = h a b la lb (sym gi ∙ e ∙ ap g ja ∙ ga) in ib ∙ sym same ∙ sym ja)
    (λ (ja : j ≡ a → ⊥). ⊎_elim (λ (jb : j ≡ b). ib ∙ sym jb) (λ (jb : j ≡ b → ⊥). absurd (ja (h j a lj la (sym (other j ja jb) ∙ sym e ∙ gi)))) (cases_eq j b))
    (cases_eq j a))
    (λ (ib : i ≡ b → ⊥).
    let gi = other i ia ib in
    ⊎_elim (λ (ja : j ≡ a). absurd (ib (h i b li lb (sym gi ∙ e ∙ ap g ja ∙ ga))))
    (λ (ja : j ≡ a → ⊥). ⊎_elim (λ (jb : j ≡ b). absurd (ia (h i a li la (sym gi ∙ e ∙ ap g jb ∙ gb)))) (λ (jb : j ≡ b → ⊥). h i j li lj (sym gi ∙ e ∙ other j ja jb)) (cases_eq j b))
    (cases_eq j a))
    (cases_eq i b))
    (cases_eq i a)

-- the ends' configurations, before they are put in order
numbered : (ps : List Config) (ends : List ℕ) (i : ℕ) → i < length ends → get_or (map (config_at ps) ends) i nowhere ≡ config_at ps (get_or ends i 0)
numbered ps [] i h = absurd (omega arith)
numbered ps (x ∷ ends) zero h = refl
numbered ps (x ∷ ends) (suc i) h = numbered ps ends i (omega arith)

ends_low : (l : Listing) (ps : List Config) (kinds : List Kinds) (ends : List ℕ) (c k : ℕ) → IsSearched l ps kinds ends c k → (i : ℕ) → i < length ends → get_or ends i 0 < c
ends_low l ps kinds ends c k s i h = ((s.ends_are (get_or ends i 0)).0 (i, h, any_default ends i (get_or ends i 0) 0 h)).0

pub ends_listed : (l : Listing) (ps : List Config) (kinds : List Kinds) (ends : List ℕ) (k : ℕ) → IsSearched l ps kinds ends (length ps) k → All (λ (i : ℕ). i < length ps) ends
ends_listed l ps kinds ends k s = All-from_get_or (λ (i : ℕ). i < length ps) ends 0 (λ i h. ends_low l ps kinds ends (length ps) k s i h)

rising_apart : (ends : List ℕ) → ((i j : ℕ) → i < j → j < length ends → get_or ends i 0 < get_or ends j 0) → (i j : ℕ) → i < length ends → j < length ends → get_or ends i 0 ≡ get_or ends j 0 → i ≡ j
rising_apart ends up i j li lj e =
    ⊎_elim (λ (h : i < j). absurd (let low = up i j h lj in omega (arith, low, e)))
    (λ (h : j ≤ i). ⊎_elim (λ (k : j < i). absurd (let low = up j i k li in omega (arith, low, e))) (λ (k : i ≤ j). omega (arith, h, k)) (cases_lt j i))
    (cases_lt i j)

ends_apart : (l : Listing) (ps : List Config) (kinds : List Kinds) (ends : List ℕ) (k : ℕ) → ((i j : ℕ) → i < length ps → j < length ps → config_at ps i ≡ config_at ps j → i ≡ j)
    → IsSearched l ps kinds ends (length ps) k → Apart (map (config_at ps) ends)
ends_apart l ps kinds ends k once s i j li lj e =
    let size = length-map ends (config_at ps) in
    let a : i < length ends = omega (arith, size, li) in
    let b : j < length ends = omega (arith, size, lj) in
    let same = once (get_or ends i 0) (get_or ends j 0) (ends_low l ps kinds ends (length ps) k s i a) (ends_low l ps kinds ends (length ps) k s j b)
    (sym (numbered ps ends i a) ∙ e ∙ numbered ps ends j b) in
    rising_apart ends s.ascend i j a b same

pub apart_from_once : (ps : List Config) → IsOnce ps → Apart ps
apart_from_once ps h i j li lj e = h i j (get_or ps i nowhere) (slice_get-get_or ps i nowhere li) (slice_get-get_or ps j nowhere lj ∙ ap Some (sym e))

-- a list in another order lists nothing twice either
pub apart_reordered : (ps qs : List Config) → IsPermutation ps qs → Apart ps → Apart qs
apart_reordered ps qs moved h =
    IsPermutation-keeps ps Apart h
    (λ xs a b la lb before.
    let size = length-swap xs a b in
    let sw = swapped_from_swap xs (swap xs a b) a b nowhere la lb refl in
    λ i j li lj e.
    apart_swapped (length xs) a b (λ k. get_or xs k nowhere) (λ k. get_or (swap xs a b) k nowhere) la lb before sw.0 sw.1 sw.2 i j (omega (arith, size, li)) (omega (arith, size, lj)) e)
    qs moved

pub contained : (ps : List Config) (ends : List ℕ) (p : Config) → Contains (map (config_at ps) ends) p → (i : ℕ) × (Contains ends i) × (config_at ps i ≡ p)
contained ps ends p h =
    let at = at_contains (map (config_at ps) ends) p h in
    let low : at.0 < length ends = omega (arith, at.1, length-map ends (config_at ps)) in
    (get_or ends at.0 0, (at.0, low, any_default ends at.0 (get_or ends at.0 0) 0 low), sym (numbered ps ends at.0 low) ∙ at.2)

contains_numbered : (ps : List Config) (ends : List ℕ) (p : Config) (i : ℕ) → Contains ends i → config_at ps i ≡ p → Contains (map (config_at ps) ends) p
contains_numbered ps ends p i (j, low, e) is =
    contains_at (map (config_at ps) ends) j p (omega (arith, low, length-map ends (config_at ps)))
    (numbered ps ends j low ∙ ap (config_at ps) (any_default ends j 0 i low ∙ e) ∙ is)

missing_at : (ps : List Config) (numbers : List ℕ) (p : Config) (i : ℕ) → Contains numbers i → config_at ps i ≡ p → ((j d : ℕ) → j < length numbers → config_at ps (get_or numbers j d) ≡ p → ⊥) → ⊥
missing_at ps numbers p i (j, low, e) is none = none j i low (ap (config_at ps) e ∙ is)

-- a listed end is the configuration of one of the numbers
pub never_missing : (ps : List Config) (numbers : List ℕ) (es : List End) (k : ℕ) (e : End) → IsPermutation (map (config_at ps) numbers) (map end_config es) → slice_get es k ≡ Some e
    → ((j d : ℕ) → j < length numbers → config_at ps (get_or numbers j d) ≡ end_config e → ⊥) → ⊥
never_missing ps numbers es k e moved is none =
    let p = end_config e in
    let listed : slice_get (map end_config es) k ≡ Some p = slice_get-map end_config es k ∙ ap (option_map end_config) is in
    let there : Contains (map end_config es) p = contains_at (map end_config es) k p (slice_get_within (map end_config es) k p listed) (get_or_from_slice_get (map end_config es) k p nowhere listed) in
    let here : Contains (map (config_at ps) numbers) p = Contains-permutation (map end_config es) (map (config_at ps) numbers) p (IsPermutation-sym (map (config_at ps) numbers) (map end_config es) moved) there in
    let at = contained ps numbers p here in
    missing_at ps numbers p at.0 at.1 at.2 none

-- the answer of a search that is done is exact
pub explored : (l : Listing) (limit : ℕ) (s : Shelf) (kinds : List Kinds) (ends : List ℕ) (f : Found) → IsUnderWay l limit s kinds ends (length s.configs) 0 → IsOnce s.configs
    → f.states ≡ length s.configs → f.kinds.items ≡ kinds → IsPermutation (map (config_at s.configs) ends) (end_configs f) → IsSorted config_cmp (end_configs f) → Explored l f
explored l limit s kinds ends f h once states same moved sorted =
    let d = h.searched in
    let ps = s.configs in
    record {
      configs = ps;
      reached = record { once = once; all = all_reached l ps kinds ends d };
      states = states;
      each = ap length same ∙ d.each;
      kinds = λ tx ks kind is.
          let at : slice_get kinds tx.0 ≡ Some ks = sym (ap (λ (xs : List Kinds). slice_get xs tx.0) same) ∙ is in
          let own : get_or kinds tx.0 none_seen ≡ ks = get_or_from_slice_get kinds tx.0 ks none_seen at in
          let seen = all_seen l ps kinds ends d tx kind (slice_get_within kinds tx.0 ks at) in
          (λ e. seen.0 (ap (λ (k : Kinds). shows k kind) own ∙ e), λ w. ap (λ (k : Kinds). shows k kind) (sym own) ∙ seen.1 w);
      ends = λ p. (
        λ c. let at = contained ps ends p (Contains-permutation (end_configs f) (map (config_at ps) ends) p (IsPermutation-sym (map (config_at ps) ends) (end_configs f) moved) c) in (all_ends l ps kinds ends d p).0 at,
        λ r. let at = (all_ends l ps kinds ends d p).1 r in Contains-permutation (map (config_at ps) ends) (end_configs f) p moved (contains_numbered ps ends p at.0 at.1 at.2),
      );
      ends_once = once_from_apart (end_configs f) (apart_reordered (map (config_at ps) ends) (end_configs f) moved (ends_apart l ps kinds ends 0 (apart_from_once ps once) d));
      ends_ascend = sorted;
    }

-- the start: the first configuration alone, and no outcome
first_only : (l : Listing) (i : ℕ) → i < 1 → config_at (first_config l ∷ []) i ≡ first_config l
first_only l zero h = refl
first_only l (suc i) h = absurd (omega arith)

unset : (n i : ℕ) → get_or (replicate n false) i false ≡ true → ⊥
unset zero i h = absurd (cc)
unset (suc n) zero h = absurd (cc)
unset (suc n) (suc i) h = unset n i h

none_shown : (n k : ℕ) (kind : Kind) → shows (get_or (replicate n none_seen) k none_seen) kind ≡ true → ⊥
none_shown zero k Returning h = absurd (cc)
none_shown zero k Throwing h = absurd (cc)
none_shown zero k Overflowing h = absurd (cc)
none_shown zero k DividingByZero h = absurd (cc)
none_shown zero k GoingOutside h = absurd (cc)
none_shown zero k (Breaking id) h = unset 64 id.0 h
none_shown (suc n) zero Returning h = absurd (cc)
none_shown (suc n) zero Throwing h = absurd (cc)
none_shown (suc n) zero Overflowing h = absurd (cc)
none_shown (suc n) zero DividingByZero h = absurd (cc)
none_shown (suc n) zero GoingOutside h = absurd (cc)
none_shown (suc n) zero (Breaking id) h = unset 64 id.0 h
none_shown (suc n) (suc k) kind h = none_shown n k kind h

none_tried : (i : ℕ) (inst : InstanceId) → IsTried 0 0 i inst → ⊥
none_tried i inst (inl h) = absurd (omega arith)
none_tried i inst (inr (e, h)) = absurd (omega arith)

pub at_start : (l : Listing) (limit : ℕ) (kinds : List Kinds) → 0 < limit → limit ≤ 16777216 → kinds ≡ replicate (length l.transactions) none_seen → IsUnderWay l limit (first_shelf l) kinds [] 0 0
at_start l limit kinds some small none =
    let ps = first_config l ∷ [] in
    record {
      searched = record {
        first = contains_at ps 0 (first_config l) (omega arith) refl;
        reached = λ i h. subst (Reached l) (sym (first_only l i h)) (reached_first l);
        closed = λ i inst h tried turn. absurd (none_tried i inst tried);
        each = ap length none ∙ length-replicate (length l.transactions) none_seen;
        kinds_are = λ tx kind known.
            (λ h. absurd (none_shown (length l.transactions) tx.0 kind (sym (ap (λ (ks : List Kinds). shows (get_or ks tx.0 none_seen) kind) none) ∙ h)), λ w. absurd (none_tried w.i w.instance w.tried));
        ends_are = λ i. (λ h. absurd (let at : h.0 < 0 = h.1 in omega (arith, at)), λ e. absurd (let at : i < 0 = e.0 in omega (arith, at)));
        ascend = λ i j less low. absurd (omega arith);
      };
      variables = refl;
      counts = refl;
      sized = λ i h.
          let at = first_only l i h in
          (ap (λ (p : Config). length p.state) at, ap (λ (p : Config). length p.left) at ∙ length-counted l (calls l));
      few = omega arith;
      small = small;
    }

pub one_reached : (l : Listing) → ReachesMore l 0
one_reached l =
    record {
      configs = first_config l ∷ [];
      once = once_from_apart (first_config l ∷ []) (λ i j li lj e. let a : i < 1 = li in let b : j < 1 = lj in omega (arith, a, b));
      reached = λ p h. let at = at_contains (first_config l ∷ []) p h in subst (Reached l) (sym (first_only l at.0 at.1) ∙ at.2) (reached_first l);
      more = omega arith;
    }

-- without an instance the first configuration is the end
pub alone : (l : Listing) (limit : ℕ) (s : Shelf) (kinds : List Kinds) → s ≡ first_shelf l → length (instances l) ≡ 0 → IsUnderWay l limit s kinds [] 0 0 → IsUnderWay l limit s kinds (0 ∷ []) (length s.configs) 0
alone l limit s kinds is none h =
    let one : length s.configs ≡ 1 = ap (λ (t : Shelf). length t.configs) is in
    subst (λ (c : ℕ). IsUnderWay l limit s kinds (0 ∷ []) c 0) (sym one) (ended_on l limit s kinds [] 0 0 (sym none) (omega (arith, one)) (λ moved. omega (arith, moved.before)) h)

abbrev shelf : ℕ → ℕ → List Config → Shelf
shelf n m ps = record { variables = n; counts = m; configs = ps }

pub first_is : (l : Listing) (old new : Shelf) → old ≡ record { variables = length l.initial; counts = length (instances l); configs = [] } → Adds old new (first_config l) → new ≡ first_shelf l
first_is l old new is adds =
    let empty : old.configs ≡ [] = ap (λ (s : Shelf). s.configs) is in
    let configs : new.configs ≡ first_config l ∷ [] =
    ⊎_elim (λ w. absurd (let none : w.0.0 < 0 = subst (λ (ps : List Config). w.0.0 < length ps) empty w.0.1 in omega (arith, none)))
    (λ w. w.1 ∙ ap (λ (ps : List Config). ps ++ first_config l ∷ []) empty) adds.added in
    let variables : new.variables ≡ length l.initial = adds.variables ∙ ap (λ (s : Shelf). s.variables) is in
    let counts : new.counts ≡ length (instances l) = adds.counts ∙ ap (λ (s : Shelf). s.counts) is in
    ap (λ (n : ℕ). shelf n new.counts new.configs) variables ∙ ap (λ (n : ℕ). shelf (length l.initial) n new.configs) counts ∙ ap (shelf (length l.initial) (length (instances l))) configs

pub sorted_configs : (es : List End) → ((k : ℕ) (d : End) → 0 ≤ k → k + 1 < length es → is_lt (config_cmp (end_config (get_or es (k + 1) d)) (end_config (get_or es k d))) ≡ false) → IsSorted config_cmp (map end_config es)
sorted_configs [] h k d low high = absurd (omega arith)
sorted_configs (e ∷ es) h k d low high =
    let less : k + 1 < length (e ∷ es) = omega (arith, high, length-map (e ∷ es) end_config) in
    let a = get_or-map end_config (e ∷ es) (k + 1) e d less in
    let b = get_or-map end_config (e ∷ es) k e d (omega (arith, less)) in
    let one : is_lt (config_cmp (end_config (get_or (e ∷ es) (k + 1) e)) (get_or (map end_config (e ∷ es)) k d)) ≡ false = subst (λ (q : Config). is_lt (config_cmp (end_config (get_or (e ∷ es) (k + 1) e)) q) ≡ false) (sym b) (h k e low less) in
    subst (λ (p : Config). is_lt (config_cmp p (get_or (map end_config (e ∷ es)) k d)) ≡ false) (sym a) one
