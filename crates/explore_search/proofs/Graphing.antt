-- The graph of all orders, while it is made.
use Rattle.std.proofs.Common.{◌≡◌, ℕ, zero, suc, ◌+◌, ◌<◌, ◌≤◌, List, [], ◌∷◌, ◌++◌, length, map, take, get_or, Option, Some, None, refl, sym, ◌∙◌, ap, subst, ⊎_elim, arith}
use Rattle.std.specs.Prelude.{All, slice_get}
use Rattle.std.specs.List.{Contains, range_with_len}
use Rattle.std.specs.List.Sorted.{IsPermutation, IsSorted}
use Rattle.std.proofs.lemmas.List.{length-map, get_or-map, map-append, length_push, get_or_append_left, take_more, take_all}
use Rattle.std.proofs.lemmas.List.Elements.{All-from_get_or, Contains-append_left, Contains-push, Contains-push_cases}
use Rattle.std.proofs.lemmas.List.FromFn.{fill_by_all, get_or-range_with_len, length-range_with_len}
use Rattle.std.proofs.lemmas.List.Sorted.{IsPermutation-sym, Contains-permutation}
use Rattle.std.proofs.lemmas.Option.{slice_get_within, slice_get-get_or, get_or_from_slice_get}
use Rattle.std.proofs.lemmas.Bool.{cases_lt}
use Rattle.std.proofs.Math.Seq.{get_or-append_seam}
use Rattle.explore_law.specs.declared.instance.InstanceId.{InstanceId}
use Rattle.txn_programs.specs.declared.ast.Outcome.{Outcome}
use Rattle.txn_programs.specs.Listing.{Listing}
use Rattle.explore_law.specs.declared.found.Kinds.{Kinds}
use Rattle.explore_law.specs.declared.found.End.{End}
use Rattle.explore_law.specs.declared.graph.Turn.{Turn}
use Rattle.explore_law.specs.declared.graph.Node.{Node}
use Rattle.explore_law.specs.declared.graph.Graph.{Graph}
use Rattle.explore_law.specs.Instances.{instances}
use Rattle.explore_law.specs.Orders.{Config, HasTurn, turned}
use Rattle.explore_law.specs.Explored.{IsOnce, ListsReached, end_config, config_cmp}
use Rattle.explore_law.specs.Graphs.{IsTurn, ListsTurns, IsGraph, node_config}
use Rattle.explore_search.specs.Shelf.{Shelf, nowhere}
use Rattle.explore_search.specs.Indexed.{config_at}
use Rattle.explore_search.specs.Searching.{IsUnderWay}
use Rattle.explore_search.specs.Turns.{TurnsTo, Turns}
use Rattle.explore_search.specs.Graphing.{configs, IsSized, TurnOrNone, ListsTurnsBelow, AreNodesOf, AreNodes, with_turn}
use Rattle.explore_search.proofs.Indexing.{at_contains, contains_at}
use Rattle.explore_search.proofs.Whole.{all_reached, reached_more, turn_known}
use Rattle.explore_search.proofs.Ending.{apart_from_once, apart_reordered, once_from_apart}

-- all configurations by their numbers
pub all_numbered : (ps : List Config) → map (config_at ps) (range_with_len 0 (length ps)) ≡ ps
all_numbered ps = sym (fill_by_all (config_at ps) ps (length ps) nowhere refl (λ k h. refl))

range_more : (a n : ℕ) → range_with_len a (suc n) ≡ range_with_len a n ++ (a + n) ∷ []
range_more a zero = let same : a ≡ a + 0 = omega arith in ap (λ (m : ℕ). m ∷ []) same
range_more a (suc n) =
    let same : a + 1 + n ≡ a + suc n = omega arith in
    ap (λ (xs : List ℕ). a ∷ xs) (range_more (a + 1) n ∙ ap (λ (m : ℕ). range_with_len (a + 1) n ++ m ∷ []) same)

pub range_push : (n : ℕ) → range_with_len 0 (n + 1) ≡ range_with_len 0 n ++ n ∷ []
range_push n =
    let next : n + 1 ≡ suc n = omega arith in
    let last : 0 + n ≡ n = omega arith in
    ap (λ (m : ℕ). range_with_len 0 m) next ∙ range_more 0 n ∙ ap (λ (m : ℕ). range_with_len 0 n ++ m ∷ []) last

pub below_all_numbers : (n : ℕ) (ns : List ℕ) → ns ≡ range_with_len 0 n → All (λ (i : ℕ). i < n) ns
below_all_numbers n ns is =
    subst (All (λ (i : ℕ). i < n)) (sym is)
    (All-from_get_or (λ (i : ℕ). i < n) (range_with_len 0 n) 0
    (λ i h. let low : i < n = omega (arith, h, length-range_with_len 0 n) in omega (arith, low, get_or-range_with_len 0 n i 0 low)))

pub moved_all : (ps qs : List Config) (ns : List ℕ) → ns ≡ range_with_len 0 (length ps) → IsPermutation (map (config_at ps) ns) qs → IsPermutation ps qs
moved_all ps qs ns is moved = subst (λ (xs : List Config). IsPermutation xs qs) (ap (map (config_at ps)) is ∙ all_numbered ps) moved

-- what a search that is done has listed, in any order
pub reached_reordered : (l : Listing) (ps qs : List Config) → IsPermutation ps qs → ListsReached l ps → ListsReached l qs
reached_reordered l ps qs moved h =
    record {
      once = once_from_apart qs (apart_reordered ps qs moved (apart_from_once ps h.once));
      all = λ p. (λ c. (h.all p).0 (Contains-permutation qs ps p (IsPermutation-sym ps qs moved) c), λ r. Contains-permutation ps qs p moved ((h.all p).1 r));
    }

pub search_reached : (l : Listing) (limit : ℕ) (s : Shelf) (kinds : List Kinds) (ends : List ℕ) → IsUnderWay l limit s kinds ends (length s.configs) 0 → IsOnce s.configs → ListsReached l s.configs
search_reached l limit s kinds ends h once = record { once = once; all = all_reached l s.configs kinds ends h.searched }

pub search_sized : (l : Listing) (limit : ℕ) (s : Shelf) (kinds : List Kinds) (ends : List ℕ) (c k : ℕ) → IsUnderWay l limit s kinds ends c k → IsSized l s.configs
search_sized l limit s kinds ends c k h p on =
    let at = at_contains s.configs p on in
    let sizes = h.sized at.0 at.1 in
    subst (λ (q : Config). (length q.state ≡ length l.initial) × (length q.left ≡ length (instances l))) at.2 (sizes.0 ∙ h.variables, sizes.1 ∙ h.counts)

pub sized_reordered : (l : Listing) (ps qs : List Config) → IsPermutation ps qs → IsSized l ps → IsSized l qs
sized_reordered l ps qs moved h p on = h p (Contains-permutation qs ps p (IsPermutation-sym ps qs moved) on)

-- the configuration of a number is listed
pub listed_at : (ps : List Config) (k : ℕ) → k < length ps → Contains ps (config_at ps k)
listed_at ps k low = contains_at ps k (config_at ps k) low refl

pub config_of_end : (es : List End) (k : ℕ) (e : End) → k < length es → e ≡ get_or es k e → config_at (configs es) k ≡ end_config e
config_of_end es k e low is = get_or-map end_config es k e nowhere low ∙ ap end_config (sym is)

pub listed_end : (es : List End) (k : ℕ) (e : End) (p : Config) → k < length es → e ≡ get_or es k e → end_config e ≡ p → slice_get (configs es) k ≡ Some p
listed_end es k e p low is same =
    let within : k < length (configs es) = omega (arith, low, length-map es end_config) in
    slice_get-get_or (configs es) k nowhere within ∙ ap Some (config_of_end es k e low is ∙ same)

-- a turn at a listed configuration leads to a listed one
pub turn_listed : (l : Listing) (ps : List Config) (p : Config) (inst : InstanceId) → ListsReached l ps → Contains ps p → HasTurn l p inst → Contains ps (turned l p inst)
turn_listed l ps p inst h on turn = (h.all (turned l p inst)).1 (reached_more l p inst ((h.all p).0 on) turn)

abbrev instance : ℕ → InstanceId
instance n = record { 0 = n }

-- a turn that was taken, and the number of the configuration to which it leads
pub turn_made : (l : Listing) (ps : List Config) (p q : Config) (inst : InstanceId) (o : Outcome) (to : ℕ) → TurnsTo l p inst q o → slice_get ps to ≡ Some q → TurnOrNone l ps p inst (Some (record { instance = inst; outcome = o; to = to }))
turn_made l ps p q inst o to w at = (record { turn = w.turn; ends = w.ends; leads = at ∙ ap Some w.leads }, refl)

pub leads_listed : (l : Listing) (ps : List Config) (p q : Config) (inst : InstanceId) (o : Outcome) → ListsReached l ps → Contains ps p → TurnsTo l p inst q o → Contains ps q
leads_listed l ps p q inst o h on w = subst (Contains ps) (sym w.leads) (turn_listed l ps p inst h on w.turn)

pub no_turn : (l : Listing) (ps : List Config) (p q : Config) (inst : InstanceId) (r : Option Outcome) → Turns l p inst q r → ((o : Outcome) → r ≡ Some o → ⊥) → TurnOrNone l ps p inst None
no_turn l ps p q inst None h not = h
no_turn l ps p q inst (Some o) h not = absurd (not o refl)

-- the turns below an instance, with that one
below_none : (l : Listing) (ps : List Config) (p : Config) (inst : InstanceId) (ts : List Turn) → (HasTurn l p inst → ⊥) → ListsTurnsBelow l ps p inst.0 ts → ListsTurnsBelow l ps p (inst.0 + 1) ts
below_none l ps p inst ts none h =
    record {
      are = λ t on. let a = h.are t on in (a.0, omega (arith, a.1));
      all = λ u low turn.
          ⊎_elim (λ (k : u.0 < inst.0). h.all u k turn)
          (λ (k : inst.0 ≤ u.0). let same : u.0 ≡ inst.0 = omega (arith, low, k) in absurd (none (subst (HasTurn l p) (ap instance same) turn)))
          (cases_lt u.0 inst.0);
      ascend = h.ascend;
    }

pushed_at : (ts : List Turn) (t : Turn) (i : ℕ) (u : Turn) → slice_get (ts ++ t ∷ []) i ≡ Some u → i < length ts → slice_get ts i ≡ Some u
pushed_at ts t i u is low =
    slice_get-get_or ts i t low ∙ ap Some (sym (get_or_append_left ts (t ∷ []) t i low) ∙ get_or_from_slice_get (ts ++ t ∷ []) i u t is)

pushed_last : (ts : List Turn) (t : Turn) (i : ℕ) (u : Turn) → slice_get (ts ++ t ∷ []) i ≡ Some u → length ts ≤ i → t ≡ u
pushed_last ts t i u is high =
    let low = slice_get_within (ts ++ t ∷ []) i u is in
    let same : i ≡ length ts = omega (arith, high, low, length_push ts t) in
    sym (ap (λ (n : ℕ). get_or (ts ++ t ∷ []) n t) same ∙ get_or-append_seam ts t [] t) ∙ get_or_from_slice_get (ts ++ t ∷ []) i u t is

contains_read : (ts : List Turn) (i : ℕ) (t : Turn) → slice_get ts i ≡ Some t → Contains ts t
contains_read ts i t is = (i, slice_get_within ts i t is, get_or_from_slice_get ts i t t is)

below_one : (l : Listing) (ps : List Config) (p : Config) (ts : List Turn) (t : Turn) → IsTurn l ps p t → ListsTurnsBelow l ps p t.instance.0 ts → ListsTurnsBelow l ps p (t.instance.0 + 1) (ts ++ t ∷ [])
below_one l ps p ts t turn h =
    let txs = λ (us : List Turn). map (λ (u : Turn). u.instance) us in
    let parts : txs (ts ++ t ∷ []) ≡ txs ts ++ t.instance ∷ [] = map-append (λ (u : Turn). u.instance) ts (t ∷ []) in
    record {
      are = λ u on.
          ⊎_elim (λ (k : Contains ts u). let a = h.are u k in (a.0, omega (arith, a.1)))
          (λ (k : t ≡ u). subst (λ (v : Turn). IsTurn l ps p v × (v.instance.0 < t.instance.0 + 1)) k (turn, omega arith))
          (Contains-push_cases ts t u on);
      all = λ u low has.
          subst (λ (us : List InstanceId). Contains us u) (sym parts)
          (⊎_elim (λ (k : u.0 < t.instance.0). Contains-append_left (txs ts) (t.instance ∷ []) u (h.all u k has))
          (λ (k : t.instance.0 ≤ u.0).
          let same : t.instance.0 ≡ u.0 = omega (arith, low, k) in
          subst (Contains (txs ts ++ t.instance ∷ [])) (ap instance same) (Contains-push (txs ts) t.instance))
          (cases_lt u.0 t.instance.0));
      ascend = λ i j a b less ia jb.
          let high = slice_get_within (ts ++ t ∷ []) j b jb in
          let first = pushed_at ts t i a ia (omega (arith, less, high, length_push ts t)) in
          ⊎_elim (λ (k : j < length ts). h.ascend i j a b less first (pushed_at ts t j b jb k))
          (λ (k : length ts ≤ j).
          let last = pushed_last ts t j b jb k in
          let below = (h.are a (contains_read ts i a first)).1 in
          subst (λ (v : Turn). a.instance.0 < v.instance.0) last below)
          (cases_lt j (length ts));
    }

-- one more instance, by what was found of it
below_more : (l : Listing) (ps : List Config) (p : Config) (inst : InstanceId) (ts : List Turn) (t : Turn) → IsTurn l ps p t → t.instance ≡ inst → ListsTurnsBelow l ps p inst.0 ts → ListsTurnsBelow l ps p (inst.0 + 1) (ts ++ t ∷ [])
below_more l ps p inst ts t turn is h =
    let before : ListsTurnsBelow l ps p t.instance.0 ts = subst (λ (u : InstanceId). ListsTurnsBelow l ps p u.0 ts) (sym is) h in
    subst (λ (u : InstanceId). ListsTurnsBelow l ps p (u.0 + 1) (ts ++ t ∷ [])) is (below_one l ps p ts t turn before)

pub below_with : (l : Listing) (ps : List Config) (p : Config) (inst : InstanceId) (ts : List Turn) (turn : Option Turn) → TurnOrNone l ps p inst turn → ListsTurnsBelow l ps p inst.0 ts → ListsTurnsBelow l ps p (inst.0 + 1) (with_turn ts turn)
below_with l ps p inst ts None none h = below_none l ps p inst ts none h
below_with l ps p inst ts (Some t) one h = below_more l ps p inst ts t one.0 one.1 h

pub below_start : (l : Listing) (ps : List Config) (p : Config) → ListsTurnsBelow l ps p 0 []
below_start l ps p =
    record {
      are = λ t on. absurd (let low : on.0 < 0 = on.1 in omega (arith, low));
      all = λ inst low turn. absurd (omega (arith, low));
      ascend = λ i j a b less ia jb. absurd (cc);
    }

-- when all instances were tried, these are all turns
pub below_all : (l : Listing) (ps : List Config) (p : Config) (ts : List Turn) → IsSized l ps → Contains ps p → ListsTurnsBelow l ps p (length (instances l)) ts → ListsTurns l ps p ts
below_all l ps p ts sized on h =
    record {
      are = λ t in_ts. (h.are t in_ts).0;
      all = λ inst turn. h.all inst (omega (arith, turn_known l p inst turn, (sized p on).1)) turn;
      ascend = h.ascend;
    }

-- one more node
pub nodes_more : (l : Listing) (ps : List Config) (ns : List Node) (n : Node) (k : ℕ) → k < length ps → node_config n ≡ config_at ps k → ListsTurns l ps (config_at ps k) n.turns.items
    → AreNodesOf l ps (take k ps) ns → AreNodesOf l ps (take (k + 1) ps) (ns ++ n ∷ [])
nodes_more l ps ns n k low is turns h =
    record {
      same = map-append node_config ns (n ∷ []) ∙ ap (λ (qs : List Config). qs ++ node_config n ∷ []) h.same ∙ ap (λ (p : Config). take k ps ++ p ∷ []) is ∙ sym (take_more ps k nowhere low);
      turns = λ m on.
          ⊎_elim (λ (b : Contains ns m). h.turns m b)
          (λ (b : n ≡ m). subst (λ (x : Node). ListsTurns l ps (node_config x) x.turns.items) b (subst (λ (p : Config). ListsTurns l ps p n.turns.items) (sym is) turns))
          (Contains-push_cases ns n m on);
    }

pub nodes_start : (l : Listing) (ps : List Config) → AreNodesOf l ps (take 0 ps) []
nodes_start l ps = record { same = refl; turns = λ n on. absurd (let low : on.0 < 0 = on.1 in omega (arith, low)) }

pub nodes_all : (l : Listing) (ps : List Config) (ns : List Node) (k : ℕ) → length ps ≤ k → AreNodesOf l ps (take k ps) ns → AreNodes l ps ns
nodes_all l ps ns k high h = subst (λ (qs : List Config). AreNodesOf l ps qs ns) (take_all k ps high) h

-- what was made is the graph
pub graph_made : (l : Listing) (ps : List Config) (g : Graph) → ListsReached l ps → IsSorted config_cmp ps → AreNodes l ps g.nodes.items → IsGraph l g
graph_made l ps g reached sorted h =
    record {
      reached = subst (ListsReached l) (sym h.same) reached;
      ascend = subst (IsSorted config_cmp) (sym h.same) sorted;
      turns = λ n on. subst (λ (qs : List Config). ListsTurns l qs (node_config n) n.turns.items) (sym h.same) (h.turns n on);
    }
