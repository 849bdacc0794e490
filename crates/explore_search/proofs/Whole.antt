-- What a search knows when no listed configuration is left.
use Rattle.std.proofs.Common.{◌≡◌, ◌↔◌, ℕ, ◌+◌, ◌<◌, ◌≤◌, true, List, [], ◌∷◌, ◌++◌, length, get_or, Some, refl, sym, ◌∙◌, ap, subst, inl, inr, ⊎_elim, arith}
use Rattle.std.specs.List.{Contains}
use Rattle.std.proofs.lemmas.List.{length_push, get_or_append_left, get_or_past}
use Rattle.std.proofs.lemmas.List.Elements.{Contains-append_left, Contains-push, Contains-push_cases}
use Rattle.std.proofs.Math.Seq.{get_or-append_seam}
use Rattle.std.proofs.lemmas.Bool.{cases_lt}
use Rattle.txn_programs.specs.declared.ast.TxId.{TxId}
use Rattle.explore_law.specs.declared.instance.InstanceId.{InstanceId}
use Rattle.txn_programs.specs.Listing.{Listing}
use Rattle.txn_programs.specs.Meaning.{outcome}
use Rattle.explore_law.specs.declared.found.Kinds.{Kinds}
use Rattle.explore_law.specs.Instances.{instance_program}
use Rattle.explore_law.specs.Orders.{Config, HasTurn, turned, IsEnd, Leads, Reached, first_config}
use Rattle.explore_law.specs.Explored.{Kind, kind_of, shows, Somewhere}
use Rattle.explore_search.specs.Indexed.{config_at}
use Rattle.explore_search.proofs.Indexing.{any_default, at_contains}
use Rattle.explore_search.specs.Noting.{none_seen}
use Rattle.explore_search.specs.Searching.{IsTried, IsSearched, HasMoved}

-- one more turn
leads_more : (l : Listing) (p : Config) (ts : List InstanceId) (q : Config) (inst : InstanceId) → Leads l p ts q → HasTurn l q inst → Leads l p (ts ++ inst ∷ []) (turned l q inst)
leads_more l p [] q inst e turn = (subst (λ (r : Config). HasTurn l r inst) e turn, ap (λ (r : Config). turned l r inst) e)
leads_more l p (t ∷ ts) q inst h turn = (h.0, leads_more l (turned l p t) ts q inst h.1 turn)

pub reached_more : (l : Listing) (p : Config) (inst : InstanceId) → Reached l p → HasTurn l p inst → Reached l (turned l p inst)
reached_more l p inst r turn = record { turns = r.turns ++ inst ∷ []; leads = leads_more l (first_config l) r.turns p inst r.leads turn }

pub reached_first : (l : Listing) → Reached l (first_config l)
reached_first l = record { turns = []; leads = refl }

-- an instance with a turn is one of those that are counted
pub turn_known : (l : Listing) (p : Config) (inst : InstanceId) → HasTurn l p inst → inst.0 < length p.left
turn_known l p inst turn =
    ⊎_elim (λ (h : inst.0 < length p.left). h) (λ (h : length p.left ≤ inst.0). let none : get_or p.left inst.0 0 ≡ 0 = get_or_past p.left inst.0 0 h in omega (arith, none, turn.left)) (cases_lt inst.0 (length p.left))

tried_all : (c i n : ℕ) (inst : InstanceId) → inst.0 < n → IsTried (c + 1) 0 i inst → IsTried c n i inst
tried_all c i n inst low (inl h) = ⊎_elim (λ (k : i < c). inl k) (λ (k : c ≤ i). inr (omega (arith, h, k), low)) (cases_lt i c)
tried_all c i n inst low (inr (e, h)) = absurd (omega arith)

tried_back : (c i n : ℕ) (inst : InstanceId) → IsTried c n i inst → IsTried (c + 1) 0 i inst
tried_back c i n inst (inl h) = inl (omega (arith, h))
tried_back c i n inst (inr (e, h)) = inl (omega (arith, e))

-- all instances were tried at the configuration of number c, whose end is noted
searched_on : (l : Listing) (ps : List Config) (kinds : List Kinds) (ends more : List ℕ) (c n : ℕ) → c < length ps
    → ((i : ℕ) → i < length ps → length (config_at ps i).left ≡ n)
    → ((i : ℕ) → (Contains more i ↔ ((i < c + 1) × IsEnd l (config_at ps i))))
    → ((i j : ℕ) → i < j → j < length more → get_or more i 0 < get_or more j 0)
    → IsSearched l ps kinds ends c n → IsSearched l ps kinds more (c + 1) 0
searched_on l ps kinds ends more c n low sized are ascend s =
    record {
      first = s.first;
      reached = s.reached;
      closed = λ i inst within tried turn.
          let known : inst.0 < n = omega (arith, turn_known l (config_at ps i) inst turn, sized i within) in
          s.closed i inst within (tried_all c i n inst known tried) turn;
      each = s.each;
      kinds_are = λ tx kind known. (
        λ h. let w = (s.kinds_are tx kind known).0 h in record { instance = w.instance; own = w.own; i = w.i; within = w.within; tried = tried_back c w.i n w.instance w.tried; turn = w.turn; ends = w.ends },
        λ w.
            let low : w.instance.0 < n = omega (arith, turn_known l (config_at ps w.i) w.instance w.turn, sized w.i w.within) in
            (s.kinds_are tx kind known).1
            (record { instance = w.instance; own = w.own; i = w.i; within = w.within; tried = tried_all c w.i n w.instance low w.tried; turn = w.turn; ends = w.ends }),
      );
      ends_are = are;
      ascend = ascend;
    }

pub searched_moved : (l : Listing) (ps : List Config) (kinds : List Kinds) (ends : List ℕ) (c n : ℕ) → c < length ps → ((i : ℕ) → i < length ps → length (config_at ps i).left ≡ n)
    → HasMoved l (config_at ps c) n → IsSearched l ps kinds ends c n → IsSearched l ps kinds ends (c + 1) 0
searched_moved l ps kinds ends c n low sized moved s =
    searched_on l ps kinds ends ends c n low sized
    (λ i. (
      λ h. let e = (s.ends_are i).0 h in (omega (arith, e.0), e.1),
      λ e. ⊎_elim (λ (k : i < c). (s.ends_are i).1 (k, e.1))
          (λ (k : c ≤ i). let same : i ≡ c = omega (arith, k, e.0) in absurd (e.1 moved.instance (subst (λ (j : ℕ). HasTurn l (config_at ps j) moved.instance) (sym same) moved.turn)))
          (cases_lt i c),
    ))
    s.ascend s

any_nat : (xs : List ℕ) (i : ℕ) → i < length xs → get_or xs i (get_or xs i 0) ≡ get_or xs i 0
any_nat xs i h = any_default xs i (get_or xs i 0) 0 h

ascend_more : (ends : List ℕ) (c : ℕ) → ((i : ℕ) → i < length ends → get_or ends i 0 < c) → ((i j : ℕ) → i < j → j < length ends → get_or ends i 0 < get_or ends j 0)
    → (i j : ℕ) → i < j → j < length (ends ++ c ∷ []) → get_or (ends ++ c ∷ []) i 0 < get_or (ends ++ c ∷ []) j 0
ascend_more ends c below ascend i j less high =
    let size = length_push ends c in
    let left = get_or_append_left ends (c ∷ []) 0 i (omega (arith, less, high, size)) in
    ⊎_elim
    (λ (k : j < length ends). omega (arith, left, get_or_append_left ends (c ∷ []) 0 j k, ascend i j less k))
    (λ (k : length ends ≤ j).
    let same : j ≡ length ends = omega (arith, size, high, k) in
    let last : get_or (ends ++ c ∷ []) j 0 ≡ c = ap (λ (m : ℕ). get_or (ends ++ c ∷ []) m 0) same ∙ get_or-append_seam ends c [] 0 in
    omega (arith, left, last, below i (omega (arith, less, same))))
    (cases_lt j (length ends))

pub searched_ended : (l : Listing) (ps : List Config) (kinds : List Kinds) (ends : List ℕ) (c n : ℕ) → c < length ps → ((i : ℕ) → i < length ps → length (config_at ps i).left ≡ n)
    → (HasMoved l (config_at ps c) n → ⊥) → IsSearched l ps kinds ends c n → IsSearched l ps kinds (ends ++ c ∷ []) (c + 1) 0
searched_ended l ps kinds ends c n low sized none s =
    let end : IsEnd l (config_at ps c) = λ inst turn. none (record { instance = inst; before = omega (arith, turn_known l (config_at ps c) inst turn, sized c low); turn = turn }) in
    searched_on l ps kinds ends (ends ++ c ∷ []) c n low sized
    (λ i. (
      λ h. ⊎_elim (λ (k : Contains ends i). let e = (s.ends_are i).0 k in (omega (arith, e.0), e.1))
          (λ (k : c ≡ i). (omega (arith, k), subst (λ (j : ℕ). IsEnd l (config_at ps j)) k end)) (Contains-push_cases ends c i h),
      λ e. ⊎_elim (λ (k : i < c). Contains-append_left ends (c ∷ []) i ((s.ends_are i).1 (k, e.1)))
          (λ (k : c ≤ i). let same : c ≡ i = omega (arith, k, e.0) in subst (Contains (ends ++ c ∷ [])) same (Contains-push ends c)) (cases_lt i c),
    ))
    (ascend_more ends c (λ i within. ((s.ends_are (get_or ends i 0)).0 (i, within, any_nat ends i within)).0) s.ascend)
    s

-- all is listed that some turns lead to from a listed configuration
leads_listed : (l : Listing) (ps : List Config) → ((p : Config) (inst : InstanceId) → Contains ps p → HasTurn l p inst → Contains ps (turned l p inst))
    → (p : Config) (ts : List InstanceId) (q : Config) → Contains ps p → Leads l p ts q → Contains ps q
leads_listed l ps closed p [] q h e = subst (Contains ps) (sym e) h
leads_listed l ps closed p (t ∷ ts) q h leads = leads_listed l ps closed (turned l p t) ts q (closed p t h leads.0) leads.1

-- when no listed configuration is left, each configuration is listed that is reached
pub all_reached : (l : Listing) (ps : List Config) (kinds : List Kinds) (ends : List ℕ) → IsSearched l ps kinds ends (length ps) 0 → (p : Config) → (Contains ps p ↔ Reached l p)
all_reached l ps kinds ends s p = (
  λ h. let at = at_contains ps p h in subst (Reached l) at.2 (s.reached at.0 at.1),
  λ r. leads_listed l ps
      (λ q inst h turn.
      let at = at_contains ps q h in
      subst (λ (x : Config). Contains ps (turned l x inst)) at.2 (s.closed at.0 inst at.1 (inl at.1) (subst (λ (x : Config). HasTurn l x inst) (sym at.2) turn)))
      (first_config l) r.turns p s.first r.leads,
)

-- and each outcome was seen that some turn has
pub all_seen : (l : Listing) (ps : List Config) (kinds : List Kinds) (ends : List ℕ) → IsSearched l ps kinds ends (length ps) 0 → (tx : TxId) (kind : Kind) → tx.0 < length kinds
    → (shows (get_or kinds tx.0 none_seen) kind ≡ true ↔ Somewhere l tx kind)
all_seen l ps kinds ends s tx kind known = (
  λ h. let w = (s.kinds_are tx kind known).0 h in record { instance = w.instance; own = w.own; config = config_at ps w.i; reached = s.reached w.i w.within; turn = w.turn; ends = w.ends },
  λ w.
      let at = at_contains ps w.config ((all_reached l ps kinds ends s w.config).1 w.reached) in
      (s.kinds_are tx kind known).1
      (record {
        instance = w.instance;
        own = w.own;
        i = at.0;
        within = at.1;
        tried = inl at.1;
        turn = subst (λ (p : Config). HasTurn l p w.instance) (sym at.2) w.turn;
        ends = subst (λ (p : Config). kind_of (outcome (instance_program l w.instance) p.state) ≡ Some kind) (sym at.2) w.ends;
      }),
)

-- and each end is noted
pub all_ends : (l : Listing) (ps : List Config) (kinds : List Kinds) (ends : List ℕ) → IsSearched l ps kinds ends (length ps) 0 → (p : Config)
    → (((i : ℕ) × (Contains ends i) × (config_at ps i ≡ p)) ↔ (Reached l p × IsEnd l p))
all_ends l ps kinds ends s p = (
  λ h. let e = (s.ends_are h.0).0 h.1 in (subst (Reached l) h.2 (s.reached h.0 e.0), subst (IsEnd l) h.2 e.1),
  λ r.
      let at = at_contains ps p ((all_reached l ps kinds ends s p).1 r.0) in
      (at.0, (s.ends_are at.0).1 (at.1, subst (IsEnd l) (sym at.2) r.1), at.2),
)
