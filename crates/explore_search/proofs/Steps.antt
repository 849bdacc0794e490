-- The steps of a search.
use Rattle.std.proofs.Common.{◌≡◌, ◌⊎◌, ℕ, zero, suc, ◌+◌, ◌<◌, ◌≤◌, Bool, true, false, List, [], ◌∷◌, length, get_or, set, Some, refl, sym, ◌∙◌, ap, subst, inl, inr, ⊎_elim, arith}
use Rattle.std.specs.List.{Contains}
use Rattle.std.proofs.lemmas.List.{get_or-set_same, get_or-set_other, length-set}
use Rattle.std.proofs.lemmas.Bool.{cases_lt, cases_eq}
use Rattle.txn_programs.specs.declared.ast.AlwaysId.{AlwaysId}
use Rattle.txn_programs.specs.declared.ast.TxId.{TxId}
use Rattle.explore_law.specs.declared.instance.InstanceId.{InstanceId}
use Rattle.txn_programs.specs.declared.ast.Outcome.{Outcome}
use Rattle.txn_programs.specs.declared.ast.Outcome.TheVariants.{Returned, Thrown, Retries}
use Rattle.txn_programs.specs.declared.ast.Fault.TheVariants.{User, Overflow, DivideByZero, Broken, Outside}
use Rattle.txn_programs.specs.LawfulReport.{OutcomeKnown}
use Rattle.txn_programs.specs.Listing.{Listing}
use Rattle.txn_programs.specs.Meaning.{outcome}
use Rattle.explore_law.specs.declared.found.Kinds.{Kinds}
use Rattle.explore_law.specs.Instances.{instance_at, instance_program}
use Rattle.explore_law.specs.Orders.{Config, HasTurn, turned}
use Rattle.explore_law.specs.Explored.{Kind, Returning, Throwing, Overflowing, DividingByZero, GoingOutside, Breaking, kind_of, shows}
use Rattle.explore_search.specs.Indexed.{config_at}
use Rattle.explore_search.specs.Noting.{none_seen, noted}
use Rattle.explore_search.specs.Searching.{IsTried, WasSeen, IsSearched}

-- a flag that is set, among the others
set_shows : (bs : List Bool) (i j : ℕ) → get_or bs j false ≡ true → get_or (set bs i true) j false ≡ true
set_shows [] i j h = absurd (cc)
set_shows (b ∷ bs) zero zero h = refl
set_shows (b ∷ bs) zero (suc j) h = h
set_shows (b ∷ bs) (suc i) zero h = h
set_shows (b ∷ bs) (suc i) (suc j) h = set_shows bs i j h

set_only : (bs : List Bool) (i j : ℕ) → get_or (set bs i true) j false ≡ true → (get_or bs j false ≡ true) ⊎ (i ≡ j)
set_only [] i j h = absurd (cc)
set_only (b ∷ bs) zero zero h = inr refl
set_only (b ∷ bs) zero (suc j) h = inl h
set_only (b ∷ bs) (suc i) zero h = inl h
set_only (b ∷ bs) (suc i) (suc j) h = ⊎_elim (λ (k : get_or bs j false ≡ true). inl k) (λ (e : i ≡ j). inr (ap suc e)) (set_only bs i j h)

abbrev condition : ℕ → AlwaysId
condition n = record { 0 = n }

pub noted_new : (ks : Kinds) (o : Outcome) (kind : Kind) → OutcomeKnown (length ks.broke) o → kind_of o ≡ Some kind → shows (noted ks o) kind ≡ true
noted_new ks (Returned v) Returning known h = refl
noted_new ks (Thrown (User v)) Throwing known h = refl
noted_new ks (Thrown Overflow) Overflowing known h = refl
noted_new ks (Thrown DivideByZero) DividingByZero known h = refl
noted_new ks (Thrown (Broken id)) (Breaking j) known h =
    let same : id ≡ j = cc in
    subst (λ (c : AlwaysId). get_or (set ks.broke id.0 true) c.0 false ≡ true) same (get_or-set_same ks.broke id.0 true false known)
noted_new ks (Thrown Outside) GoingOutside known h = refl
noted_new ks o kind known h = absurd (cc)

pub noted_old : (ks : Kinds) (o : Outcome) (kind : Kind) → shows ks kind ≡ true → shows (noted ks o) kind ≡ true
noted_old ks (Returned v) Returning h = refl
noted_old ks (Returned v) Throwing h = h
noted_old ks (Returned v) Overflowing h = h
noted_old ks (Returned v) DividingByZero h = h
noted_old ks (Returned v) GoingOutside h = h
noted_old ks (Returned v) (Breaking j) h = h
noted_old ks (Thrown (User v)) Returning h = h
noted_old ks (Thrown (User v)) Throwing h = refl
noted_old ks (Thrown (User v)) Overflowing h = h
noted_old ks (Thrown (User v)) DividingByZero h = h
noted_old ks (Thrown (User v)) GoingOutside h = h
noted_old ks (Thrown (User v)) (Breaking j) h = h
noted_old ks (Thrown Overflow) Returning h = h
noted_old ks (Thrown Overflow) Throwing h = h
noted_old ks (Thrown Overflow) Overflowing h = refl
noted_old ks (Thrown Overflow) DividingByZero h = h
noted_old ks (Thrown Overflow) GoingOutside h = h
noted_old ks (Thrown Overflow) (Breaking j) h = h
noted_old ks (Thrown DivideByZero) Returning h = h
noted_old ks (Thrown DivideByZero) Throwing h = h
noted_old ks (Thrown DivideByZero) Overflowing h = h
noted_old ks (Thrown DivideByZero) DividingByZero h = refl
noted_old ks (Thrown DivideByZero) GoingOutside h = h
noted_old ks (Thrown DivideByZero) (Breaking j) h = h
noted_old ks (Thrown (Broken id)) Returning h = h
noted_old ks (Thrown (Broken id)) Throwing h = h
noted_old ks (Thrown (Broken id)) Overflowing h = h
noted_old ks (Thrown (Broken id)) DividingByZero h = h
noted_old ks (Thrown (Broken id)) GoingOutside h = h
noted_old ks (Thrown (Broken id)) (Breaking j) h = set_shows ks.broke id.0 j.0 h
noted_old ks (Thrown Outside) Returning h = h
noted_old ks (Thrown Outside) Throwing h = h
noted_old ks (Thrown Outside) Overflowing h = h
noted_old ks (Thrown Outside) DividingByZero h = h
noted_old ks (Thrown Outside) GoingOutside h = refl
noted_old ks (Thrown Outside) (Breaking j) h = h
noted_old ks Retries kind h = h

pub noted_only : (ks : Kinds) (o : Outcome) (kind : Kind) → shows (noted ks o) kind ≡ true → (shows ks kind ≡ true) ⊎ (kind_of o ≡ Some kind)
noted_only ks (Returned v) Returning h = inr refl
noted_only ks (Returned v) Throwing h = inl h
noted_only ks (Returned v) Overflowing h = inl h
noted_only ks (Returned v) DividingByZero h = inl h
noted_only ks (Returned v) GoingOutside h = inl h
noted_only ks (Returned v) (Breaking j) h = inl h
noted_only ks (Thrown (User v)) Returning h = inl h
noted_only ks (Thrown (User v)) Throwing h = inr refl
noted_only ks (Thrown (User v)) Overflowing h = inl h
noted_only ks (Thrown (User v)) DividingByZero h = inl h
noted_only ks (Thrown (User v)) GoingOutside h = inl h
noted_only ks (Thrown (User v)) (Breaking j) h = inl h
noted_only ks (Thrown Overflow) Returning h = inl h
noted_only ks (Thrown Overflow) Throwing h = inl h
noted_only ks (Thrown Overflow) Overflowing h = inr refl
noted_only ks (Thrown Overflow) DividingByZero h = inl h
noted_only ks (Thrown Overflow) GoingOutside h = inl h
noted_only ks (Thrown Overflow) (Breaking j) h = inl h
noted_only ks (Thrown DivideByZero) Returning h = inl h
noted_only ks (Thrown DivideByZero) Throwing h = inl h
noted_only ks (Thrown DivideByZero) Overflowing h = inl h
noted_only ks (Thrown DivideByZero) DividingByZero h = inr refl
noted_only ks (Thrown DivideByZero) GoingOutside h = inl h
noted_only ks (Thrown DivideByZero) (Breaking j) h = inl h
noted_only ks (Thrown (Broken id)) Returning h = inl h
noted_only ks (Thrown (Broken id)) Throwing h = inl h
noted_only ks (Thrown (Broken id)) Overflowing h = inl h
noted_only ks (Thrown (Broken id)) DividingByZero h = inl h
noted_only ks (Thrown (Broken id)) GoingOutside h = inl h
noted_only ks (Thrown (Broken id)) (Breaking j) h =
    ⊎_elim (λ (k : get_or ks.broke j.0 false ≡ true). inl k) (λ (e : id.0 ≡ j.0). inr (ap (λ (n : ℕ). Some (Breaking (condition n))) e)) (set_only ks.broke id.0 j.0 h)
noted_only ks (Thrown Outside) Returning h = inl h
noted_only ks (Thrown Outside) Throwing h = inl h
noted_only ks (Thrown Outside) Overflowing h = inl h
noted_only ks (Thrown Outside) DividingByZero h = inl h
noted_only ks (Thrown Outside) GoingOutside h = inr refl
noted_only ks (Thrown Outside) (Breaking j) h = inl h
noted_only ks Retries kind h = inl h

abbrev transaction : ℕ → TxId
transaction n = record { 0 = n }

abbrev instance : ℕ → InstanceId
instance n = record { 0 = n }

-- what was tried with one more instance: that one, or what was tried before
tried_more : (c i : ℕ) (t inst : InstanceId) → IsTried c (inst.0 + 1) i t → IsTried c inst.0 i t ⊎ ((i ≡ c) × (t ≡ inst))
tried_more c i t inst (inl low) = inl (inl low)
tried_more c i t inst (inr (e, low)) =
    ⊎_elim (λ (h : t.0 < inst.0). inl (inr (e, h))) (λ (h : inst.0 ≤ t.0). let same : t.0 ≡ inst.0 = omega (arith, low, h) in inr (e, ap instance same)) (cases_lt t.0 inst.0)

tried_still : (c k i : ℕ) (t : InstanceId) → IsTried c k i t → IsTried c (k + 1) i t
tried_still c k i t (inl low) = inl low
tried_still c k i t (inr (e, low)) = inr (e, omega (arith, low))

seen_still : (l : Listing) (ps : List Config) (c k : ℕ) (t : TxId) (kind : Kind) → WasSeen l ps c k t kind → WasSeen l ps c (k + 1) t kind
seen_still l ps c k t kind w =
    record { instance = w.instance; own = w.own; i = w.i; within = w.within; tried = tried_still c k w.i w.instance w.tried; turn = w.turn; ends = w.ends }

-- an instance of the transaction whose turn at the configuration of number c ends so
abbrev Ends : Listing → List Config → ℕ → TxId → Kind → InstanceId → Type 0
Ends l ps c t kind inst =
    ((instance_at l inst).tx ≡ t) × HasTurn l (config_at ps c) inst × (kind_of (outcome (instance_program l inst) (config_at ps c).state) ≡ Some kind)

-- what was seen with one more instance: a turn of that one here, or what was seen before
seen_more : (l : Listing) (ps : List Config) (c : ℕ) (t : TxId) (inst : InstanceId) (kind : Kind) → WasSeen l ps c (inst.0 + 1) t kind
    → WasSeen l ps c inst.0 t kind ⊎ Ends l ps c t kind inst
seen_more l ps c t inst kind w =
    ⊎_elim (λ (h : IsTried c inst.0 w.i w.instance). inl (record { instance = w.instance; own = w.own; i = w.i; within = w.within; tried = h; turn = w.turn; ends = w.ends }))
    (λ (h : (w.i ≡ c) × (w.instance ≡ inst)).
    let there : Ends l ps w.i t kind w.instance = (w.own, w.turn, w.ends) in
    let at : Ends l ps c t kind w.instance = subst (λ (i : ℕ). Ends l ps i t kind w.instance) h.0 there in
    inr (subst (Ends l ps c t kind) h.1 at))
    (tried_more c w.i w.instance inst w.tried)

-- one more instance was tried here, in vain or not
pub searched_more : (l : Listing) (ps : List Config) (kinds more : List Kinds) (ends : List ℕ) (c : ℕ) (inst : InstanceId)
    → (HasTurn l (config_at ps c) inst → Contains ps (turned l (config_at ps c) inst))
    → length more ≡ length kinds
    → ((t : TxId) (kind : Kind) → t.0 < length kinds → shows (get_or kinds t.0 none_seen) kind ≡ true → shows (get_or more t.0 none_seen) kind ≡ true)
    → ((t : TxId) (kind : Kind) → Ends l ps c t kind inst → shows (get_or more t.0 none_seen) kind ≡ true)
    → ((t : TxId) (kind : Kind) → t.0 < length kinds → shows (get_or more t.0 none_seen) kind ≡ true → (shows (get_or kinds t.0 none_seen) kind ≡ true) ⊎ WasSeen l ps c (inst.0 + 1) t kind)
    → IsSearched l ps kinds ends c inst.0 → IsSearched l ps more ends c (inst.0 + 1)
searched_more l ps kinds more ends c inst leads size old new only s =
    record {
      first = s.first;
      reached = s.reached;
      closed = λ i t within tried turn.
          ⊎_elim (λ (h : IsTried c inst.0 i t). s.closed i t within h turn)
          (λ (h : (i ≡ c) × (t ≡ inst)).
          let P : ℕ → InstanceId → Type 0 = λ j u. HasTurn l (config_at ps j) u → Contains ps (turned l (config_at ps j) u) in
          let here : P c t = subst (P c) (sym h.1) leads in
          let there : P i t = subst (λ (j : ℕ). P j t) (sym h.0) here in
          there turn)
          (tried_more c i t inst tried);
      each = size ∙ s.each;
      kinds_are = λ t kind known.
          let low : t.0 < length kinds = omega (arith, known, size) in (
            λ h. ⊎_elim (λ (e : shows (get_or kinds t.0 none_seen) kind ≡ true). seen_still l ps c inst.0 t kind ((s.kinds_are t kind low).0 e)) (λ (w : WasSeen l ps c (inst.0 + 1) t kind). w) (only t kind low h),
            λ w. ⊎_elim (λ (b : WasSeen l ps c inst.0 t kind). old t kind low ((s.kinds_are t kind low).1 b))
                (λ (b : Ends l ps c t kind inst). new t kind b)
                (seen_more l ps c t inst kind w),
          );
      ends_are = s.ends_are;
      ascend = s.ascend;
    }

pub searched_none : (l : Listing) (ps : List Config) (kinds : List Kinds) (ends : List ℕ) (c : ℕ) (inst : InstanceId) → (HasTurn l (config_at ps c) inst → ⊥)
    → IsSearched l ps kinds ends c inst.0 → IsSearched l ps kinds ends c (inst.0 + 1)
searched_none l ps kinds ends c inst none s =
    searched_more l ps kinds kinds ends c inst (λ turn. absurd (none turn)) refl (λ t kind low h. h) (λ t kind e. absurd (none e.1)) (λ t kind low h. inl h) s

-- the turn of an instance was tried, and how it ended is noted of its transaction
pub searched_some : (l : Listing) (ps : List Config) (kinds : List Kinds) (ends : List ℕ) (c : ℕ) (inst : InstanceId) (tx : TxId) (o : Outcome)
    → (instance_at l inst).tx ≡ tx → c < length ps → tx.0 < length kinds → OutcomeKnown (length (get_or kinds tx.0 none_seen).broke) o → HasTurn l (config_at ps c) inst
    → outcome (instance_program l inst) (config_at ps c).state ≡ o → Contains ps (turned l (config_at ps c) inst)
    → IsSearched l ps kinds ends c inst.0 → IsSearched l ps (set kinds tx.0 (noted (get_or kinds tx.0 none_seen) o)) ends c (inst.0 + 1)
searched_some l ps kinds ends c inst tx o own here low fits turn is leads s =
    let ks = get_or kinds tx.0 none_seen in
    let more = set kinds tx.0 (noted ks o) in
    let at : get_or more tx.0 none_seen ≡ noted ks o = get_or-set_same kinds tx.0 (noted ks o) none_seen low in
    let P : Kind → Kinds → Type 0 = λ kind k. shows k kind ≡ true in
    searched_more l ps kinds more ends c inst (λ t. leads) (length-set kinds tx.0 (noted ks o))
    (λ t kind within h.
    ⊎_elim (λ (e : t.0 ≡ tx.0).
    let before : P kind ks = subst (λ (n : ℕ). P kind (get_or kinds n none_seen)) e h in
    subst (λ (n : ℕ). P kind (get_or more n none_seen)) (sym e) (subst (P kind) (sym at) (noted_old ks o kind before)))
    (λ (e : t.0 ≡ tx.0 → ⊥). subst (P kind) (sym (get_or-set_other kinds tx.0 t.0 (noted ks o) none_seen e)) h)
    (cases_eq t.0 tx.0))
    (λ t kind e.
    let same : tx ≡ t = sym own ∙ e.0 in
    subst (λ (u : TxId). P kind (get_or more u.0 none_seen)) same (subst (P kind) (sym at) (noted_new ks o kind fits (ap kind_of (sym is) ∙ e.2))))
    (λ t kind within h.
    ⊎_elim (λ (e : t.0 ≡ tx.0).
    let shown : P kind (noted ks o) = subst (P kind) at (subst (λ (n : ℕ). P kind (get_or more n none_seen)) e h) in
    ⊎_elim (λ (b : shows ks kind ≡ true). inl (subst (λ (n : ℕ). P kind (get_or kinds n none_seen)) (sym e) b))
    (λ (b : kind_of o ≡ Some kind).
    let one : WasSeen l ps c (inst.0 + 1) tx kind = record { instance = inst; own = own; i = c; within = here; tried = inr (refl, omega arith); turn = turn; ends = ap kind_of is ∙ b } in
    inr (subst (λ (u : TxId). WasSeen l ps c (inst.0 + 1) u kind) (ap transaction (sym e)) one))
    (noted_only ks o kind shown))
    (λ (e : t.0 ≡ tx.0 → ⊥). inl (subst (P kind) (get_or-set_other kinds tx.0 t.0 (noted ks o) none_seen e) h))
    (cases_eq t.0 tx.0))
    s
