-- Lists of configurations that grow.
use Rattle.std.proofs.Common.{◌≡◌, ℕ, ◌<◌, ◌≤◌, List, [], ◌∷◌, ◌++◌, length, Some, refl, sym, ◌∙◌, ap, subst, inl, inr, ⊎_elim, arith}
use Rattle.std.specs.List.{Contains}
use Rattle.std.proofs.lemmas.List.{length_push, get_or_append_left}
use Rattle.std.proofs.lemmas.List.Elements.{Contains-push}
use Rattle.std.proofs.Math.Seq.{get_or-append_seam}
use Rattle.std.proofs.lemmas.Bool.{cases_lt}
use Rattle.txn_programs.specs.declared.ast.TxId.{TxId}
use Rattle.explore_law.specs.declared.instance.InstanceId.{InstanceId}
use Rattle.txn_programs.specs.Listing.{Listing}
use Rattle.txn_programs.specs.Meaning.{outcome}
use Rattle.explore_law.specs.declared.found.Kinds.{Kinds}
use Rattle.explore_law.specs.Instances.{instance_program}
use Rattle.explore_law.specs.Orders.{Config, first_config, HasTurn, turned, Reached, IsEnd}
use Rattle.explore_law.specs.Explored.{Kind, kind_of}
use Rattle.explore_search.specs.Shelf.{Shelf, Adds, nowhere}
use Rattle.explore_search.specs.Indexed.{config_at}
use Rattle.explore_search.proofs.Indexing.{contains_at, at_contains}
use Rattle.explore_search.specs.Searching.{IsTried, WasSeen, IsSearched}

-- one list goes on from another
pub record Grows (ps qs : List Config) : Type 0 where
  pub longer : length ps ≤ length qs
  pub same : (i : ℕ) → i < length ps → config_at qs i ≡ config_at ps i

pub grows_push : (ps : List Config) (p : Config) → Grows ps (ps ++ p ∷ [])
grows_push ps p = record { longer = omega (arith, length_push ps p); same = λ i h. get_or_append_left ps (p ∷ []) nowhere i h }

pub grows_itself : (ps : List Config) → Grows ps ps
grows_itself ps = record { longer = omega arith; same = λ i h. refl }

pub adds_grows : (old new : Shelf) (p : Config) → Adds old new p → Grows old.configs new.configs
adds_grows old new p h =
    ⊎_elim (λ w. subst (Grows old.configs) (sym w.1) (grows_itself old.configs)) (λ w. subst (Grows old.configs) (sym w.1) (grows_push old.configs p)) h.added

pub grows_contains : (ps qs : List Config) (p : Config) → Grows ps qs → Contains ps p → Contains qs p
grows_contains ps qs p g h =
    let at = at_contains ps p h in
    contains_at qs at.0 p (omega (arith, at.1, g.longer)) (g.same at.0 at.1 ∙ at.2)

pub adds_contains : (old new : Shelf) (p : Config) → Adds old new p → Contains new.configs p
adds_contains old new p h =
    let P : List Config → Type 0 = λ ps. Contains ps p in
    ⊎_elim (λ w. subst P (sym w.1) w.0) (λ w. subst P (sym w.1) (Contains-push old.configs p)) h.added

each_push : (P : Config → Type 0) (ps : List Config) (p : Config) → P p → ((i : ℕ) → i < length ps → P (config_at ps i)) → (i : ℕ) → i < length (ps ++ p ∷ []) → P (config_at (ps ++ p ∷ []) i)
each_push P ps p one all i h =
    ⊎_elim (λ (low : i < length ps). subst P (sym (get_or_append_left ps (p ∷ []) nowhere i low)) (all i low))
    (λ (high : length ps ≤ i).
    let same : i ≡ length ps = omega (arith, length_push ps p, h) in
    subst P (sym (ap (config_at (ps ++ p ∷ [])) same ∙ get_or-append_seam ps p [] nowhere)) one)
    (cases_lt i (length ps))

-- what holds of each listed configuration
pub adds_each : (P : Config → Type 0) (old new : Shelf) (p : Config) → Adds old new p → P p → ((i : ℕ) → i < length old.configs → P (config_at old.configs i)) → (i : ℕ) → i < length new.configs → P (config_at new.configs i)
adds_each P old new p h one all =
    let Q : List Config → Type 0 = λ ps. (i : ℕ) → i < length ps → P (config_at ps i) in
    ⊎_elim (λ w. subst Q (sym w.1) all) (λ w. subst Q (sym w.1) (each_push P old.configs p one all)) h.added

tried_low : (c k i n : ℕ) (inst : InstanceId) → c < n → IsTried c k i inst → i < n
tried_low c k i n inst h (inl low) = omega (arith, low, h)
tried_low c k i n inst h (inr (e, low)) = omega (arith, e, h)

pub seen_grows : (l : Listing) (ps qs : List Config) (c k : ℕ) (tx : TxId) (kind : Kind) → Grows ps qs → WasSeen l ps c k tx kind → WasSeen l qs c k tx kind
seen_grows l ps qs c k tx kind g w =
    let same = sym (g.same w.i w.within) in
    record {
      instance = w.instance;
      own = w.own;
      i = w.i;
      within = omega (arith, w.within, g.longer);
      tried = w.tried;
      turn = subst (λ (p : Config). HasTurn l p w.instance) same w.turn;
      ends = subst (λ (p : Config). kind_of (outcome (instance_program l w.instance) p.state) ≡ Some kind) same w.ends;
    }

seen_shrinks : (l : Listing) (ps qs : List Config) (c k : ℕ) (tx : TxId) (kind : Kind) → Grows ps qs → c < length ps → WasSeen l qs c k tx kind → WasSeen l ps c k tx kind
seen_shrinks l ps qs c k tx kind g low w =
    let within : w.i < length ps = tried_low c k w.i (length ps) w.instance low w.tried in
    let same = g.same w.i within in
    record {
      instance = w.instance;
      own = w.own;
      i = w.i;
      within = within;
      tried = w.tried;
      turn = subst (λ (p : Config). HasTurn l p w.instance) same w.turn;
      ends = subst (λ (p : Config). kind_of (outcome (instance_program l w.instance) p.state) ≡ Some kind) same w.ends;
    }

-- a search goes on with a longer list
pub searched_grows : (l : Listing) (old new : Shelf) (p : Config) (kinds : List Kinds) (ends : List ℕ) (c k : ℕ) → Adds old new p → Reached l p → c < length old.configs
    → IsSearched l old.configs kinds ends c k → IsSearched l new.configs kinds ends c k
searched_grows l old new p kinds ends c k adds reached low s =
    let g = adds_grows old new p adds in
    record {
      first = grows_contains old.configs new.configs (first_config l) g s.first;
      reached = adds_each (Reached l) old new p adds reached s.reached;
      closed = λ i inst within tried turn.
          let here : i < length old.configs = tried_low c k i (length old.configs) inst low tried in
          let same = g.same i here in
          let before = s.closed i inst here tried (subst (λ (q : Config). HasTurn l q inst) same turn) in
          grows_contains old.configs new.configs (turned l (config_at new.configs i) inst) g (subst (λ (q : Config). Contains old.configs (turned l q inst)) (sym same) before);
      each = s.each;
      kinds_are = λ tx kind known.
          (λ h. seen_grows l old.configs new.configs c k tx kind g ((s.kinds_are tx kind known).0 h), λ w. (s.kinds_are tx kind known).1 (seen_shrinks l old.configs new.configs c k tx kind g low w));
      ends_are = λ i. (
        λ h. let e = (s.ends_are i).0 h in (e.0, subst (IsEnd l) (sym (g.same i (omega (arith, e.0, low)))) e.1),
        λ e. (s.ends_are i).1 (e.0, subst (IsEnd l) (g.same i (omega (arith, e.0, low))) e.1),
      );
      ascend = s.ascend;
    }
