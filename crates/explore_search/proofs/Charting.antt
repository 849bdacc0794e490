-- How each configuration was found, while the list grows.
use Rattle.std.proofs.Common.{◌≡◌, ℕ, ◌+◌, ◌-◌, ◌<◌, ◌≤◌, List, [], ◌∷◌, ◌++◌, length, get_or, refl, sym, ◌∙◌, ap, subst, ⊎_elim, arith}
use Rattle.std.proofs.lemmas.List.{length_push, get_or_append_left}
use Rattle.std.proofs.Math.Seq.{get_or-append_seam}
use Rattle.std.proofs.lemmas.Bool.{cases_lt}
use Rattle.explore_law.specs.declared.instance.InstanceId.{InstanceId}
use Rattle.txn_programs.specs.Listing.{Listing}
use Rattle.explore_law.specs.Orders.{Config, first_config, HasTurn, turned, Leads}
use Rattle.explore_search.specs.Shelf.{Shelf, Adds, nowhere}
use Rattle.explore_search.specs.Indexed.{config_at}
use Rattle.explore_search.specs.declared.search.Came.{Came}
use Rattle.explore_search.specs.Charted.{CameBy, Charts, IsCharted}
use Rattle.explore_search.proofs.Growing.{Grows, grows_push}

pub charted_first : (l : Listing) → IsCharted l (first_config l ∷ []) []
charted_first l = record { each = refl; first = refl; steps = λ i none h. absurd (let low : i < 0 = h in omega (arith, low)) }

came_grows : (l : Listing) (ps qs : List Config) (j : ℕ) (step : Came) → Grows ps qs → j < length ps → CameBy l ps j step → CameBy l qs j step
came_grows l ps qs j step g low w =
    let from = g.same step.from (omega (arith, w.before, low)) in
    record {
      before = w.before;
      turn = subst (λ (p : Config). HasTurn l p step.by) (sym from) w.turn;
      leads = g.same j low ∙ w.leads ∙ ap (λ (p : Config). turned l p step.by) (sym from);
    }

came_last : (l : Listing) (ps : List Config) (q : Config) (step : Came) → step.from < length ps → HasTurn l (config_at ps step.from) step.by → q ≡ turned l (config_at ps step.from) step.by → CameBy l (ps ++ q ∷ []) (length ps) step
came_last l ps q step low turn leads =
    let from : config_at (ps ++ q ∷ []) step.from ≡ config_at ps step.from = get_or_append_left ps (q ∷ []) nowhere step.from low in
    record {
      before = low;
      turn = subst (λ (p : Config). HasTurn l p step.by) (sym from) turn;
      leads = get_or-append_seam ps q [] nowhere ∙ leads ∙ ap (λ (p : Config). turned l p step.by) (sym from);
    }

charted_pushed : (l : Listing) (ps : List Config) (q : Config) (came : List Came) (step : Came) → step.from < length ps → HasTurn l (config_at ps step.from) step.by → q ≡ turned l (config_at ps step.from) step.by
    → IsCharted l ps came → IsCharted l (ps ++ q ∷ []) (came ++ step ∷ [])
charted_pushed l ps q came step low turn leads h =
    let qs = ps ++ q ∷ [] in
    let more = came ++ step ∷ [] in
    record {
      each = omega (arith, length_push ps q, length_push came step, h.each);
      first = get_or_append_left ps (q ∷ []) nowhere 0 (omega (arith, h.each)) ∙ h.first;
      steps = λ i none within.
          ⊎_elim
          (λ (k : i < length came).
          let old = came_grows l ps qs (i + 1) (get_or came i none) (grows_push ps q) (omega (arith, k, h.each)) (h.steps i none k) in
          subst (CameBy l qs (i + 1)) (sym (get_or_append_left came (step ∷ []) none i k)) old)
          (λ (k : length came ≤ i).
          let same : i ≡ length came = omega (arith, k, within, length_push came step) in
          let last : length ps ≡ i + 1 = omega (arith, same, h.each) in
          let at : get_or more i none ≡ step = ap (λ (n : ℕ). get_or more n none) same ∙ get_or-append_seam came step [] none in
          let new : CameBy l qs (i + 1) step = subst (λ (n : ℕ). CameBy l qs n step) last (came_last l ps q step low turn leads) in
          subst (CameBy l qs (i + 1)) (sym at) new)
          (cases_lt i (length came));
    }

pub charted_adds : (l : Listing) (old new : Shelf) (q : Config) (came more : List Came) (step : Came) → Adds old new q → Charts came (length new.configs) step more
    → step.from < length old.configs → HasTurn l (config_at old.configs step.from) step.by → q ≡ turned l (config_at old.configs step.from) step.by
    → IsCharted l old.configs came → IsCharted l new.configs more
charted_adds l old new q came more step adds charts low turn leads h =
    ⊎_elim
    (λ w.
    let size : length new.configs ≡ length old.configs = ap length w.1 in
    let same : more ≡ came = charts.same (omega (arith, size, h.each)) in
    subst (λ (ps : List Config). IsCharted l ps more) (sym w.1) (subst (IsCharted l old.configs) (sym same) h))
    (λ w.
    let size : length new.configs ≡ length old.configs + 1 = ap length w.1 ∙ length_push old.configs q in
    let grown : more ≡ came ++ step ∷ [] = charts.more (omega (arith, size, h.each)) in
    subst (λ (ps : List Config). IsCharted l ps more) (sym w.1) (subst (IsCharted l (old.configs ++ q ∷ [])) (sym grown) (charted_pushed l old.configs q came step low turn leads h)))
    adds.added

-- one step back on the way
pub stepped_back : (l : Listing) (ps : List Config) (came : List Came) (at : ℕ) (step : Came) (turns : List InstanceId) (q : Config) → IsCharted l ps came → 0 < at → at < length ps → step ≡ get_or came (at - 1) step
    → Leads l (config_at ps at) turns q → (step.from < at) × Leads l (config_at ps step.from) (step.by ∷ turns) q
stepped_back l ps came at step turns q h some low is leads =
    let found : CameBy l ps (at - 1 + 1) (get_or came (at - 1) step) = h.steps (at - 1) step (omega (arith, some, low, h.each)) in
    let here : at - 1 + 1 ≡ at = omega (arith, some) in
    let by : CameBy l ps (at - 1 + 1) step = subst (CameBy l ps (at - 1 + 1)) (sym is) found in
    let w : CameBy l ps at step = subst (λ (n : ℕ). CameBy l ps n step) here by in
    (w.before, (w.turn, subst (λ (p : Config). Leads l p turns q) w.leads leads))
