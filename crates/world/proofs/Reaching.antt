-- Events lead on, and what holds of each world that they lead to.
use Rattle.std.proofs.Common.{◌≡◌, ℕ, ◌+◌, List, [], ◌∷◌, ◌++◌, take, Some, slice_get, refl, sym, ap, subst}
use Rattle.txn_programs.specs.Listing.{Listing}
use Rattle.world_law.specs.declared.events.Event.{Event}
use Rattle.world_law.specs.declared.events.Seen.{Seen}
use Rattle.world_law.specs.World.{World, IsOpening}
use Rattle.world_law.specs.Next.{Next, Run, Reachable}
use Rattle.world.specs.declared.scene.Scene.{Scene}
use Rattle.world.specs.Inside.{listing, world_of, Leads}
use Rattle.world.specs.Runs.{LeadTo}
use Rattle.world.proofs.Working.{take_more}

pub run_more : (k : Listing) (events : List Event) (answers : List Seen) (w v u : World) (e : Event) (s : Seen) → Run k w events answers v → Next k v e s u → Run k w (events ++ e ∷ []) (answers ++ s ∷ []) u
run_more k [] [] w v u e s r n = (u, subst (λ (x : World). Next k x e s u) r n, refl)
run_more k (a ∷ es) (b ∷ ss) w v u e s r n = (r.0, r.1, run_more k es ss r.0 v u e s r.2 n)
run_more k [] (b ∷ ss) w v u e s r n = absurd r
run_more k (a ∷ es) [] w v u e s r n = absurd r

pub reached_more : (k : Listing) (v u : World) (e : Event) (s : Seen) → Reachable k v → Next k v e s u → Reachable k u
reached_more k v u e s r n = (r.0, r.1, r.2 ++ e ∷ [], r.3 ++ s ∷ [], run_more k r.2 r.3 r.0 v u e s r.4 n)

pub reached_opening : (k : Listing) (w : World) → IsOpening k w → Reachable k w
reached_opening k w o = (w, o, [], [], refl)

pub reached_led : (c c' : Scene) (e : Event) (s : Seen) → Reachable (listing c) (world_of c) → Leads c e s c' → Reachable (listing c') (world_of c')
reached_led c c' e s r h = subst (λ (k : Listing). Reachable k (world_of c')) (sym (ap (λ (k : _). k.now) h.catalogue)) (reached_more (listing c) (world_of c) (world_of c') e s r h.next)

-- one event more of a list
pub leads_more : (l l' : Listing) (events : List Event) (n : ℕ) (w v u : World) (e : Event) (s : Seen) → slice_get events n ≡ Some e → l' ≡ l → LeadTo l w (take n events) v → Next l' v e s u → LeadTo l w (take (n + 1) events) u
leads_more l l' events n w v u e s at same r h =
    subst (λ (es : List Event). LeadTo l w es u) (sym (take_more events n e at))
    (r.0 ++ s ∷ [], run_more l (take n events) r.0 w v u e s r.1 (subst (λ (k : Listing). Next k v e s u) same h))
