-- The stores of a commit, one after another.
use Rattle.std.proofs.Common.{◌≡◌, ◌∙◌, ℕ, zero, suc, ◌-◌, Option, Some, None, length, refl, sym, ap, subst}
use Rattle.std.proofs.lemmas.Option.{same_Some}
use Rattle.txn_programs.specs.Listing.{Listing}
use Rattle.txn_programs.specs.declared.ast.TaskId.{TaskId}
use Rattle.world_law.specs.declared.events.Event.TheVariants.{Ask, Word}
use Rattle.world_law.specs.declared.events.Seen.TheVariants as seen
use Rattle.world_law.specs.World.{World, Committer, stores}
use Rattle.world_law.specs.Next.{Next}
use Rattle.world.specs.Lines.{IsCommitting, StoresCount, StoresSome}

-- how many stores are left
abbrev pub left_of : Option Committer → ℕ
left_of None = 0
left_of (Some c) = length (stores c.changes) - c.stored

abbrev pub left : World → ℕ
left w = left_of w.committer

count_more : (k : ℕ) (l : Listing) (w mid w' : World) → StoresCount k l w mid → Next l mid Word seen.Stored w' → StoresCount (suc k) l w w'
count_more zero l w mid w' h n = (w', subst (λ (v : World). Next l v Word seen.Stored w') h n, refl)
count_more (suc k) l w mid w' h n = (h.0, h.1, count_more k l h.0 mid w' h.2 n)

pub stores_more : (l k : Listing) (w mid w' : World) → k ≡ l → StoresSome l w mid → Next k mid Word seen.Stored w' → StoresSome l w w'
stores_more l k w mid w' own h n = (suc h.0, count_more h.0 l w mid w' h.1 (subst (λ (j : Listing). Next j mid Word seen.Stored w') own n))

-- the attempt that was asked commits
pub asked : (l : Listing) (w w' : World) (a : TaskId) (n : ℕ) → Next l w (Ask a) (seen.Commits n) w' → IsCommitting w' n
asked l w w' a n h = (_, ap (λ (v : World). v.committer) h.8, sym h.7)

same : (c d : Committer) (o : Option Committer) → o ≡ Some c → o ≡ Some d → c ≡ d
same c d o p q = same_Some _ _ (sym p ∙ q)

-- a store more
pub goes_on : (l : Listing) (w w' : World) (n : ℕ) → IsCommitting w n → Next l w Word seen.Stored w' → IsCommitting w' n
goes_on l w w' n h s = (_, ap (λ (v : World). v.committer) s.5, ap (λ (c : Committer). c.number) (sym (same h.0 s.0 w.committer h.1 s.3.0)) ∙ h.2)
