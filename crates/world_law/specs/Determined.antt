-- An event has one answer and one world after it, out of memory aside.
use Rattle.std.specs.Prelude.{◌≡◌, ◌≢◌}
use Rattle.txn_programs.specs.Listing.{Listing}
use Rattle.world_law.specs.declared.events.Event.{Event}
use Rattle.world_law.specs.declared.events.Seen.{Seen}
use Rattle.world_law.specs.declared.events.Seen.TheVariants.{Spent}
use Rattle.world_law.specs.World.{World}
use Rattle.world_law.specs.Next.{Next}

-- two answers of one event other than running out of memory are equal, and so are the worlds after them
abbrev pub HasOneAnswer : Listing → World → Type 0
HasOneAnswer l w = (e : Event) (s s' : Seen) (v v' : World) → Next l w e s v → Next l w e s' v' → s ≢ Spent → s' ≢ Spent
    → (s ≡ s') × (v ≡ v')

-- the worlds if memory runs out, are equal, and it comes only where another answer could
abbrev pub HasOneRefusal : Listing → World → Type 0
HasOneRefusal l w = (e : Event) (v v' : World) → Next l w e Spent v → Next l w e Spent v'
    → (v ≡ v') × ((s : Seen) × (u : World) × (s ≢ Spent) × Next l w e s u)
