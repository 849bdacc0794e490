-- The catalogue that goes on where a report ended.
use Rattle.txn_programs.specs.Listing.{Listing}
use Rattle.txn_programs.specs.Told.{Told, now_of}
use Rattle.txn.specs.Values.{with_values}
use Rattle.checker.specs.Chapters.{next_chapter}
use Rattle.file_chains.specs.declared.next.Next.{Next}
use Rattle.file_chains.specs.declared.next.Next.TheVariants.{Again, Chapter}

-- as it is, but that each variable begins at its present value
abbrev pub going_on : Listing → Told → Listing
going_on l r = with_values l (now_of r).state

-- which it is, by what is asked for
abbrev pub next_of : Next → Listing → Told → Listing
next_of Again l r = going_on l r
next_of Chapter l r = next_chapter l r
