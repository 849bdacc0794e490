-- The lines of what is seen.
use Rattle.std.specs.Prelude.{ℕ, ◌+◌, List, [], ◌∷◌, ◌++◌, codes}
use Rattle.std.specs.Fmt.{decimal}
use Rattle.txn_programs.specs.Listing.{Listing}
use Rattle.text_report_printer.specs.Names.{value_name}
use Rattle.text_report_printer.specs.ReportText.{outcome_text}
use Rattle.text_words.specs.Words.{line}
use Rattle.world_law.specs.declared.events.Seen.{Seen}
use Rattle.world_law.specs.declared.events.Seen.TheVariants.{Idle, Needs, Ended, Loaded, Stale, Parked, Commits, Stored, Committed, Dropped, Spent, Checks, Changed}

abbrev pub seen_text : Listing → Seen → List ℕ
seen_text l Idle = codes "idle"
seen_text l (Needs x) = codes "needs " ++ value_name l x.0
seen_text l (Ended o) = codes "ended " ++ outcome_text l o
seen_text l Loaded = codes "loaded"
seen_text l Stale = codes "stale"
seen_text l Parked = codes "parked"
seen_text l (Commits n) = codes "commits " ++ decimal n
seen_text l Stored = codes "stored"
seen_text l (Committed n) = codes "committed " ++ decimal n
seen_text l Dropped = codes "dropped"
seen_text l Spent = codes "memory"
seen_text l (Checks x) = codes "checks " ++ value_name l x.0
seen_text l Changed = codes "changed"

-- K SEEN
abbrev pub seen_line : Listing → ℕ → Seen → List ℕ
seen_line l k seen = line (decimal k ∷ seen_text l seen ∷ [])

-- a line for each, numbered from k on
abbrev pub seen_lines : Listing → ℕ → List Seen → List ℕ
seen_lines l k [] = []
seen_lines l k (s ∷ ss) = seen_line l k s ++ seen_lines l (k + 1) ss
