-- Why a file does not go on where an earlier report ended.
use Rattle.std.specs.Prelude.{◌≡◌, ◌≢◌, ◌<◌, ℕ, List, [], ◌++◌, Option, Some, None, length, codes}
use Rattle.txn_programs.specs.Listing.{Listing}
use Rattle.txn_programs.specs.Told.{Told}
use Rattle.text_line_reader.specs.Lines.{lines}
use Rattle.text_line_reader.specs.ReportView.{view_text}
use Rattle.txn_text.specs.Canonical.{file_text}
use Rattle.checker.specs.Chapters.{beginning, next_chapter}
use Rattle.explain_reports.specs.Explaining.{whole_at}
use Rattle.explain_reports.specs.declared.gaps.Difference.{Difference}
use Rattle.explain_reports.specs.declared.gaps.Difference.TheVariants as difference

-- these are the first lines at which two texts differ; there is none where a text has ended
pub record DifferAt (wanted stands : List ℕ) (due here : Option (List ℕ)) : Type 0 where
  pub place : ℕ
  pub before : (i : ℕ) → i < place → whole_at i (lines wanted) ≡ whole_at i (lines stands)
  pub due_is : whole_at place (lines wanted) ≡ due
  pub here_is : whole_at place (lines stands) ≡ here
  pub other : due ≢ here

-- a line, or that there is none
abbrev pub side_text : Option (List ℕ) → List ℕ
side_text None = codes "nothing"
side_text (Some line) = line

abbrev pub gap_line : Option (List ℕ) → Option (List ℕ) → List ℕ
gap_line due here = side_text due ++ (codes " is wanted; here stands " ++ (side_text here ++ codes "\n"))

-- two texts have the same lines
abbrev pub SameLines : List ℕ → List ℕ → Type 0
SameLines wanted stands = (i : ℕ) → whole_at i (lines wanted) ≡ whole_at i (lines stands)

abbrev pub IsDifference : List ℕ → List ℕ → Difference → Type 0
IsDifference wanted stands difference.None = SameLines wanted stands
IsDifference wanted stands (difference.Lines due here) = DifferAt wanted stands (view_text due) (view_text here)

-- the line that says at which lines two texts differ first; nothing where they have the same lines
pub data IsGapLine (wanted stands : List ℕ) (line : List ℕ) : Type 0 where
  Differ : (due here : Option (List ℕ)) → DifferAt wanted stands due here → line ≡ gap_line due here
      → IsGapLine wanted stands line
  Same : SameLines wanted stands → line ≡ [] → IsGapLine wanted stands line

-- what is said where a file goes elsewhere: the verdict, and at which lines the one texts of the next chapter and of
-- the file's beginning differ first
pub record IsGap (l : Listing) (r : Told) (next : Listing) (text : List ℕ) : Type 0 where
  pub line : List ℕ
  pub tells : IsGapLine (file_text (next_chapter l r)) (file_text (beginning (length r.parked) next)) line
  pub text_is : text ≡ codes "bad 7\n" ++ line
