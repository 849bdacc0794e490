-- The number of each part of a lawful report, and the line of each verdict.
use Rattle.std.specs.Prelude.{ℕ, List, codes}
use Rattle.checker.specs.declared.verdict.Part.{Part}
use Rattle.checker.specs.declared.verdict.Part.TheVariants.{Text, Base, Entries, Present, Tasks, Parked}
use Rattle.checker.specs.declared.verdict.Verdict.{Verdict}
use Rattle.checker.specs.declared.verdict.Verdict.TheVariants.{Good, Bad}
use Rattle.checker.specs.declared.chapter.ChapterVerdict.{ChapterVerdict}
use Rattle.checker.specs.declared.chapter.ChapterVerdict.TheVariants as chapter

abbrev pub number_of : Part → ℕ
number_of Text = 1
number_of Base = 2
number_of Entries = 3
number_of Present = 4
number_of Tasks = 5
number_of Parked = 6

abbrev pub bad_line : Part → List ℕ
bad_line Text = codes "bad 1\n"
bad_line Base = codes "bad 2\n"
bad_line Entries = codes "bad 3\n"
bad_line Present = codes "bad 4\n"
bad_line Tasks = codes "bad 5\n"
bad_line Parked = codes "bad 6\n"

-- `good`, or `bad` and the number of the part; and a newline
abbrev pub line_of : Verdict → List ℕ
line_of Good = codes "good\n"
line_of (Bad part) = bad_line part

-- the same of the earlier report
abbrev pub before_line : Part → List ℕ
before_line Text = codes "before bad 1\n"
before_line Base = codes "before bad 2\n"
before_line Entries = codes "before bad 3\n"
before_line Present = codes "before bad 4\n"
before_line Tasks = codes "before bad 5\n"
before_line Parked = codes "before bad 6\n"

-- the line of a verdict on a chapter
abbrev pub chapter_line : ChapterVerdict → List ℕ
chapter_line chapter.Good = line_of Good
chapter_line (chapter.Bad part) = bad_line part
chapter_line (chapter.Before part) = before_line part
chapter_line chapter.Elsewhere = codes "bad 7\n"
