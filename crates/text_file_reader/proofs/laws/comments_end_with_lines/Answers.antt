use Rattle.text_file_reader.proofs.Gaps.{note-before_newline, note-at_end}
use Rattle.text_file_reader.proofs.laws.comments_end_with_lines.Goals as goal

pub returns-clause-line : goal.returns-clause-line
returns-clause-line c = note-before_newline

pub returns-clause-file : goal.returns-clause-file
returns-clause-file c = note-at_end
