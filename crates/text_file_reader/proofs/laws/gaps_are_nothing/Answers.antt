use Rattle.text_file_reader.proofs.Gaps.{gap-between, divides}
use Rattle.text_file_reader.proofs.SameTokens.{reads_as-gap}
use Rattle.text_file_reader.proofs.laws.gaps_are_nothing.Goals as goal

pub returns-clause-tokens : goal.returns-clause-tokens
returns-clause-tokens c = gap-between

pub returns-clause-file : goal.returns-clause-file
returns-clause-file c = reads_as-gap

pub returns-clause-places : goal.returns-clause-places
returns-clause-places c = divides
