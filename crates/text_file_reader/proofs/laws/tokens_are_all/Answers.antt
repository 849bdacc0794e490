use Rattle.text_file_reader.proofs.SameTokens.{reads_as}
use Rattle.text_file_reader.proofs.laws.tokens_are_all.Goals as goal

pub returns : goal.returns
returns c = reads_as
