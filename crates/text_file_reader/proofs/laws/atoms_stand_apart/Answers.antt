use Rattle.text_words.proofs.Lexing.{tokens-text}
use Rattle.text_file_reader.proofs.laws.atoms_stand_apart.Goals as goal

pub returns : goal.returns
returns c = tokens-text
