use Rattle.std.proofs.Common.{◌∙◌, sym}
use Rattle.text_words.proofs.Steps.{ok_is}
use Rattle.text_file_reader.proofs.Spelt.{spelled_listing}
use Rattle.text_file_reader.proofs.laws.spells_one.Goals as goal

pub returns : goal.returns
returns c bytes l m p q = ok_is l m (sym (spelled_listing bytes l p) ∙ spelled_listing bytes m q)
