use Rattle.std.proofs.Common.{sym, subst}
use Rattle.txn_programs.specs.Listing.{Listing}
use Rattle.text_words.specs.Answers.{Gives}
use Rattle.text_resolver.specs.Parts.{view_parts}
use Rattle.text_grammar.specs.Reading.{tree_of}
use Rattle.text_file_reader.proofs.AtOnce.{listing_is}
use Rattle.text_file_reader.proofs.Ids.{ids_of_parts}
use Rattle.text_file_reader.proofs.read.read.Goals as goal

abbrev same : Listing → Listing
same c = c

pub built-requires : goal.built-requires
built-requires c = ids_of_parts (tree_of c.args.bytes.now) (view_parts c.in-Ok.parts) c.in-Ok.ensures

pub returns-in-Ok : goal.returns-in-Ok
returns-in-Ok c = subst (Gives same c.built.result) (sym (listing_is c.args.bytes.now (view_parts c.in-Ok.parts) c.in-Ok.ensures)) c.built.ensures
