use Rattle.text_resolver.specs.Parts.{view_parts}
use Rattle.text_grammar.specs.View.{view_file}
use Rattle.text_file_reader.proofs.Ids.{resolved_holds}
use Rattle.text_file_reader.proofs.read.read_in_passes.Goals as goal

pub built-requires : goal.built-requires
built-requires c = resolved_holds (view_file c.in_ok-file.file) (view_parts c.in_ok-parts.parts) c.in_ok-parts.ensures
