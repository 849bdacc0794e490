use Rattle.std.proofs.Common.{length, map}
use Rattle.std.specs.Prelude.{codes}
use Rattle.text_words.specs.Tokens.{tokens}
use Rattle.text_words.specs.TokenReading.{begins, all_of}
use Rattle.text_grammar.specs.Reading.{always_at}
use Rattle.text_grammar.specs.Resolving.{always_in, condition_name}
use Rattle.text_resolver.specs.Texts.{texts}
use Rattle.text_resolver.specs.Scopes.{view_scope}
use Rattle.text_resolver.specs.Parts.{view_condition}
use Rattle.text_file_reader.proofs.AtOnce.{SoFar}
use Rattle.text_file_reader.proofs.at_once.standing_at_once.Given as goal

abbrev pub invariant-standing : goal.invariant-standing
invariant-standing l = SoFar (codes "always") (always_at l.fn.file_form) (always_in (view_scope l.fn.outer)) condition_name (all_of (begins (codes "always")) (always_at l.fn.file_form) (tokens l.fn.bytes)) (map view_condition l.made.items) (texts l.names.keys) (tokens l.rest)

abbrev pub decreases-standing : goal.decreases-standing
decreases-standing l = length (tokens l.rest)
