-- The names that the code writes, as texts.
use Rattle.std.specs.Prelude.{map, string_bytes}
use Rattle.text_grammar.specs.Scope.{Scope, inside}
use Rattle.text_grammar.specs.Written.{scope_of}
use Rattle.text_file_printer.specs.declared.forms.Scope.{Scope as Names}

abbrev pub view_scope : Names → Scope
view_scope s = inside (scope_of s.catalogue.now) (map string_bytes s.params.now)
