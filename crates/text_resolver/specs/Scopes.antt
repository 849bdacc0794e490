-- The names that may stand in a condition, a statement or an expression, as texts.
use Rattle.std.specs.Prelude.{ℕ, Bool, List, Result, Ok, Err, if◌then◌else◌}
use Rattle.txn_programs.specs.Names.{are_new}
use Rattle.text_words.specs.declared.fault.ReadFault.{ReadFault}
use Rattle.text_words.specs.declared.fault.ReadFault.TheVariants.{Name}
use Rattle.text_grammar.specs.Scope.{Scope}
use Rattle.text_grammar.specs.Tree.{Declaration}
use Rattle.text_resolver.specs.declared.names.Scope.{Scope as Names}
use Rattle.text_resolver.specs.Texts.{texts}

abbrev pub view_scope : Names → Scope
view_scope s =
    record {
      variables = texts s.vars.now.keys;
      tables = texts s.tables.now.keys;
      spans = s.spans.now;
      parameters = texts s.params.now.keys;
    }

-- these parameters, where none has the name of a variable or of one before it
abbrev pub parameters_behind : List (List ℕ) → List (List ℕ) → Result (List (List ℕ)) ReadFault
parameters_behind variables parameters = if are_new variables parameters then Ok parameters else Err Name

-- whether a transaction's are such
abbrev pub has_own_parameters : Scope → Declaration → Bool
has_own_parameters s t = are_new s.variables t.parameters
