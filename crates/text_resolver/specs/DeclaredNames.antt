-- The names that a file declares, by their kinds.
use Rattle.std.specs.Prelude.{ℕ, List, [], map, Result, Ok}
use Rattle.txn_programs.specs.Listing.{Listing}
use Rattle.text_words.specs.declared.fault.ReadFault.{ReadFault}
use Rattle.text_words.specs.Answers.{◌>>=◌}
use Rattle.text_grammar.specs.Tree.{File}
use Rattle.text_grammar.specs.Scope.{Scope, standing}
use Rattle.text_grammar.specs.Resolving.{declared_after, pair_name, table_name, condition_name, tx_name, converted}
use Rattle.text_resolver.specs.declared.judging.DeclaredNames.{DeclaredNames as Sets}
use Rattle.text_resolver.specs.Texts.{texts}

pub record DeclaredNames : Type 0 where
  pub variables : List (List ℕ)
  pub tables : List (List ℕ)
  pub transactions : List (List ℕ)

abbrev pub view_declared : Sets → DeclaredNames
view_declared s = record { variables = texts s.vars.keys; tables = texts s.tables.keys; transactions = texts s.txs.keys }

abbrev pub no_names : DeclaredNames
no_names = record { variables = []; tables = []; transactions = [] }

-- those of a file, where none of a kind comes twice, be they of conditions
abbrev pub declared_in : File → Result DeclaredNames ReadFault
declared_in file =
    declared_after [] (map pair_name file.vars) >>= λ vars.
    declared_after [] (map table_name file.tables) >>= λ tables.
    declared_after [] (map condition_name file.always) >>= λ conditions.
    declared_after [] (map tx_name file.txs) >>= λ txs.
    Ok (record { variables = vars; tables = tables; transactions = txs })

-- by these names alone names are judged
abbrev pub known_scope : DeclaredNames → Scope
known_scope names = standing names.variables names.tables []

-- the listing of a file that declares them
abbrev pub converted_by : DeclaredNames → File → Result Listing ReadFault
converted_by names file = converted names.variables names.tables names.transactions file
