-- What each kind of fault says of the bytes, where it is the first that applies.
use Rattle.std.specs.Prelude.{◌≡◌, ◌<◌, ◌≤◌, ℕ, Bool, true, false, ◌&&◌, List, [], length, map}
use Rattle.std.specs.List.{list_all}
use Rattle.txn_programs.specs.Names.{are_distinct}
use Rattle.txn_programs.specs.Listing.{Listing}
use Rattle.txn_programs.specs.Standing.{upholds}
use Rattle.text_words.specs.Bytes.{is_allowed}
use Rattle.text_grammar.specs.Tree.{File, SpellsTree, longest}
use Rattle.text_grammar.specs.Scope.{standing}
use Rattle.text_grammar.specs.Resolving.{pair_name, table_name, condition_name, tx_name, uses_known}
use Rattle.text_grammar.specs.Spelling.{Declares}
use Rattle.text_words.specs.declared.fault.ReadFault.{ReadFault}
use Rattle.text_words.specs.declared.fault.ReadFault.TheVariants.{TooLong, BadByte, Shape, Name, Limit, Memory, Broken}

-- no variable, no table, no condition and no transaction is declared twice, no parameter has the name of a variable or of a
-- parameter before it, only declared names are used, and each run gives as many arguments as its transaction has parameters
abbrev pub names_known : File → Bool
names_known f =
    are_distinct (map pair_name f.vars) && (are_distinct (map table_name f.tables) && (are_distinct (map condition_name f.always)
    && (are_distinct (map tx_name f.txs) && uses_known (standing (map pair_name f.vars) (map table_name f.tables) []) f)))

abbrev pub IsFirst : List ℕ → ReadFault → Type 0
IsFirst bytes TooLong = longest bytes < length bytes
IsFirst bytes BadByte = (length bytes ≤ longest bytes) × (list_all is_allowed bytes ≡ false)
-- no tree is spelt
IsFirst bytes Shape = (length bytes ≤ longest bytes) × (list_all is_allowed bytes ≡ true) × ((f : File) → SpellsTree bytes f → ⊥)
-- a tree is spelt, whose names do not hold
IsFirst bytes Name = (f : File) × (SpellsTree bytes f × (names_known f ≡ false))
-- a tree is spelt, whose names hold, and yet no listing is declared
IsFirst bytes Limit = (f : File) × (SpellsTree bytes f × (names_known f ≡ true) × ((l : Listing) → Declares bytes l → ⊥))
-- a listing is declared, and a condition is not true of its initial values
IsFirst bytes Broken = (l : Listing) × (Declares bytes l × (upholds l l.initial ≡ false))
IsFirst bytes Memory = ⊥
