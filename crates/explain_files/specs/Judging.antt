-- Which names of a file are wrong, and which is the first.
use Rattle.std.specs.Prelude.{◌≡◌, ◌<◌, ◌≤◌, ℕ, ◌+◌, ◌-◌, Bool, if◌then◌else◌, ◌||◌, ◌==◌, Option, Some, None, List, [], ◌∷◌, ◌++◌, length, take, drop, reverse, position, slice_index_or}
use Rattle.std.specs.List.{list_any}
use Rattle.std.specs.Option.{option_map}
use Rattle.std.specs.Str.{bytes_eq}
use Rattle.text_words.specs.Tokens.{Lexeme, Opens, Closes, tokens}
use Rattle.text_words.specs.Tokens as token
use Rattle.text_grammar.specs.declared.file.FileForm.{FileForm}
use Rattle.explain_files.specs.declared.wanted.NameUse.TheVariants as name
use Rattle.explain_files.specs.declared.wanted.Role.{Role}
use Rattle.explain_files.specs.declared.wanted.Role.TheVariants as role
use Rattle.explain_files.specs.declared.names.NameFault.{NameFault}
use Rattle.explain_files.specs.declared.names.NameFault.TheVariants.{Twice, OfVariable, NoVariable, NoTable, NoValue, IsParameter, NoTransaction, Arguments}
use Rattle.explain_files.specs.Tokens.{IsApart}
use Rattle.explain_files.specs.Walking.{IsTokenPlace}
use Rattle.explain_files.specs.Roles.{role_at}

-- ---- the first token of which something is said

-- a token from a place on, where it begins, and where the text goes on behind it
pub record IsNext (bytes : List ℕ) (from place next : ℕ) (t : Lexeme) : Type 0 where
  pub here : IsTokenPlace bytes place
  pub same : tokens (drop from bytes) ≡ tokens (drop place bytes)
  pub before : tokens (take place bytes) ≡ tokens (take from bytes)
  pub token : tokens (drop place bytes) ≡ t ∷ tokens (drop next bytes)
  pub one_more : tokens (take next bytes) ≡ tokens (take place bytes) ++ t ∷ []
  pub apart : IsApart bytes next
  pub behind : from ≤ place
  pub further : place < next
  pub bound : next ≤ length bytes

-- what is so of a token, by those before it, the nearest of them first, and by those behind it
abbrev pub OfToken : Type 1
OfToken = List Lexeme → Lexeme → List Lexeme → Type 0

-- what is said of a token, if anything is, by the same
abbrev pub Saying : Type 0 → Type 0
Saying F = List Lexeme → Lexeme → List Lexeme → Option F

-- each of these tokens, the last of them first, is so, where the others stand behind them
abbrev pub EachToken : OfToken → List Lexeme → List Lexeme → Type 0
EachToken P [] behind = Unit {0}
EachToken P (t ∷ before) behind = P before t behind × EachToken P before (t ∷ behind)

-- so is each token of the text
pub record AllTokens (P : OfToken) (bytes : List ℕ) : Type 0 where
  pub before : List Lexeme
  pub parts : tokens bytes ≡ reverse before
  pub each : EachToken P before []

-- of a token nothing is said
abbrev pub IsRight : {F : Type 0} → Saying F → OfToken
IsRight fault before t behind = fault before t behind ≡ None

-- the token at the place is the first of the text of which something is said, by what stands round it, and this is said
pub record IsFirstSaid {F : Type 0} (fault : Saying F) (bytes : List ℕ) (place : ℕ) (said : F) : Type 0 where
  pub here : IsTokenPlace bytes place
  pub before : List Lexeme
  pub token : Lexeme
  pub behind : List Lexeme
  pub front : tokens (take place bytes) ≡ reverse before
  pub at : tokens (drop place bytes) ≡ token ∷ behind
  pub wrong : fault before token behind ≡ Some said
  pub first : EachToken (IsRight fault) before (token ∷ behind)

-- ---- names

-- the names that are declared
pub record Names : Type 0 where
  pub variables : List (List ℕ)
  pub tables : List (List ℕ)
  pub conditions : List (List ℕ)
  pub transactions : List (List ℕ)
  -- how many parameters each transaction has
  pub arities : List ℕ
  -- the parameters of the last one
  pub parameters : List (List ℕ)

-- all but the last, and this number in its place
abbrev pub with_last : List ℕ → ℕ → List ℕ
with_last ns n = take (length ns - 1) ns ++ n ∷ []

-- and one token more, which is for this
abbrev pub with_token : Names → Role → Lexeme → Names
with_token known (role.Name name.Variable) (token.Name text) = record known { variables = known.variables ++ text ∷ [] }
with_token known (role.Name name.Table) (token.Name text) = record known { tables = known.tables ++ text ∷ [] }
with_token known (role.Name name.Condition) (token.Name text) = record known { conditions = known.conditions ++ text ∷ [] }
with_token known (role.Name name.Transaction) (token.Name text) =
    record known { transactions = known.transactions ++ text ∷ []; arities = known.arities ++ 0 ∷ []; parameters = [] }
with_token known (role.Name name.Parameter) (token.Name text) =
    record known { arities = with_last known.arities (length known.parameters + 1); parameters = known.parameters ++ text ∷ [] }
with_token known used t = known

abbrev pub names_in : FileForm → List Lexeme → Names
names_in form [] = record { variables = []; tables = []; conditions = []; transactions = []; arities = []; parameters = [] }
names_in form (t ∷ before) = with_token (names_in form before) (role_at form before) t

abbrev pub is_among : List ℕ → List (List ℕ) → Bool
is_among text names = list_any (bytes_eq text) names

-- a parameter, which has a name of its own
abbrev pub parameter_fault : Names → List ℕ → Option NameFault
parameter_fault known text =
    if is_among text known.variables then Some OfVariable
    else (if is_among text known.parameters then Some (Twice name.Parameter)
    else None)

-- what is set, which is a variable
abbrev pub target_fault : Names → List ℕ → Option NameFault
target_fault known text =
    if is_among text known.variables then None
    else (if is_among text known.parameters then Some IsParameter
    else Some NoVariable)

-- a table of which cells are read or put
abbrev pub cells_fault : Names → List ℕ → Option NameFault
cells_fault known text = if is_among text known.tables then None else Some NoTable

-- nothing has the name, where these are the parameters
abbrev pub nothing_of : List (List ℕ) → NameFault
nothing_of [] = NoVariable
nothing_of (p ∷ more) = NoValue

-- a name in an expression
abbrev pub value_fault : Names → List ℕ → Option NameFault
value_fault known text = if is_among text known.parameters || is_among text known.variables then None else Some (nothing_of known.parameters)

-- how many parameters a transaction has, where it is declared
abbrev pub arity_of : Names → List ℕ → Option ℕ
arity_of known text = option_map (λ place. slice_index_or known.arities place 0) (position (bytes_eq text) known.transactions)

-- how many integers stand next
abbrev pub integers_in : List Lexeme → ℕ
integers_in (token.Int value ∷ ts) = integers_in ts + 1
integers_in ts = 0

-- how many arguments a run gives: so many integers stand behind its name, but for the count
abbrev pub given_in : List Lexeme → ℕ
given_in ts = integers_in ts - 1

-- what is run, where so many arguments are given
abbrev pub run_fault : Option ℕ → ℕ → Option NameFault
run_fault None given = Some NoTransaction
run_fault (Some wanted) given = if given == wanted then None else Some (Arguments wanted given)

-- what is wrong with a name that is for this, where these are declared before it
abbrev pub name_fault : Names → Role → List ℕ → List Lexeme → Option NameFault
name_fault known (role.Name name.Variable) text behind = if is_among text known.variables then Some (Twice name.Variable) else None
name_fault known (role.Name name.Table) text behind = if is_among text known.tables then Some (Twice name.Table) else None
name_fault known (role.Name name.Condition) text behind = if is_among text known.conditions then Some (Twice name.Condition) else None
name_fault known (role.Name name.Transaction) text behind = if is_among text known.transactions then Some (Twice name.Transaction) else None
name_fault known (role.Name name.Parameter) text behind = parameter_fault known text
name_fault known (role.Name name.Target) text behind = target_fault known text
name_fault known (role.Name name.Cells) text behind = cells_fault known text
name_fault known (role.Name name.Called) text behind = run_fault (arity_of known text) (given_in behind)
name_fault known role.Value text behind = value_fault known text
name_fault known role.Word text behind = None
name_fault known role.List text behind = None
name_fault known (role.Number used) text behind = None

abbrev pub name_fault_for : Names → Role → Lexeme → List Lexeme → Option NameFault
name_fault_for known used (token.Name text) behind = name_fault known used text behind
name_fault_for known used Opens behind = None
name_fault_for known used Closes behind = None
name_fault_for known used (token.Int value) behind = None
name_fault_for known used token.Other behind = None

abbrev pub name_fault_at : FileForm → Saying NameFault
name_fault_at form before t behind = name_fault_for (names_in form before) (role_at form before) t behind
