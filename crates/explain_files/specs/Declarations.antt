-- Declarations that cost too much or are not true, and where their names stand.
use Rattle.std.specs.Prelude.{◌≡◌, ℕ, ◌+◌, true, false, Some, List, ◌∷◌, length, map, take, drop, reverse, Ok, Result}
use Rattle.std.specs.List.{slice_get, list_all}
use Rattle.txn_programs.specs.Tree.{Condition, Transaction}
use Rattle.txn_programs.specs.Listing.{Listing, conditions}
use Rattle.txn_programs.specs.Meaning.{State, truth}
use Rattle.txn_programs.specs.Scope.{ConditionsKnown}
use Rattle.txn_programs.specs.Standing.{is_true, upholds}
use Rattle.txn_programs.specs.Cost.{conditions_cost}
use Rattle.txn_programs.specs.Limits.{conditions_fit}
use Rattle.txn_declarations.specs.Beside.{fits_beside}
use Rattle.text_words.specs.Answers.{◌>>=◌}
use Rattle.text_words.specs.Tokens.{Lexeme, tokens}
use Rattle.text_words.specs.Tokens as token
use Rattle.text_words.specs.declared.fault.ReadFault.{ReadFault}
use Rattle.text_grammar.specs.Reading.{tree_of}
use Rattle.text_grammar.specs.Resolving.{resolved}
use Rattle.text_grammar.specs.declared.file.FileForm.{FileForm}
use Rattle.explain_files.specs.declared.wanted.NameUse.{NameUse}
use Rattle.explain_files.specs.declared.wanted.NameUse.TheVariants as name
use Rattle.explain_files.specs.declared.wanted.Role.TheVariants as role
use Rattle.explain_files.specs.Walking.{IsTokenPlace}
use Rattle.explain_files.specs.Roles.{role_at, form_of}
use Rattle.explain_files.specs.Judging.{OfToken, EachToken}

-- what the bytes declare, where their names are known and their numbers are in range
abbrev pub declared_by : List ℕ → Result Listing ReadFault
declared_by bytes = tree_of bytes >>= λ file. resolved file

-- they declare something
abbrev pub IsListed : List ℕ → Type 0
IsListed bytes = (l : Listing) × (declared_by bytes ≡ Ok l)

-- a token of a file of this form is not this name where it declares something of this kind
abbrev pub DoesNotDeclare : FileForm → NameUse → List ℕ → OfToken
DoesNotDeclare form used text before t behind = role_at form before ≡ role.Name used → t ≡ token.Name text → ⊥

-- at the place stands the first token that declares this name
pub record IsDeclared (bytes : List ℕ) (place : ℕ) (used : NameUse) (text : List ℕ) : Type 0 where
  pub here : IsTokenPlace bytes place
  -- the tokens before it, the nearest of them first, and those behind it
  pub before : List Lexeme
  pub behind : List Lexeme
  pub front : tokens (take place bytes) ≡ reverse before
  pub at : tokens (drop place bytes) ≡ token.Name text ∷ behind
  pub for : role_at (form_of (tokens bytes)) before ≡ role.Name used
  pub first : EachToken (DoesNotDeclare (form_of (tokens bytes)) used text) before (token.Name text ∷ behind)

-- the first standing condition with which those up to it are over the limits has this name
pub record IsOver (always : List (List ℕ × Condition)) (text : List ℕ) : Type 0 where
  pub number : ℕ
  pub condition : Condition
  pub stands : slice_get always number ≡ Some (text, condition)
  pub before : conditions_fit (map (λ a. a.1) (take number always)) ≡ true
  pub over : conditions_fit (map (λ a. a.1) (take (number + 1) always)) ≡ false

-- the first transaction that is over the limits, beside standing conditions of this cost, has this name
pub record IsOverBeside (cost : ℕ) (transactions : List Transaction) (text : List ℕ) : Type 0 where
  pub number : ℕ
  pub transaction : Transaction
  pub stands : slice_get transactions number ≡ Some transaction
  pub named : transaction.name ≡ text
  pub before : list_all (fits_beside cost) (take number transactions) ≡ true
  pub over : fits_beside cost transaction ≡ false

-- the first declaration that is over the limits, the standing conditions before the transactions
abbrev pub IsCostly : Listing → NameUse → List ℕ → Type 0
IsCostly l name.Condition text = IsOver l.always text
IsCostly l name.Transaction text = (conditions_fit (conditions l) ≡ true) × IsOverBeside (conditions_cost (conditions l)) l.transactions text
IsCostly l name.Variable text = ⊥
IsCostly l name.Table text = ⊥
IsCostly l name.Parameter text = ⊥
IsCostly l name.Target text = ⊥
IsCostly l name.Cells text = ⊥
IsCostly l name.Called text = ⊥

-- none is
abbrev pub CostsHold : Listing → Type 0
CostsHold l = (conditions_fit (conditions l) ≡ true) × (list_all (fits_beside (conditions_cost (conditions l))) l.transactions ≡ true)

-- only declared variables and cells are named in the conditions, and one of them is not true of the initial values
pub record IsUntrue (l : Listing) : Type 0 where
  pub known : ConditionsKnown (length l.initial) (conditions l)
  pub untrue : upholds l l.initial ≡ false

-- the first standing condition that is not true of these values has this name
pub record IsFalse (always : List (List ℕ × Condition)) (values : State) (text : List ℕ) : Type 0 where
  pub number : ℕ
  pub condition : Condition
  pub stands : slice_get always number ≡ Some (text, condition)
  pub before : list_all (λ a. is_true (truth a.1 values)) (take number always) ≡ true
  pub untrue : is_true (truth condition values) ≡ false

-- at the place stands the name of that declaration
pub record IsCostlyAt (bytes : List ℕ) (place : ℕ) : Type 0 where
  pub listing : Listing
  pub declared : declared_by bytes ≡ Ok listing
  pub used : NameUse
  pub text : List ℕ
  pub costly : IsCostly listing used text
  pub at : IsDeclared bytes place used text

-- at the place stands the name of that condition
pub record IsFalseAt (bytes : List ℕ) (place : ℕ) : Type 0 where
  pub listing : Listing
  pub declared : declared_by bytes ≡ Ok listing
  pub text : List ℕ
  pub untrue : IsFalse listing.always listing.initial text
  pub at : IsDeclared bytes place name.Condition text
