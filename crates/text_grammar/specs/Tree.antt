-- Files as trees, and the tokens that spell them: the grammar, one clause a form.
use Rattle.std.specs.Prelude.{◌≡◌, ℕ, suc, ◌≤◌, ℤ, pos, Bool, true, false, ◌&&◌, List, [], ◌∷◌, ◌++◌, map, length, max, codes, nat_eq, if◌then◌else◌}
use Rattle.std.specs.List.{flat_map, list_all, AllByRecursion, starts_with}
use Rattle.text_words.specs.Bytes.{is_allowed}
use Rattle.text_words.specs.Tokens.{Lexeme, Opens, Closes, tokens}
use Rattle.text_words.specs.Tokens as token
use Rattle.txn_programs.specs.declared.ast.Fold.{Fold}
use Rattle.txn_programs.specs.declared.ast.Fold.TheVariants as fold
use Rattle.text_grammar.specs.declared.words.Operator.{Operator}
use Rattle.text_grammar.specs.declared.words.Operator.TheVariants as operator
use Rattle.text_grammar.specs.declared.words.Comparison.{Comparison}
use Rattle.text_grammar.specs.declared.words.Comparison.TheVariants as comparison
use Rattle.text_grammar.specs.declared.words.Connective.{Connective}
use Rattle.text_grammar.specs.declared.words.Connective.TheVariants as connective
use Rattle.text_grammar.specs.declared.words.Keyword.{Keyword}
use Rattle.text_grammar.specs.declared.words.Keyword.TheVariants as keyword
use Rattle.text_grammar.specs.declared.file.FileForm.{FileForm}
use Rattle.text_grammar.specs.declared.file.FileForm.TheVariants.{One, Two, Three}

-- names are texts, and integers have no bounds
pub data Expr : Type 0 where
  Int : (value : ℤ) → Expr
  Name : (name : List ℕ) → Expr
  At : (table : List ℕ) → (index : Expr) → Expr
  OfAll : (fold : Fold) → (table : List ℕ) → Expr
  Binary : (op : Operator) → (left right : Expr) → Expr

pub data Cond : Type 0 where
  Compare : (op : Comparison) → (left right : Expr) → Cond
  Not : (inner : Cond) → Cond
  Connect : (op : Connective) → (left right : Cond) → Cond

-- what a call gives for a parameter: a number, or a parameter of the transaction in which the call stands
pub data Argument : Type 0 where
  Number : (value : ℤ) → Argument
  Parameter : (name : List ℕ) → Argument

mutual
  pub data Stmt : Type 0 where
    Skip : Stmt
    Set : (name : List ℕ) (value : Expr) → Stmt
    Put : (table : List ℕ) (index value : Expr) → Stmt
    Seq : (parts : Stmts) → Stmt
    If : (test : Cond) (first second : Stmt) → Stmt
    Repeat : (count : ℤ) (body : Stmt) → Stmt
    Retry : Stmt
    OrElse : (first second : Stmt) → Stmt
    Throw : (value : Expr) → Stmt
    Call : (name : List ℕ) (arguments : List Argument) → Stmt

  pub data Stmts : Type 0 where
    NoStmts : Stmts
    MoreStmts : (first : Stmt) (others : Stmts) → Stmts

-- a variable and its first value
pub record Pair : Type 0 where
  pub name : List ℕ
  pub value : ℤ

-- a table, how many cells it has, and what they are at first: all the one number, or each one of the numbers
pub record Table : Type 0 where
  pub name : List ℕ
  pub count : ℤ
  pub first : ℤ
  pub others : List ℤ

-- a standing condition
pub record Always : Type 0 where
  pub name : List ℕ
  pub condition : Cond

-- a transaction, with its parameters
pub record Declaration : Type 0 where
  pub name : List ℕ
  pub parameters : List (List ℕ)
  pub body : Stmt
  pub value : Expr

-- a call of a transaction, and how many tasks make it
pub record Run : Type 0 where
  pub name : List ℕ
  pub count : ℤ
  pub arguments : List ℤ

pub record File : Type 0 where
  pub form : FileForm
  pub vars : List Pair
  pub tables : List Table
  pub always : List Always
  pub txs : List Declaration
  pub runs : List Run

abbrev pub operator_word : Operator → List ℕ
operator_word operator.Add = codes "add"
operator_word operator.Sub = codes "sub"
operator_word operator.Mul = codes "mul"
operator_word operator.Div = codes "div"
operator_word operator.Rem = codes "rem"

abbrev pub fold_word : Fold → List ℕ
fold_word fold.Sum = codes "sum"
fold_word fold.Min = codes "min"
fold_word fold.Max = codes "max"

abbrev pub comparison_word : Comparison → List ℕ
comparison_word comparison.Eq = codes "eq"
comparison_word comparison.Lt = codes "lt"
comparison_word comparison.Le = codes "le"

abbrev pub connective_word : Connective → List ℕ
connective_word connective.And = codes "and"
connective_word connective.Or = codes "or"

abbrev pub keyword_word : Keyword → List ℕ
keyword_word keyword.Skip = codes "skip"
keyword_word keyword.Set = codes "set"
keyword_word keyword.Put = codes "put"
keyword_word keyword.Seq = codes "seq"
keyword_word keyword.If = codes "if"
keyword_word keyword.Repeat = codes "repeat"
keyword_word keyword.Retry = codes "retry"
keyword_word keyword.OrElse = codes "orelse"
keyword_word keyword.Throw = codes "throw"

-- ( WORD parts )
abbrev pub form : List ℕ → List Lexeme → List Lexeme
form word parts = Opens ∷ token.Name word ∷ (parts ++ (Closes ∷ []))

abbrev pub expr_tokens : Expr → List Lexeme
expr_tokens (Int value) = token.Int value ∷ []
expr_tokens (Name name) = token.Name name ∷ []
expr_tokens (At table index) = form (codes "at") (token.Name table ∷ expr_tokens index)
expr_tokens (OfAll fold table) = form (fold_word fold) (token.Name table ∷ [])
expr_tokens (Binary op left right) = form (operator_word op) (expr_tokens left ++ expr_tokens right)

abbrev pub cond_tokens : Cond → List Lexeme
cond_tokens (Compare op left right) = form (comparison_word op) (expr_tokens left ++ expr_tokens right)
cond_tokens (Not inner) = form (codes "not") (cond_tokens inner)
cond_tokens (Connect op left right) = form (connective_word op) (cond_tokens left ++ cond_tokens right)

abbrev pub argument_token : Argument → Lexeme
argument_token (Number value) = token.Int value
argument_token (Parameter name) = token.Name name

abbrev mutual
  pub stmt_tokens : Stmt → List Lexeme
  stmt_tokens Skip = form (keyword_word keyword.Skip) []
  stmt_tokens (Set name value) = form (keyword_word keyword.Set) (token.Name name ∷ expr_tokens value)
  stmt_tokens (Put table index value) = form (keyword_word keyword.Put) (token.Name table ∷ (expr_tokens index ++ expr_tokens value))
  stmt_tokens (Seq parts) = form (keyword_word keyword.Seq) (stmts_tokens parts)
  stmt_tokens (If test first second) = form (keyword_word keyword.If) (cond_tokens test ++ (stmt_tokens first ++ stmt_tokens second))
  stmt_tokens (Repeat count body) = form (keyword_word keyword.Repeat) (token.Int count ∷ stmt_tokens body)
  stmt_tokens Retry = form (keyword_word keyword.Retry) []
  stmt_tokens (OrElse first second) = form (keyword_word keyword.OrElse) (stmt_tokens first ++ stmt_tokens second)
  stmt_tokens (Throw value) = form (keyword_word keyword.Throw) (expr_tokens value)
  stmt_tokens (Call name arguments) = form (codes "call") (token.Name name ∷ map argument_token arguments)

  pub stmts_tokens : Stmts → List Lexeme
  stmts_tokens NoStmts = []
  stmts_tokens (MoreStmts first others) = stmt_tokens first ++ stmts_tokens others

abbrev pub pair_tokens : List ℕ → Pair → List Lexeme
pair_tokens word p = form word (token.Name p.name ∷ token.Int p.value ∷ [])

abbrev pub table_tokens : Table → List Lexeme
table_tokens t = form (codes "table") (token.Name t.name ∷ token.Int t.count ∷ token.Int t.first ∷ map token.Int t.others)

abbrev pub always_tokens : Always → List Lexeme
always_tokens a = form (codes "always") (token.Name a.name ∷ cond_tokens a.condition)

-- ( NAME .. ), which only form 3 has
abbrev pub list_tokens : FileForm → List (List ℕ) → List Lexeme
list_tokens One names = []
list_tokens Two names = []
list_tokens Three names = Opens ∷ (map token.Name names ++ (Closes ∷ []))

abbrev pub tx_tokens : FileForm → Declaration → List Lexeme
tx_tokens announced t =
    form (codes "tx") (token.Name t.name ∷ (list_tokens announced t.parameters ++ (stmt_tokens t.body ++ expr_tokens t.value)))

abbrev pub run_tokens : Run → List Lexeme
run_tokens r = form (codes "run") (token.Name r.name ∷ token.Int r.count ∷ map token.Int r.arguments)

-- forms 2 and 3 say so, form 1 says nothing
abbrev pub heading_tokens : FileForm → List Lexeme
heading_tokens One = []
heading_tokens Two = form (codes "stm") (token.Int (pos 2) ∷ [])
heading_tokens Three = form (codes "stm") (token.Int (pos 3) ∷ [])

-- the form, then the variables, then the tables, then the conditions, then the transactions, then the runs
abbrev pub file_tokens : File → List Lexeme
file_tokens f =
    heading_tokens f.form ++ (flat_map (pair_tokens (codes "var")) f.vars ++ (flat_map table_tokens f.tables
    ++ (flat_map always_tokens f.always ++ (flat_map (tx_tokens f.form) f.txs ++ flat_map run_tokens f.runs))))

-- whether files of the form can have tables
abbrev pub has_tables : FileForm → Bool
has_tables One = false
has_tables Two = false
has_tables Three = true

-- only in such a file a table is named
abbrev pub expr_formed : FileForm → Expr → Bool
expr_formed form (Int value) = true
expr_formed form (Name name) = true
expr_formed form (At table index) = has_tables form && expr_formed form index
expr_formed form (OfAll fold table) = has_tables form
expr_formed form (Binary op left right) = expr_formed form left && expr_formed form right

abbrev pub cond_formed : FileForm → Cond → Bool
cond_formed form (Compare op left right) = expr_formed form left && expr_formed form right
cond_formed form (Not inner) = cond_formed form inner
cond_formed form (Connect op left right) = cond_formed form left && cond_formed form right

-- no form has calls yet
abbrev mutual
  pub stmt_formed : FileForm → Stmt → Bool
  stmt_formed form Skip = true
  stmt_formed form (Set name value) = expr_formed form value
  stmt_formed form (Put table index value) = has_tables form && (expr_formed form index && expr_formed form value)
  stmt_formed form (Seq parts) = stmts_formed form parts
  stmt_formed form (If test first second) = cond_formed form test && (stmt_formed form first && stmt_formed form second)
  stmt_formed form (Repeat count body) = stmt_formed form body
  stmt_formed form Retry = true
  stmt_formed form (OrElse first second) = stmt_formed form first && stmt_formed form second
  stmt_formed form (Throw value) = expr_formed form value
  stmt_formed form (Call name arguments) = false

  pub stmts_formed : FileForm → Stmts → Bool
  stmts_formed form NoStmts = true
  stmts_formed form (MoreStmts first others) = stmt_formed form first && stmts_formed form others

-- there are no tables, no transaction has parameters, and no run has arguments
abbrev pub HasNoLists : File → Type 0
HasNoLists f =
    (f.tables ≡ []) × AllByRecursion (λ (t : Declaration). t.parameters ≡ []) f.txs × AllByRecursion (λ (r : Run). r.arguments ≡ []) f.runs

-- form 1 has no conditions, and only form 3 has tables, parameters and arguments
abbrev pub IsOfForm : FileForm → File → Type 0
IsOfForm One f = (f.always ≡ []) × HasNoLists f
IsOfForm Two f = HasNoLists f
IsOfForm Three f = Unit {0}

-- how many parentheses are open at a time, at most
abbrev pub expr_depth : Expr → ℕ
expr_depth (Int value) = 0
expr_depth (Name name) = 0
expr_depth (At table index) = suc (expr_depth index)
expr_depth (OfAll fold table) = 1
expr_depth (Binary op left right) = suc (max (expr_depth left) (expr_depth right))

abbrev pub cond_depth : Cond → ℕ
cond_depth (Compare op left right) = suc (max (expr_depth left) (expr_depth right))
cond_depth (Not inner) = suc (cond_depth inner)
cond_depth (Connect op left right) = suc (max (cond_depth left) (cond_depth right))

abbrev mutual
  pub stmt_depth : Stmt → ℕ
  stmt_depth Skip = 1
  stmt_depth (Set name value) = suc (expr_depth value)
  stmt_depth (Put table index value) = suc (max (expr_depth index) (expr_depth value))
  stmt_depth (Seq parts) = suc (stmts_depth parts)
  stmt_depth (If test first second) = suc (max (cond_depth test) (max (stmt_depth first) (stmt_depth second)))
  stmt_depth (Repeat count body) = suc (stmt_depth body)
  stmt_depth Retry = 1
  stmt_depth (OrElse first second) = suc (max (stmt_depth first) (stmt_depth second))
  stmt_depth (Throw value) = suc (expr_depth value)
  stmt_depth (Call name arguments) = 1

  pub stmts_depth : Stmts → ℕ
  stmts_depth NoStmts = 0
  stmts_depth (MoreStmts first others) = max (stmt_depth first) (stmts_depth others)

-- an expression in a file of this form, with at most so many parentheses open
abbrev pub IsExpr : FileForm → ℕ → Expr → Type 0
IsExpr form depth e = (expr_depth e ≤ depth) × (expr_formed form e ≡ true)

abbrev pub IsCond : FileForm → ℕ → Cond → Type 0
IsCond form depth c = (cond_depth c ≤ depth) × (cond_formed form c ≡ true)

abbrev pub IsStmt : FileForm → ℕ → Stmt → Type 0
IsStmt form depth s = (stmt_depth s ≤ depth) × (stmt_formed form s ≡ true)

-- the parenthesis of the condition or of the transaction is one more, so that at most 32 are open
abbrev pub IsAlways : FileForm → Always → Type 0
IsAlways form a = IsCond form 31 a.condition

abbrev pub IsTx : FileForm → Declaration → Type 0
IsTx form t = IsStmt form 31 t.body × IsExpr form 31 t.value

-- each condition and each transaction is one of the form, and none is too deep
abbrev pub HasParts : File → Type 0
HasParts f = AllByRecursion (IsAlways f.form) f.always × AllByRecursion (IsTx f.form) f.txs

-- how many bytes a file that begins so has at most: one of form 3, which may have tables, has room for their cells
unfoldable pub longest : List ℕ → ℕ
longest bytes = if starts_with nat_eq bytes (codes "(stm 3)") then 67108864 else 1048576

-- the bytes spell the tree
pub record SpellsTree (bytes : List ℕ) (f : File) : Type 0 where
  pub short : length bytes ≤ longest bytes
  pub allowed : list_all is_allowed bytes ≡ true
  pub spelled : tokens bytes ≡ file_tokens f
  pub formed : IsOfForm f.form f
  pub parts : HasParts f
