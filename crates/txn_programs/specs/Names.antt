-- When names and ids hold.
use Rattle.std.specs.Prelude.{ℕ, Bool, true, false, not, ◌&&◌, ◌||◌, ◌==◌, nat_lt, List, [], ◌∷◌, ◌++◌, map, length, bytes_eq}
use Rattle.std.specs.Char.{is_ascii_alphabetic, is_ascii_digit}
use Rattle.std.specs.List.{list_any, list_all}
use Rattle.txn_programs.specs.Tree.{Expression, Int, Var, Param, Cell, OfAll, Add, Sub, Mul, Div, Rem, Condition, Eq, Lt, Le, Not, And, Or, Statement, Skip, Set, Put, Seq, If, Repeat, Retry, OrElse, Throw, Statements, End, More, Transaction}
use Rattle.txn_programs.specs.declared.arguments.Call.{Call}
use Rattle.txn_programs.specs.declared.ast.Span.{Span}
use Rattle.txn_programs.specs.Listing.{Listing, spans, conditions, table_names, always_names, transaction_at, arity}

-- letters, digits and underscores
abbrev pub is_name_byte : ℕ → Bool
is_name_byte b = is_ascii_alphabetic b || (is_ascii_digit b || (b == 95))

-- a letter, then letters, digits and underscores
unfoldable pub is_name : List ℕ → Bool
is_name [] = false
is_name (b ∷ bs) = is_ascii_alphabetic b && list_all is_name_byte bs

-- no name is one of those before it
abbrev pub are_new : List (List ℕ) → List (List ℕ) → Bool
are_new earlier [] = true
are_new earlier (name ∷ rest) = not (list_any (bytes_eq name) earlier) && are_new (earlier ++ name ∷ []) rest

abbrev pub are_distinct : List (List ℕ) → Bool
are_distinct names = are_new [] names

abbrev pub same_span : Span → Span → Bool
same_span t u = (t.first == u.first) && (t.length == u.length)

-- the table is one of these
abbrev pub knows_table : List Span → Span → Bool
knows_table ts t = list_any (same_span t) ts

-- only variables with a number below n are named, tables among these, and parameters with a number below k
abbrev pub knows_expression : ℕ → List Span → ℕ → Expression → Bool
knows_expression n ts k (Int v) = true
knows_expression n ts k (Var x) = nat_lt x.0 n
knows_expression n ts k (Param p) = nat_lt p.0 k
knows_expression n ts k (Cell t a) = knows_table ts t && knows_expression n ts k a
knows_expression n ts k (OfAll f t) = knows_table ts t
knows_expression n ts k (Add a b) = knows_expression n ts k a && knows_expression n ts k b
knows_expression n ts k (Sub a b) = knows_expression n ts k a && knows_expression n ts k b
knows_expression n ts k (Mul a b) = knows_expression n ts k a && knows_expression n ts k b
knows_expression n ts k (Div a b) = knows_expression n ts k a && knows_expression n ts k b
knows_expression n ts k (Rem a b) = knows_expression n ts k a && knows_expression n ts k b

abbrev pub knows_condition : ℕ → List Span → ℕ → Condition → Bool
knows_condition n ts k (Eq a b) = knows_expression n ts k a && knows_expression n ts k b
knows_condition n ts k (Lt a b) = knows_expression n ts k a && knows_expression n ts k b
knows_condition n ts k (Le a b) = knows_expression n ts k a && knows_expression n ts k b
knows_condition n ts k (Not c) = knows_condition n ts k c
knows_condition n ts k (And a b) = knows_condition n ts k a && knows_condition n ts k b
knows_condition n ts k (Or a b) = knows_condition n ts k a && knows_condition n ts k b

abbrev mutual
  pub knows_statement : ℕ → List Span → ℕ → Statement → Bool
  knows_statement n ts k Skip = true
  knows_statement n ts k (Set x e) = nat_lt x.0 n && knows_expression n ts k e
  knows_statement n ts k (Put t a b) = knows_table ts t && (knows_expression n ts k a && knows_expression n ts k b)
  knows_statement n ts k (Seq parts) = knows_statements n ts k parts
  knows_statement n ts k (If c a b) = knows_condition n ts k c && (knows_statement n ts k a && knows_statement n ts k b)
  knows_statement n ts k (Repeat times s) = knows_statement n ts k s
  knows_statement n ts k Retry = true
  knows_statement n ts k (OrElse a b) = knows_statement n ts k a && knows_statement n ts k b
  knows_statement n ts k (Throw e) = knows_expression n ts k e

  pub knows_statements : ℕ → List Span → ℕ → Statements → Bool
  knows_statements n ts k End = true
  knows_statements n ts k (More s rest) = knows_statement n ts k s && knows_statements n ts k rest

-- a standing condition has no parameters
abbrev pub knows_standing : ℕ → List Span → Condition → Bool
knows_standing n ts c = knows_condition n ts 0 c

abbrev pub knows_transaction : ℕ → List Span → Transaction → Bool
knows_transaction n ts t = knows_statement n ts (arity t) t.body && knows_expression n ts (arity t) t.result

-- the names of a transaction and of its parameters have the form of one
abbrev pub are_formed : Transaction → Bool
are_formed t = is_name t.name && list_all is_name t.parameters

-- no parameter of a transaction has the name of one of these variables, nor that of one before it
abbrev pub has_own_parameters : List (List ℕ) → Transaction → Bool
has_own_parameters variables t = are_new variables t.parameters

-- a transaction of the listing, with as many arguments as it wants
abbrev pub is_callable : Listing → Call → Bool
is_callable l c = nat_lt c.tx.0 (length l.transactions) && (length c.arguments == arity (transaction_at l c.tx))

-- each name has the form of one, and each id is one of the listing's
unfoldable pub is_well_formed : Listing → Bool
is_well_formed l =
    list_all is_name l.names && (list_all is_name (table_names l) && (list_all is_name (always_names l)
    && (list_all are_formed l.transactions
    && (list_all (knows_standing (length l.names) (spans l)) (conditions l)
    && (list_all (knows_transaction (length l.names) (spans l)) l.transactions
    && list_all (is_callable l) (map (λ run. run.0) l.runs))))))

-- and no name is given twice among variables, among tables, among conditions, among transactions, or among variables and
-- the parameters of one
unfoldable pub names_hold : Listing → Bool
names_hold l =
    is_well_formed l && (are_distinct l.names && (are_distinct (table_names l) && (are_distinct (always_names l)
    && (are_distinct (map (λ t. t.name) l.transactions)
    && list_all (has_own_parameters l.names) l.transactions))))
