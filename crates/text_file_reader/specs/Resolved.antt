-- Items that are made as they are read: one, the last before a parenthesis, two, one with its name, and all that stand next;
-- and what is judged of transactions and calls that are made so.
use Rattle.std.specs.Prelude.{◌≡◌, ℕ, Bool, true, ◌&&◌, ◌==◌, nat_lt, length, slice_index_or, if◌then◌else◌, Result, Ok, Err, List, [], map, codes}
use Rattle.std.specs.List.{list_all}
use Rattle.txn_programs.specs.declared.ast.Span.{Span}
use Rattle.txn_programs.specs.declared.arguments.Call.{Call}
use Rattle.txn_programs.specs.Names.{are_new}
use Rattle.txn_programs.specs.Tree.{Expression, Condition, Statement, Transaction}
use Rattle.text_words.specs.Tokens.{Lexeme}
use Rattle.text_words.specs.TokenReading.{Read, close_at, begins, all_of}
use Rattle.text_words.specs.declared.fault.ReadFault.{ReadFault}
use Rattle.text_words.specs.declared.fault.ReadFault.TheVariants.{Name}
use Rattle.text_grammar.specs.Tree.{Declaration, Run}
use Rattle.text_grammar.specs.declared.file.FileForm.{FileForm}
use Rattle.text_grammar.specs.Scope.{Scope, standing}
use Rattle.text_grammar.specs.Reading.{expr_at, stmt_at, conditions_at, tx_at, run_at, end_at}
use Rattle.text_grammar.specs.Resolving.{each, declared_after, expression_in, statement_in, spans_in, always_in, transaction_in, run_in, condition_name, tx_name}

-- what was read is made into these, each name is declared once, and these tokens are left
pub record Resolves {A B : Type 0} (read : Read (List A)) (one : A → Result B ReadFault) (name : A → List ℕ) (made : List B) (names : List (List ℕ)) (rest : List Lexeme) : Type 0 where
  pub items : List A
  pub are_read : read ≡ Ok (items, rest)
  pub are_made : each one items ≡ Ok made
  pub are_declared : declared_after [] (map name items) ≡ Ok names

-- an item was read, it is made into this, and these tokens are left
pub record Makes {A B : Type 0} (read : Read A) (one : A → Result B ReadFault) (made : B) (rest : List Lexeme) : Type 0 where
  pub item : A
  pub is_read : read ≡ Ok (item, rest)
  pub is_made : one item ≡ Ok made

-- the same of an item behind which a parenthesis closes
pub record MakesLast {A B : Type 0} (read : Read A) (one : A → Result B ReadFault) (made : B) (rest : List Lexeme) : Type 0 where
  pub behind : List Lexeme
  pub makes : Makes read one made behind
  pub closes : close_at behind ≡ Ok rest

-- the same of two items, the second of which is the last
pub record MakesTwo {A B : Type 0} (part : List Lexeme → Read A) (one : A → Result B ReadFault) (ts : List Lexeme) (first second : B) (rest : List Lexeme) : Type 0 where
  pub between : List Lexeme
  pub makes_first : Makes (part ts) one first between
  pub makes_second : MakesLast (part between) one second rest

-- a body was read and a result behind it, which is the last, and they are made into these
pub record MakesBody (form : FileForm) (s : Scope) (ts : List Lexeme) (body : Statement) (result : Expression) (rest : List Lexeme) : Type 0 where
  pub between : List Lexeme
  pub makes_body : Makes (stmt_at form 31 ts) (statement_in s) body between
  pub makes_result : MakesLast (expr_at form 31 between) (expression_in s) result rest

-- the same of an item with this name
pub record MakesNamed {A B : Type 0} (read : Read A) (one : A → Result B ReadFault) (name : A → List ℕ) (made : B) (named : List ℕ) (rest : List Lexeme) : Type 0 where
  pub item : A
  pub is_read : read ≡ Ok (item, rest)
  pub is_made : one item ≡ Ok made
  pub is_named : name item ≡ named

-- a transaction, where no parameter has the name of a variable or of one before it
abbrev pub own_transaction_in : Scope → Declaration → Result Transaction ReadFault
own_transaction_in s d = if are_new s.variables d.parameters then transaction_in s d else Err Name

abbrev pub parameters_of : Transaction → List (List ℕ)
parameters_of t = t.parameters

-- a call of one of the transactions with these parameters, with as many arguments as that has
abbrev pub is_wanted : List (List (List ℕ)) → Call → Bool
is_wanted parameters c = nat_lt c.tx.0 (length parameters) && (length c.arguments == length (slice_index_or parameters c.tx.0 []))

-- what was read is made into these runs of the transactions with these names and parameters, and these tokens are left
pub record MakesRuns (read : Read (List Run)) (names : List (List ℕ)) (parameters : List (List (List ℕ))) (made : List (Call × ℕ)) (rest : List Lexeme) : Type 0 where
  pub items : List Run
  pub are_read : read ≡ Ok (items, rest)
  pub are_made : each (run_in names) items ≡ Ok made
  pub are_wanted : list_all (λ (run : Call × ℕ). is_wanted parameters run.0) made ≡ true

-- what was read behind the tables, up to the end, is made into these conditions, transactions and runs
pub record MakesPrograms (form : FileForm) (s : Scope) (ts : List Lexeme) (always : List (List ℕ × Condition)) (transactions : List Transaction) (runs : List (Call × ℕ)) : Type 0 where
  pub conditions : List (List ℕ)
  pub names : List (List ℕ)
  pub behind_always : List Lexeme
  pub behind_txs : List Lexeme
  pub behind_runs : List Lexeme
  pub makes_always : Resolves (conditions_at form ts) (always_in s) condition_name always conditions behind_always
  pub makes_txs : Resolves (all_of (begins (codes "tx")) (tx_at form) behind_always) (own_transaction_in s) tx_name transactions names behind_txs
  pub makes_runs : MakesRuns (all_of (begins (codes "run")) (run_at form) behind_txs) names (map parameters_of transactions) runs behind_runs
  pub ends : end_at behind_runs ≡ Ok tt

-- the same, where tables with these names and so many cells lie behind the variables
pub record MakesBehind (form : FileForm) (variables names : List (List ℕ)) (tables : List (List ℕ × ℕ)) (ts : List Lexeme) (always : List (List ℕ × Condition)) (transactions : List Transaction) (runs : List (Call × ℕ)) : Type 0 where
  pub spans : List Span
  pub are_spans : spans_in (length variables) tables ≡ Ok spans
  pub makes : MakesPrograms form (standing variables names spans) ts always transactions runs
