-- The transactions of the worked calls.
use Rattle.std.specs.Prelude.{ℕ, pos, List, [], ◌∷◌, codes}
use Rattle.text_grammar.specs.Tree.{Expr, Int, Name, Binary, Argument, Number, Parameter, Stmt, Set, Seq, Call, NoStmts, MoreStmts, Declaration}
use Rattle.text_grammar.specs.declared.words.Operator.TheVariants as operator

-- (set x (add x EXPR))
abbrev pub adds : Expr → Stmt
adds e = Set (codes "x") (Binary operator.Add (Name (codes "x")) e)

-- (seq STMT STMT)
abbrev pub both : Stmt → Stmt → Stmt
both first second = Seq (MoreStmts first (MoreStmts second NoStmts))

-- (tx up (k) (set x (add x k)) x)
abbrev pub up : Declaration
up = record { name = codes "up"; parameters = codes "k" ∷ []; body = adds (Name (codes "k")); value = Name (codes "x") }

-- (tx two (k) STMT x)
abbrev pub two_by : Stmt → Declaration
two_by s = record { name = codes "two"; parameters = codes "k" ∷ []; body = s; value = Name (codes "x") }

-- (tx two (k) (seq (call up k) (call up 5)) x)
abbrev pub two : Declaration
two = two_by (both (Call (codes "up") (Parameter (codes "k") ∷ [])) (Call (codes "up") (Number (pos 5) ∷ [])))

-- (tx two (k) (seq (set x (add x k)) (set x (add x 5))) x)
abbrev pub two_plain : Declaration
two_plain = two_by (both (adds (Name (codes "k"))) (adds (Int (pos 5))))

-- (tx three (n) (seq (call two n) (call up 7)) x)
abbrev pub three : Declaration
three = record {
  name = codes "three";
  parameters = codes "n" ∷ [];
  body = both (Call (codes "two") (Parameter (codes "n") ∷ [])) (Call (codes "up") (Number (pos 7) ∷ []));
  value = Name (codes "x");
}

-- (seq (seq (set x (add x n)) (set x (add x 5))) (set x (add x 7)))
abbrev pub three_body : Stmt
three_body = both (both (adds (Name (codes "n"))) (adds (Int (pos 5)))) (adds (Int (pos 7)))

-- (tx NAME () STMT 0)
abbrev pub tx : List ℕ → Stmt → Declaration
tx name s = record { name = name; parameters = []; body = s; value = Int (pos 0) }

-- (tx t () (call NAME ARGUMENT ..) 0)
abbrev pub calls : List ℕ → List Argument → Declaration
calls name arguments = tx (codes "t") (Call name arguments)
