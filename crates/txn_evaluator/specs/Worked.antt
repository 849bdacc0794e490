-- The programs of the worked evaluations, and one sequence behind another.
use Rattle.std.specs.Prelude.{pos, [], ◌∷◌}
use Rattle.txn_programs.specs.Tree.{Int, Var, Add, Sub, Div, Eq, Le, Not, And, Statement, Statements, Program, Skip, Set, Seq, If, Repeat, Retry, OrElse, Throw, End, More}
use Rattle.txn_programs.specs.declared.ast.VarId.{VarId}

-- the first variable
abbrev pub x : VarId
x = record { 0 = 0 }

-- (orelse (seq (set x 9) (retry)) (skip)), then x
abbrev pub keeps_nothing : Program
keeps_nothing = record { name = []; body = OrElse (Seq (More (Set x (Int (pos 9))) (More Retry End))) Skip; result = Var x; always = [] }

-- (orelse (throw 7) (set x 1)), then x
abbrev pub does_not_catch : Program
does_not_catch = record { name = []; body = OrElse (Throw (Int (pos 7))) (Set x (Int (pos 1))); result = Var x; always = [] }

-- (repeat 999 (set x (add x 1)))
abbrev pub counts : Statement
counts = Repeat 999 (Set x (Add (Var x) (Int (pos 1))))

-- (orelse (retry) (retry)), then 0
abbrev pub waits : Program
waits = record { name = []; body = OrElse Retry Retry; result = Int (pos 0); always = [] }

-- (set x 2), then (div x 0)
abbrev pub divides_by_zero : Program
divides_by_zero = record { name = []; body = Set x (Int (pos 2)); result = Div (Var x) (Int (pos 0)); always = [] }

-- (if (and (eq 1 2) (eq (div 1 0) 0)) (throw 1) (skip)), then 0
abbrev pub short : Program
short =
    record {
      name = [];
      body = If (And (Eq (Int (pos 1)) (Int (pos 2))) (Eq (Div (Int (pos 1)) (Int (pos 0))) (Int (pos 0)))) (Throw (Int (pos 1))) Skip;
      result = Int (pos 0);
      always = [];
    }

-- (set x (sub x 1)), then x, where always (le 0 x), and (not (eq x 3))
abbrev pub lowers : Program
lowers =
    record {
      name = [];
      body = Set x (Sub (Var x) (Int (pos 1)));
      result = Var x;
      always = Le (Int (pos 0)) (Var x) ∷ Not (Eq (Var x) (Int (pos 3))) ∷ [];
    }

-- (set x 0), then x, where always (le 0 (div 1 x))
abbrev pub empties : Program
empties = record { name = []; body = Set x (Int (pos 0)); result = Var x; always = Le (Int (pos 0)) (Div (Int (pos 1)) (Var x)) ∷ [] }

-- the parts of a sequence, and then those of another
abbrev pub joined : Statements → Statements → Statements
joined End after = after
joined (More s rest) after = More s (joined rest after)
