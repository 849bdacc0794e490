-- When a state keeps the standing conditions.
use Rattle.std.specs.Prelude.{◌≡◌, Bool, true, false, List, [], ◌∷◌, Result, Ok, Err}
use Rattle.std.specs.List.{list_all}
use Rattle.txn_programs.specs.Meaning.{State, truth}
use Rattle.txn_programs.specs.Tree.{Condition}
use Rattle.txn_programs.specs.Listing.{Listing, conditions}
use Rattle.txn_programs.specs.declared.ast.Fault.{Fault}

-- each is true in the state: not no, and no fault
abbrev pub AllTrue : List Condition → State → Type 0
AllTrue [] m = Unit {0}
AllTrue (c ∷ cs) m = (truth c m ≡ Ok true) × AllTrue cs m

abbrev pub Upholds : Listing → State → Type 0
Upholds l m = AllTrue (conditions l) m

-- the same as a test
abbrev pub is_true : Result Bool Fault → Bool
is_true (Ok b) = b
is_true (Err f) = false

abbrev pub upholds : Listing → State → Bool
upholds l m = list_all (λ c. is_true (truth c m)) (conditions l)
