-- A listing that begins at other values keeps the rules, and the test of its conditions is exact.
use Rattle.std.proofs.Common.{◌≡◌, true, List, [], ◌∷◌, refl, ap}
use Rattle.std.specs.List.{list_all}
use Rattle.std.proofs.lemmas.Bool.{and_from}
use Rattle.txn_programs.specs.Meaning.{State, truth}
use Rattle.txn_programs.specs.Tree.{Condition}
use Rattle.txn_programs.specs.Listing.{Listing, conditions}
use Rattle.txn_programs.specs.Names.{names_hold, is_well_formed}
use Rattle.txn_programs.specs.Limits.{limits_hold}
use Rattle.txn_programs.specs.Standing.{AllTrue, is_true, Upholds, upholds}
use Rattle.txn.specs.Values.{with_values}

pub names_stay : (l : Listing) (state : State) → names_hold (with_values l state) ≡ names_hold l
unfolding names_hold is_well_formed
names_stay l state = refl

pub limits_stay : (l : Listing) (state : State) → limits_hold (with_values l state) ≡ limits_hold l
unfolding limits_hold
limits_stay l state = refl

true_upholds : (cs : List Condition) (m : State) → AllTrue cs m → list_all (λ c. is_true (truth c m)) cs ≡ true
true_upholds [] m h = refl
true_upholds (c ∷ cs) m h = and_from _ _ (ap is_true h.0) (true_upholds cs m h.1)

-- conditions that are true pass the test
pub upheld_passes : (l : Listing) (m : State) → Upholds l m → upholds l m ≡ true
upheld_passes l m h = true_upholds (conditions l) m h
