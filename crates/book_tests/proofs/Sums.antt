-- What the condition says of a state.
use Rattle.std.proofs.Common.{◌≡◌, Bool, true, false, if◌then◌else◌, List, [], ◌∷◌, Result, Ok, Err, ℤ, pos, subst}
use Rattle.std.specs.Prelude.{◌+ℤ◌}
use Rattle.std.specs.Ordering.{int_eq}
use Rattle.std.proofs.lemmas.Bool.Decides.{Decides-int_eq}
use Rattle.txn_programs.specs.Arithmetic.{fits}
use Rattle.txn_programs.specs.declared.ast.Fault.{Fault}
use Rattle.txn_programs.specs.declared.ast.Fault.TheVariants.{Overflow}
use Rattle.txn_programs.specs.Meaning.{State, both, truth}
use Rattle.txn_programs.specs.Standing.{AllTrue, Upholds}
use Rattle.txn_programs.specs.Listing.{Listing, conditions}
use Rattle.txn_programs.specs.Tree.{Condition}
use Rattle.book_tests.specs.Balance.{sum_stays, sum_of_accounts}

equal_by : (x y : ℤ) → int_eq x y ≡ true → x ≡ y
equal_by x y e = (Decides-int_eq x y).0 e

equal_sum : (fit : Bool) (s : ℤ) → both (λ x y. Ok (int_eq x y)) (if fit then Ok s else Err Overflow) (Ok (pos 100)) ≡ Ok true → s ≡ pos 100
equal_sum true s e = equal_by s (pos 100) (let h : int_eq s (pos 100) ≡ true = cc in h)
equal_sum false s e = absurd (cc)

sum_kept : (m : State) → truth sum_stays m ≡ Ok true → sum_of_accounts m ≡ pos 100
sum_kept m e = equal_sum (fits (sum_of_accounts m)) (sum_of_accounts m) e

pub sum_upheld : (l : Listing) (m : State) → conditions l ≡ sum_stays ∷ [] → Upholds l m → sum_of_accounts m ≡ pos 100
sum_upheld l m is h = sum_kept m (subst (λ (cs : List Condition). AllTrue cs m) is h).0
