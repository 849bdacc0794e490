-- No transaction has more parameters than the most, and the most are few.
use Rattle.std.proofs.Common.{◌≡◌, ◌≤◌, ◌<◌, ℕ, zero, suc, ℤ, true, List, [], ◌∷◌, length, arith, sym, subst}
use Rattle.std.specs.List.{list_all, slice_index_or}
use Rattle.std.proofs.lemmas.Bool.{and_parts, leb-true}
use Rattle.txn_programs.specs.declared.ast.TxId.{TxId}
use Rattle.txn_programs.specs.Tree.{Transaction}
use Rattle.txn_programs.specs.Listing.{Listing, arity, transaction_at, IsCallable}
use Rattle.txn_programs.specs.Limits.{is_short, names_fit, most_parameters, limits_hold}
use Rattle.txn_programs.proofs.Lawful.{limits_parts}
use Rattle.txn.specs.Arities.{most_arity}

arity_among : (ts : List Transaction) (i : ℕ) (d : Transaction) → i < length ts → arity (slice_index_or ts i d) ≤ most_arity ts
arity_among [] i d h = absurd (omega (arith, h))
arity_among (t ∷ ts) zero d h = omega arith
arity_among (t ∷ ts) (suc i) d h = omega (arith, arity_among ts i d (omega (arith, h)))

pub arity_most : (l : Listing) (tx : TxId) → tx.0 < length l.transactions → arity (transaction_at l tx) ≤ most_arity l.transactions
arity_most l tx h = arity_among l.transactions tx.0 _ h

-- a call has no more arguments
pub arguments_most : (l : Listing) (tx : TxId) (given : List ℤ) → IsCallable l tx given → length given ≤ most_arity l.transactions
arguments_most l tx given c = subst (λ (n : ℕ). n ≤ most_arity l.transactions) (sym c.each) (arity_most l tx c.declared)

few_by : (ts : List Transaction) → list_all names_fit ts ≡ true → most_arity ts ≤ most_parameters
few_by [] h = omega arith
few_by (t ∷ ts) h =
    let p = and_parts (names_fit t) (list_all names_fit ts) h in
    let fit = and_parts (is_short t.name) _ p.0 in
    let few : arity t ≤ most_parameters = leb-true _ _ (and_parts _ _ fit.1).0 in
    omega (arith, few, few_by ts p.1)

pub most_few : (l : Listing) → limits_hold l ≡ true → most_arity l.transactions ≤ most_parameters
most_few l h = few_by l.transactions (limits_parts l h).tx_names
