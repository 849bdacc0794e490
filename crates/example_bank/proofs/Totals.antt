-- Totals, an account at a time, and the program of a bank's catalogue.
use Rattle.std.proofs.Common.{◌≡◌, ◌∙◌, ℕ, zero, suc, ◌+◌, ◌<◌, ℤ, ◌+ℤ◌, List, [], ◌∷◌, ◌++◌, length, map, take, get_or, Result, Ok, Err, IfOk, String, Global, sym, ap, subst, arith}
use Rattle.std.proofs.lemmas.Int.{ints}
use Rattle.std.specs.List.{flat_map}
use Rattle.std.proofs.lemmas.List.{append-nil}
use Rattle.txn_programs.specs.declared.ast.Table.{Table}
use Rattle.txn_programs.specs.Listing.{Listing, values_of}
use Rattle.stm_store.specs.declared.program.Program.{Program}
use Rattle.example_bank.specs.Balances.{total, IsBank}

abbrev pub total_of : List (String Global × ℤ) → ℤ
total_of accounts = total (map (λ a. a.1) accounts)

pub total_more : (xs : List (String Global × ℤ)) (i : ℕ) (x : String Global × ℤ) → i < length xs → x ≡ get_or xs i x → total_of (take (i + 1) xs) ≡ total_of (take i xs) +ℤ x.1
total_more [] i x lt e = absurd (omega arith)
total_more (y ∷ ys) zero x lt e = let s : x.1 ≡ y.1 = ap (λ a. a.1) e in omega (arith, ints)
total_more (y ∷ ys) (suc i) x lt e =
    let r = total_more ys i x (omega arith) e in
    let one : suc i + 1 ≡ suc (i + 1) = omega arith in
    let more : y.1 +ℤ total_of (take (i + 1) ys) ≡ (y.1 +ℤ total_of (take i ys)) +ℤ x.1 = omega (arith, ints) in
    ap (λ k. total_of (take k (y ∷ ys))) one ∙ more

pub bank_of : {E : Type 0} (r : Result Program E) (l : Listing) → IsBank l → IfOk r (λ p. p.catalogue.now ≡ l) → IfOk r (λ p. IsBank p.catalogue.now)
bank_of (Ok p) l bank e = subst IsBank (sym e) bank
bank_of (Err f) l bank e = e

-- without tables the values are those of the variables
pub without_tables : (vars : List (String Global × ℤ)) (ts : List Table) → ts ≡ [] → map (λ v. v.1) vars ++ flat_map (λ (t : Table). values_of t.cells) ts ≡ map (λ v. v.1) vars
without_tables vars ts e =
    ap (λ (us : List Table). map (λ (v : String Global × ℤ). v.1) vars ++ flat_map (λ (t : Table). values_of t.cells) us) e
    ∙ append-nil (map (λ (v : String Global × ℤ). v.1) vars)

pub accounts_of : {E : Type 0} (r : Result Program E) (l : Listing) (values : List ℤ) → l.initial ≡ values → IfOk r (λ p. p.catalogue.now ≡ l) → IfOk r (λ p. p.catalogue.now.initial ≡ values)
accounts_of (Ok p) l values is e = ap (λ (k : Listing). k.initial) e ∙ is
accounts_of (Err f) l values is e = e
