-- What a plan's transactions do, and that what is built of them is its program.
use Rattle.std.proofs.Common.{◌≡◌, ◌∙◌, ℕ, ℤ, pos, List, [], ◌∷◌, ◌++◌, length, map, replicate, Result, Ok, Err, IfOk, String, refl, ap, sym, Vec, Global}
use Rattle.std.specs.List.{flat_map}
use Rattle.std.proofs.lemmas.List.{length-map, append-nil}
use Rattle.txn_programs.specs.declared.ast.Stmt.{Stmt}
use Rattle.txn_programs.specs.declared.ast.Stmt.TheVariants as stmt
use Rattle.txn_programs.specs.declared.ast.Table.{Table}
use Rattle.txn_programs.specs.declared.ast.Tx.{Tx}
use Rattle.txn_programs.specs.Listing.{values_of}
use Rattle.txn_programs.specs.Tree.{Statement, Statements, Seq, Transaction, statement_of, statements_of_list, transaction_of}
use Rattle.txn_programs.proofs.Rows.{statement_Seq}
use Rattle.stm_store.specs.declared.program.Program.{Program}
use Rattle.example_scheduler.specs.declared.planning.Step.{Step}
use Rattle.example_scheduler.specs.Plan.{IsPlan, after_of, bodies, body_of, wait_for, waits}

list_waits : (parts : List Stmt) (jobs : List ℕ) → map statement_of parts ≡ map wait_for jobs → statements_of_list parts ≡ waits jobs
list_waits [] [] e = refl
list_waits [] (j ∷ jobs) e = absurd (cc)
list_waits (p ∷ parts) [] e = absurd (cc)
list_waits (p ∷ parts) (j ∷ jobs) e =
    let head : statement_of p ≡ wait_for j = cc in
    let tail : map statement_of parts ≡ map wait_for jobs = cc in
    let rest = list_waits parts jobs tail in
    cc

-- parts that wait are a sequence that waits
pub seq_waits : (parts : Vec Stmt Global) (jobs : List ℕ) → map statement_of parts.items ≡ map wait_for jobs → statement_of (stmt.Seq parts) ≡ Seq (waits jobs)
seq_waits parts jobs e = statement_Seq parts ∙ ap (λ (s : Statements). Seq s) (list_waits parts.items jobs e)

bodies_of : (txs : List Tx) → map (λ (t : Transaction). t.body) (map transaction_of txs) ≡ map body_of txs
bodies_of [] = refl
bodies_of (t ∷ txs) = ap (λ (l : List Statement). body_of t ∷ l) (bodies_of txs)

-- what is built of the parts of a plan is its program
pub plan_of : {E : Type 0} (r : Result Program E) (steps : List Step) (flags : List (String Global × ℤ)) (txs : List Tx)
    → map (λ flag. flag.1) flags ≡ replicate (length steps) (pos 0) → map body_of txs ≡ bodies (after_of steps)
    → IfOk r (λ p. p.catalogue.now.initial ≡ map (λ flag. flag.1) flags) → IfOk r (λ p. p.catalogue.now.transactions ≡ map transaction_of txs)
    → IfOk r (λ p. IsPlan (after_of steps) p.catalogue.now)
plan_of (Ok p) steps flags txs unset do_so initial transactions = record {
  flags = initial ∙ unset ∙ ap (λ n. replicate n (pos 0)) (sym (length-map steps (λ step. step.after.items)));
  transactions = ap (λ (ts : List Transaction). map (λ (t : Transaction). t.body) ts) transactions ∙ bodies_of txs ∙ do_so;
}
plan_of (Err e) steps flags txs unset do_so initial transactions = initial

-- without tables the values are those of the flags
pub without_tables : (flags : List (String Global × ℤ)) (ts : List Table) → ts ≡ [] → map (λ v. v.1) flags ++ flat_map (λ (t : Table). values_of t.cells) ts ≡ map (λ v. v.1) flags
without_tables flags ts e =
    ap (λ (us : List Table). map (λ (v : String Global × ℤ). v.1) flags ++ flat_map (λ (t : Table). values_of t.cells) us) e
    ∙ append-nil (map (λ (v : String Global × ℤ). v.1) flags)
