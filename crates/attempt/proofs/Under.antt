-- The program and the code of a transaction of a catalogue.
use Rattle.std.proofs.Common.{◌≡◌, ℤ, List, ◌++◌, ◌∙◌, ap, map, String, Global}
use Rattle.txn_programs.specs.Fused.{own_code, common_code, machine_code}
use Rattle.txn_programs.specs.Listing.{Listing, call_program, conditions, program_at, transaction_at}
use Rattle.txn_programs.specs.Instance.{instance}
use Rattle.txn_programs.specs.Tree.{condition_of, transaction_of, under}
use Rattle.txn_programs.specs.declared.ast.Cond.{Cond}
use Rattle.txn_programs.specs.declared.ast.Tx.{Tx}
use Rattle.txn_programs.specs.declared.ast.TxId.{TxId}
use Rattle.txn_programs.specs.declared.code.Op.{Op}
use Rattle.attempt_machine.specs.Place.{program_under, instance_under}

pub same_program : (l : Listing) (id : TxId) (always : List (String Global × Cond)) (tx : Tx) → map (λ a. condition_of a.1) always ≡ conditions l → transaction_of tx ≡ transaction_at l id → program_under always tx ≡ program_at l id
same_program l id always tx e f = ap (λ cs. under cs (transaction_of tx)) e ∙ ap (under (conditions l)) f

-- .. and so with its arguments
pub same_instance : (given : List ℤ) (l : Listing) (id : TxId) (always : List (String Global × Cond)) (tx : Tx) → map (λ a. condition_of a.1) always ≡ conditions l → transaction_of tx ≡ transaction_at l id → instance_under given always tx ≡ call_program l id given
same_instance given l id always tx e f = ap (instance given) (same_program l id always tx e f)

pub same_code : (l : Listing) (id : TxId) (own ending : List Op) → own ≡ own_code (transaction_at l id).body (transaction_at l id).result → ending ≡ common_code (conditions l) → own ++ ending ≡ machine_code (program_at l id)
same_code l id own ending e f = ap (λ c. c ++ ending) e ∙ ap (λ c. own_code (transaction_at l id).body (transaction_at l id).result ++ c) f
