-- The steps of transactions, one after another.
use Rattle.std.proofs.Common.{◌≡◌, inl, inr, ℕ, List, [], ◌∷◌, ◌++◌, length, Some, set, sym, ◌∙◌, ap, subst}
use Rattle.std.specs.List.{slice_get}
use Rattle.std.proofs.lemmas.Bool.{cases_eq}
use Rattle.std.proofs.lemmas.Option.{same_Some}
use Rattle.txn_programs.specs.declared.ast.TxId.{TxId}
use Rattle.txn_programs.specs.Listing.{Listing, transaction_at}
use Rattle.txn_registers.specs.declared.registers.Compiled.{Compiled}
use Rattle.txn_registers.specs.Compiled.{IsOf}
use Rattle.book.proofs.Lists.{get_set_same, get_set_other, get_append_last}

-- each of them is of the transaction with its number
abbrev pub AreOf : List Compiled → Listing → Type 0
AreOf cs l = (tx : TxId) (c : Compiled) → slice_get cs tx.0 ≡ Some c → IsOf c (transaction_at l tx)

-- one more
pub of_more : (l : Listing) (cs : List Compiled) (n : ℕ) (new : Compiled) → AreOf cs l → n ≡ length cs → IsOf new (transaction_at l (record { 0 = n })) → AreOf (cs ++ new ∷ []) l
of_more l cs n new h here own tx c at =
    elim (get_append_last cs new tx.0 c at) [
      | inl before ↦ h tx c before
      | inr last ↦ let same : n ≡ tx.0 = here ∙ sym last.0 in subst (λ (x : Compiled). IsOf x (transaction_at l tx)) last.1 (subst (λ (k : ℕ). IsOf new (transaction_at l (record { 0 = k }))) same own)
    ]

-- one that was run
pub of_run : (l : Listing) (cs : List Compiled) (t : TxId) (was new : Compiled) → AreOf cs l → slice_get cs t.0 ≡ Some was → IsOf new (transaction_at l t) → AreOf (set cs t.0 new) l
of_run l cs t was new h at own tx c found =
    elim (cases_eq tx.0 t.0) [
      | inl same ↦
          let is : new ≡ c = same_Some _ _ (sym (get_set_same cs t.0 was new at) ∙ (ap (slice_get (set cs t.0 new)) (sym same) ∙ found)) in
          subst (λ (x : Compiled). IsOf x (transaction_at l tx)) is (subst (λ (k : ℕ). IsOf new (transaction_at l (record { 0 = k }))) (sym same) own)
      | inr other ↦ h tx c (sym (get_set_other cs t.0 tx.0 new other) ∙ found)
    ]
