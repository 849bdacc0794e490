-- Which calls can be made is the same in all listings that declare the same.
use Rattle.std.proofs.Common.{◌≡◌, ◌∙◌, ◌<◌, ℤ, List, length, ap, subst}
use Rattle.txn_programs.specs.declared.ast.TxId.{TxId}
use Rattle.txn_programs.specs.Listing.{Listing, IsCallable, arity, transaction_at}
use Rattle.stm_store.specs.Working.{declaring}

pub callable_same : (l m : Listing) (tx : TxId) (arguments : List ℤ) → declaring l ≡ declaring m → IsCallable l tx arguments → IsCallable m tx arguments
callable_same l m tx arguments same h =
    record {
      declared = subst (λ (k : Listing). tx.0 < length k.transactions) same h.declared;
      each = h.each ∙ ap (λ (k : Listing). arity (transaction_at k tx)) same;
    }
