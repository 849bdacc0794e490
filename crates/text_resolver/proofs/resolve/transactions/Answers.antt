use Rattle.std.proofs.Common.{List, true, ◌&&◌, ◌≡◌, ◌∙◌, ◌++◌, ◌∷◌, [], length, map, sym, ap, arith}
use Rattle.std.specs.List.{list_all}
use Rattle.std.proofs.lemmas.Bool.{and_parts}
use Rattle.text_grammar.specs.declared.file.RawTx.{RawTx}
use Rattle.text_grammar.specs.Scope.{Scope}
use Rattle.std.specs.Vec.Iter.{into_iter_items}
use Rattle.std.proofs.lemmas.List.{map_push}
use Rattle.txn_programs.specs.Tree.{transaction_of}
use Rattle.text_grammar.specs.Resolving.{each, transaction_in}
use Rattle.text_resolver.specs.Scopes.{view_scope, has_own_parameters}
use Rattle.text_grammar.specs.View.{view_tx, view_txs}
use Rattle.text_resolver.proofs.Each.{joined, each_more, each_done, nothing_left}
use Rattle.text_resolver.proofs.resolve.transactions.Goals as goal

own_here : (s : Scope) (txs more : List RawTx) (tx : RawTx) → list_all (has_own_parameters s) (view_txs txs) ≡ true → txs ≡ tx ∷ more → (has_own_parameters s (view_tx tx) && list_all (has_own_parameters s) (view_txs more)) ≡ true
own_here s txs more tx h steps = rw steps at h

pub txs-preserved : goal.txs-preserved
txs-preserved c =
    let one = transaction_in (view_scope c.args.outer.now) in
    let front = map transaction_of c.txs.made.items in
    let made = c.in_ok-transaction.transaction in
    let more = into_iter_items c.next.new.self in
    let steps : into_iter_items c.txs.tx-iterator ≡ c.in-Some.tx ∷ more = c.in-Some.ensures.steps.0 in
    let e : map transaction_of c.push.new.self.items ≡ front ++ transaction_of made ∷ [] = rw c.in_ok-push.ensures.items (map_push transaction_of c.txs.made.items made) in
    let so_far = ap (λ xs. joined front (each one (view_txs xs))) (sym steps) ∙ c.txs.invariant.0 in (
      rw e (each_more one front (view_tx c.in-Some.tx) (view_txs more) (transaction_of made) _ c.in_ok-transaction.ensures so_far),
      let was = c.txs.invariant.1 in
          let gone = c.in-Some.ensures.steps.1 in
          let short = ap length steps in
          omega arith,
      (and_parts _ _ (own_here (view_scope c.args.outer.now) _ _ _ c.txs.invariant.2 steps)).1,
    )

pub transaction_from-requires : goal.transaction_from-requires
transaction_from-requires c = record { own = (and_parts _ _ (own_here (view_scope c.args.outer.now) _ _ _ c.txs.invariant.2 c.in-Some.ensures.steps.0)).0 }

pub returns : goal.returns
returns c =
    let one = transaction_in (view_scope c.args.outer.now) in
    let front = map transaction_of c.txs.made.items in
    let empty : into_iter_items c.txs.tx-iterator ≡ [] = nothing_left _ (sym c.txs.invariant.1 ∙ c.in-None.ensures.steps.0) in
    let total = each one (view_txs (into_iter_items c.into_iter-tx-iterator.result)) in
    ap (λ xs. each one (view_txs xs)) (sym c.into_iter-tx-iterator.ensures.into_iter_gives.0)
    ∙ each_done one front total (ap (λ xs. joined front (each one (view_txs xs))) (sym empty) ∙ c.txs.invariant.0)
