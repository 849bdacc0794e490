use Rattle.std.proofs.Common.{◌≡◌, ◌∙◌, ◌&&◌, ◌+◌, ap, sym, true, drop, List, map, String, Global, string_bytes}
use Rattle.std.specs.List.{list_all}
use Rattle.std.proofs.lemmas.List.{at_drop_more}
use Rattle.txn_programs.specs.declared.ast.Tx.{Tx}
use Rattle.txn_programs.specs.Names.{are_new, has_own_parameters}
use Rattle.txn_programs.specs.Tree.{transaction_of}
use Rattle.txn.proofs.build.parameters_own.Goals as goal

pub loop-tx-preserved : goal.loop-tx-preserved
loop-tx-preserved c variables told =
    let own = λ (t : Tx). has_own_parameters variables (transaction_of t) in
    let txs = c.args.txs.now in
    let i = c.loop-tx.tx-index in
    let t = c.tx-item.result in
    let step : list_all own (drop i txs) ≡ (own t && list_all own (drop (i + 1) txs)) = at_drop_more (list_all own) txs i t c.loop-tx-test.true ∙ ap (λ (x : Tx). own x && list_all own (drop (i + 1) txs)) (sym c.tx-item.is) in
    let here : own t ≡ true = ap (λ (params : List (String Global)). are_new variables (map string_bytes params)) (sym c.deref.ensures.value) ∙ c.in_ok-names_new.ensures.new variables told in
    sym (step ∙ ap (λ b. b && list_all own (drop (i + 1) txs)) here) ∙ c.loop-tx.invariant variables told
