use Rattle.std.proofs.Common.{◌≡◌, List, [], ◌∷◌, ◌++◌, length, ap, sym, subst, arith, length-append}
use Rattle.txn_programs.specs.Tree.{Transaction}
use Rattle.txn_programs.proofs.Lawful.{limits_parts}
use Rattle.txn_registers.specs.declared.registers.Compiled.{Compiled}
use Rattle.txn_registers.specs.Compiled.{IsOf}
use Rattle.book.proofs.Compiling.{AreOf, of_more}
use Rattle.book.proofs.steps.steps_of.Goals as goal

pub overflow_cast-tx-end : goal.overflow_cast-tx-end
overflow_cast-tx-end c = omega (arith, (limits_parts c.args.catalogue.now c.rules.ensures.limits).transactions, c.tx_count-tx-end.ensures)

pub transactions-preserved : goal.transactions-preserved
transactions-preserved c =
    let l = c.args.catalogue.now in
    let so_far = c.transactions.transactions.items in
    let new = c.in_ok-compile.field-0 in
    let made : c.push.new.self.items ≡ so_far ++ new ∷ [] = c.in_ok-push.ensures.items in
    record {
      all = omega (arith, ap length made, length-append so_far (new ∷ []), c.transactions.invariant.all);
      each = subst (λ (cs : List Compiled). AreOf cs l) (sym made)
          (of_more l so_far c.transactions.tx new c.transactions.invariant.each (sym c.transactions.invariant.all)
          (subst (λ (t : Transaction). IsOf new t) c.tx.ensures.value c.in_ok-compile.ensures));
    }
