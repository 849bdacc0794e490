use Rattle.std.proofs.Common.{◌≡◌, Some, List, length, sym, ◌∙◌, subst}
use Rattle.std.specs.List.{slice_get}
use Rattle.std.proofs.lemmas.Option.{slice_get_read}
use Rattle.std.proofs.lemmas.List.{length-set}
use Rattle.txn_programs.specs.Tree.{Condition, Transaction}
use Rattle.txn_registers.specs.Compiled.{IsOf, AreTests}
use Rattle.book.proofs.Compiling.{of_run}
use Rattle.book.proofs.steps.execute_call.Goals as goal

pub execute-requires-clause-compiled : goal.execute-requires-clause-compiled
execute-requires-clause-compiled c =
    let l = c.args.catalogue.now in
    let cs = c.args.steps.now.transactions.items in
    let tx = c.args.tx in
    let own = c.index_mut.result.now in
    let at : slice_get cs tx.0 ≡ Some own = slice_get_read cs (length l.transactions) tx.0 own (sym c.requires.steps.all) c.requires.known c.index_mut.ensures.value in
    subst (λ (t : Transaction). IsOf own t) (sym c.tx.ensures.value) (c.requires.steps.each tx own at)

pub returns-clause-steps : goal.returns-clause-steps
returns-clause-steps c =
    let l = c.args.catalogue.now in
    let cs = c.args.steps.now.transactions.items in
    let tx = c.args.tx in
    let own = c.index_mut.result.now in
    let run = c.execute.new.c in
    let at : slice_get cs tx.0 ≡ Some own = slice_get_read cs (length l.transactions) tx.0 own (sym c.requires.steps.all) c.requires.known c.index_mut.ensures.value in
    record {
      all = length-set cs tx.0 run ∙ c.requires.steps.all;
      each = of_run l cs tx own run c.requires.steps.each at (subst (λ (t : Transaction). IsOf run t) c.tx.ensures.value c.execute.ensures.compiled);
      always = subst (λ (qs : List Condition). AreTests c.execute.new.tests qs) c.always.ensures.conditions c.execute.ensures.tests;
    }
