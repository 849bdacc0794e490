use Rattle.std.proofs.Common.{◌≡◌, ℕ, ◌∙◌, length, sym, ap, subst}
use Rattle.txn_programs.specs.Listing.{call_program}
use Rattle.attempt.specs.Asking.{Known, Ends, ask}
use Rattle.attempt.specs.Order.{AllKnown}
use Rattle.attempt.specs.View.{AttemptView}
use Rattle.explore_search.proofs.Calls.{callable_by}
use Rattle.explore_search.proofs.Keeping.{ends_as}
use Rattle.explore_search.proofs.kept.answered.Goals as goal

pub restart-requires : goal.restart-requires
restart-requires c =
    callable_by c.args.catalogue.now c.args.calls.now c.args.k.0 c.index-calls-k.result c.as_slice.result.now c.rules.ensures.names c.requires.calls c.requires.known c.index-calls-k.is c.as_slice.ensures.value

pub returns-clause-answer : goal.returns-clause-answer
returns-clause-answer c =
    let l = c.args.catalogue.now in
    let a = c.evaluate_on.new.self in
    let o = c.in_ok-outcome.outcome in
    let program : a.program ≡ call_program l c.index-calls-k.result.tx c.index-calls-k.result.arguments =
    c.evaluate_on.ensures.program ∙ (ap (λ (x : AttemptView). x.program) c.restart.ensures ∙ ap (call_program l c.index-calls-k.result.tx) c.as_slice.ensures.value) in
    let variables : a.variables ≡ length l.initial = c.evaluate_on.ensures.variables ∙ ap (λ (x : AttemptView). x.variables) c.restart.ensures in
    let reads : c.copy.new.list.items ≡ a.log = c.in_ok-copy.ensures ∙ c.log.ensures.value in
    let writes : c.copy-2.new.list.items ≡ c.writes.result.now = c.in_ok-copy-2.ensures in
    let asked : ask a.program a.log ≡ Ends o c.writes.result.now = c.writes.ensures.ends o c.in_ok-outcome.ensures.ended in
    let ends : ask a.program c.copy.new.list.items ≡ Ends o c.copy-2.new.list.items =
    subst (λ (w : Known). ask a.program c.copy.new.list.items ≡ Ends o w) (sym writes) (subst (λ (log : Known). ask a.program log ≡ Ends o c.writes.result.now) (sym reads) asked) in
    let holds = ends_as l c.args.calls.now c.args.k c.index-calls-k.result a.program c.copy.new.list.items c.copy-2.new.list.items o c.frame.ensures c.rules.ensures.names c.rules.ensures.valued
    c.requires.calls c.requires.known c.index-calls-k.is program ends in
    record {
      read = subst (AllKnown (length l.initial)) (sym c.in_ok-copy.ensures) (subst (λ (n : ℕ). AllKnown n c.log.result.now) variables c.log.ensures.known);
      written = subst (AllKnown (length l.initial)) (sym writes) (subst (λ (n : ℕ). AllKnown n c.writes.result.now) variables c.writes.ensures.known);
      ends = λ m wide agrees. (holds m wide agrees).0;
      leaves = λ m wide agrees. (holds m wide agrees).1;
    }
