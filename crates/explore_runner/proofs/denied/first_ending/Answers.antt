use Rattle.std.proofs.Common.{false, [], get_or, subst, arith}
use Rattle.std.specs.Prelude.{All}
use Rattle.std.proofs.lemmas.List.{take_all}
use Rattle.std.proofs.lemmas.List.Elements.{All-more}
use Rattle.std.proofs.lemmas.Option.{slice_get-get_or}
use Rattle.txn_programs.proofs.Lawful.{limits_parts}
use Rattle.explore_law.specs.declared.found.Kinds.{Kinds}
use Rattle.explore_runner.specs.Denying.{NoneEnds}
use Rattle.explore_runner.proofs.denied.first_ending.Goals as goal

pub overflow_cast-result : goal.overflow_cast-result
overflow_cast-result c = omega (arith, (limits_parts c.args.catalogue.now c.rules.ensures.limits).transactions, c.requires, c.transactions-test.true)

-- what is read past the end
abbrev past : Kinds
past = record { returned = false; threw = false; overflow = false; zerodiv = false; outside = false; broke = [] }

pub returns-in-Some-clause-some : goal.returns-in-Some-clause-some
returns-in-Some-clause-some c =
    let kinds = c.args.kinds.now in
    let k = c.transactions.k in
    record {
      ks = get_or kinds k past;
      at = slice_get-get_or kinds k past c.transactions-test.true;
      shows = c.in-Some.ensures.some.0;
      denied = c.in-Some.ensures.some.1;
      first = c.in-Some.ensures.first;
      before = c.transactions.invariant;
    }

pub transactions-preserved : goal.transactions-preserved
transactions-preserved c =
    let d = c.args.denial in
    All-more (λ (x : Kinds). NoneEnds x d) c.args.kinds.now c.transactions.k past c.transactions-test.true c.transactions.invariant c.in_default.ensures.none

pub returns-clause-none : goal.returns-clause-none
returns-clause-none c =
    let d = c.args.denial in
    subst (All (λ (x : Kinds). NoneEnds x d)) (take_all c.transactions.k c.args.kinds.now (omega (arith, c.transactions-test.false))) c.transactions.invariant
