use Rattle.std.proofs.Common.{◌≡◌, true, false, get_or, length, refl, sym, ◌∙◌, ap, subst, arith}
use Rattle.std.specs.Prelude.{All}
use Rattle.std.proofs.lemmas.List.{take_all}
use Rattle.std.proofs.lemmas.List.Elements.{All-more}
use Rattle.std.proofs.lemmas.Option.{slice_get_read}
use Rattle.explore_law.specs.declared.found.End.{End}
use Rattle.explore_runner.specs.FoundText.{some_wait}
use Rattle.explore_runner.proofs.denied.first_waiting.Goals as goal

pub returns-then-some_wait-clause-some : goal.returns-then-some_wait-clause-some
returns-then-some_wait-clause-some c =
    let ends = c.args.ends.now in
    let k = c.ends.k in
    let e : End = c.index-ends-k.result in
    let there : some_wait (get_or ends k e).waiting.items ≡ true = ap some_wait (sym c.as_slice.ensures.value) ∙ (sym c.some_wait.ensures ∙ c.if-some_wait.true) in
    let waits : some_wait e.waiting.items ≡ true = subst (λ (x : End). some_wait x.waiting.items ≡ true) (sym c.index-ends-k.is) there in
    record {
      place = k;
      number = refl;
      end = e;
      at = slice_get_read ends (length ends) k e refl c.ends-test.true c.index-ends-k.is;
      waits = waits;
      before = c.ends.invariant;
    }

pub ends-preserved : goal.ends-preserved
ends-preserved c =
    let e : End = c.index-ends-k.result in
    let no : some_wait (get_or c.args.ends.now c.ends.k e).waiting.items ≡ false = ap some_wait (sym c.as_slice.ensures.value) ∙ (sym c.some_wait.ensures ∙ c.if-some_wait.false) in
    All-more (λ (x : End). some_wait x.waiting.items ≡ false) c.args.ends.now c.ends.k e c.ends-test.true c.ends.invariant no

pub returns-clause-none : goal.returns-clause-none
returns-clause-none c =
    subst (All (λ (x : End). some_wait x.waiting.items ≡ false)) (take_all c.ends.k c.args.ends.now (omega (arith, c.ends-test.false))) c.ends.invariant
