use Rattle.std.proofs.Common.{rules, ◌≡◌, [], None, length, refl, subst, sym, ◌∙◌, ap, arith}
use Rattle.std.proofs.Math.ListN.{length-set}
use Rattle.std.proofs.lemmas.List.{length_push}
use Rattle.attempt_writes.specs.Known.{Known}
use Rattle.attempt_writes.specs.Order.{AllKnown}
use Rattle.attempt_writes.specs.Own.{AreListed}
use Rattle.attempt_writes.proofs.OwnTable.{forget_listed, known_but_last}
use Rattle.attempt_writes.proofs.written.forget.Goals as goal

pub loop-pair-init : goal.loop-pair-init
loop-pair-init c = record { wide = refl; known = c.requires.known; listed = c.requires.listed }

pub bounds-table-pair : goal.bounds-table-pair
bounds-table-pair c =
    let n = length c.loop-pair.table in
    (known_but_last n c.pop.new.self.items c.in-Some.pair (subst (AllKnown n) c.in-Some.ensures.items c.loop-pair.invariant.known)).1

pub loop-pair-smaller : goal.loop-pair-smaller
loop-pair-smaller c = omega (arith, ap length c.in-Some.ensures.items ∙ length_push c.pop.new.self.items c.in-Some.pair)

pub loop-pair-preserved : goal.loop-pair-preserved
loop-pair-preserved c =
    let t = c.loop-pair.table in
    let n = length t in
    let p = c.in-Some.pair in
    let rest = c.pop.new.self.items in
    let known = known_but_last n rest p (subst (AllKnown n) c.in-Some.ensures.items c.loop-pair.invariant.known) in
    let same = length-set t p.0.0 None in
    record {
      wide = same ∙ c.loop-pair.invariant.wide;
      known = subst (λ n. AllKnown n rest) (sym same) known.0;
      listed = forget_listed rest p t known.1 (subst (λ (l : Known). AreListed l t) c.in-Some.ensures.items c.loop-pair.invariant.listed);
    }

pub returns-clause-nothing : goal.returns-clause-nothing
returns-clause-nothing c =
    let none : c.loop-pair.pairs.items ≡ [] = search rules in
    subst (λ (l : Known). AreListed l c.loop-pair.table) none c.loop-pair.invariant.listed
