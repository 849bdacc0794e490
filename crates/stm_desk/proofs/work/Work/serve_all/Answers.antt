use Rattle.std.proofs.Common.{◌∙◌, [], ap, length, refl, sym}
use Rattle.std.proofs.lemmas.List.{append-nil}
use Rattle.txn_programs.specs.Listing.{Listing}
use Rattle.stm_desk.specs.Running.{noted_by}
use Rattle.stm_desk.proofs.Handing.{goes_both, hands_both, hands_nothing}
use Rattle.stm_desk.proofs.Settling.{alike_keeps, keeps_both, kept_of, readied_alike, readied_still}
use Rattle.stm_desk.proofs.work.Work.serve_all.Goals as goal

-- what ran is ready
pub invariant_of-self : goal.invariant_of-self
invariant_of-self c =
    let s = c.args.self.now in
    let new = c.make_ready.new.self in
    let a = readied_alike s.store new c.make_ready.ensures.kept c.make_ready.ensures.book in
    let k = alike_keeps s.first.value s.closed s.store new (noted_by s) a (kept_of s) in
    record {
      lends = λ none. ap (λ (l : Listing). length l.transactions) a.kept.store.catalogue ∙ s.lends none;
      counted = k.counted;
      accounts = k.accounts;
      seated = k.seated;
      told = k.told;
    }

pub loop-init : goal.loop-init
loop-init c =
    let s = c.args.self.now in
    let new = c.make_ready.new.self in
    record {
      goes_on = record { first = refl; long = refl; catalogue = c.make_ready.ensures.kept.store.catalogue; chapter = c.make_ready.ensures.kept.store.chapter; closed = refl; last = refl; history = ([], sym (append-nil s.history.items)) };
      hands_on = hands_nothing s.waiters s.waiters refl;
      kept = c.make_ready.ensures.kept;
      still = readied_still s.store new c.make_ready.ensures.book;
    }

pub loop-preserved : goal.loop-preserved
loop-preserved c =
    let so_far = c.loop.invariant in
    let one = c.serve_next.ensures in
    record {
      goes_on = goes_both _ _ _ so_far.goes_on one.goes_on;
      hands_on = hands_both _ _ _ so_far.hands_on one.hands_on;
      kept = keeps_both _ _ _ so_far.kept one.kept;
      still = one.still refl so_far.still;
    }

pub returns-clause-settled : goal.returns-clause-settled
returns-clause-settled c =
    let g = goes_both _ _ _ c.loop.invariant.goes_on c.serve_next.ensures.goes_on in
    record {
      still = c.serve_next.ensures.still refl c.loop.invariant.still;
      due = c.clear.ensures.items;
      listing = c.serve_next.ensures.kept.listing ∙ c.loop.invariant.kept.listing;
      tickets = c.serve_next.ensures.kept.tickets ∙ c.loop.invariant.kept.tickets;
      hands_on = hands_both _ _ _ c.loop.invariant.hands_on c.serve_next.ensures.hands_on;
      goes_on = record { first = g.first; long = g.long; catalogue = g.catalogue; chapter = g.chapter; closed = g.closed; last = g.last; history = g.history };
    }

pub returns-clause-kept : goal.returns-clause-kept
returns-clause-kept c = keeps_both _ _ _ c.loop.invariant.kept c.serve_next.ensures.kept
