use Rattle.std.proofs.Common.{◌∙◌, ◌<◌, ◌-◌, ◌≤◌, sym, pos, length, arith}
use Rattle.std.proofs.lemmas.Option.{slice_get-get_or}
use Rattle.attempt_writes.proofs.InOrder.{write_behind, known_behind, known_from, none_from}
use Rattle.attempt_writes.proofs.Putting.{put_same, last_set, last_known, end_put, end_none}
use Rattle.attempt_writes.proofs.written.place.Goals as goal

pub returns-then-y-x-clause-taken : goal.returns-then-y-x-clause-taken
returns-then-y-x-clause-taken c =
    let lt = c.loop-i-test.true in
    (lt, λ v. sym (put_same c.args.pairs.now c.loop-i.i c.args.x v (record { 0 = 0 }, pos 0) lt c.if-y-x.true) ∙ c.loop-i.invariant.rest v)

pub loop-i-init : goal.loop-i-init
loop-i-init c =
    let w = c.args.pairs.now in
    record {
      within = c.front-i.ensures.within;
      rest = λ v. write_behind w c.front-i.result c.args.x v c.front-i.ensures.before;
      known = known_behind w c.front-i.result c.args.x c.front-i.ensures.before;
    }

pub returns-then-x-y-clause-unknown : goal.returns-then-x-y-clause-unknown
returns-then-x-y-clause-unknown c =
    let w = c.args.pairs.now in
    sym c.loop-i.invariant.known ∙ none_from w c.loop-i.i c.args.x _ c.requires (slice_get-get_or w c.loop-i.i (record { 0 = 0 }, pos 0) c.loop-i-test.true) c.if-x-y.true

pub returns-then-y-x-clause-known : goal.returns-then-y-x-clause-known
returns-then-y-x-clause-known c = λ p e.
    sym c.loop-i.invariant.known ∙ known_from c.args.pairs.now c.loop-i.i c.args.x p (record { 0 = 0 }, pos 0) c.if-y-x.true c.loop-i-test.true e

pub returns-then-last-x-clause-taken : goal.returns-then-last-x-clause-taken
returns-then-last-x-clause-taken c =
    let w = c.args.pairs.now in
    let lt : length w - 1 < length w = omega (arith, c.if-len-gt0.true) in
    (lt, λ v. last_set w (length w - 1) c.args.x v (record { 0 = 0 }, pos 0) c.requires lt c.if-last-x.true)

pub returns-then-last-x-clause-known : goal.returns-then-last-x-clause-known
returns-then-last-x-clause-known c =
    let w = c.args.pairs.now in
    let lt : length w - 1 < length w = omega (arith, c.if-len-gt0.true) in
    λ p e. last_known w (length w - 1) c.args.x p (record { 0 = 0 }, pos 0) c.requires lt c.if-last-x.true e

pub returns-then-last-x-2-clause-free : goal.returns-then-last-x-2-clause-free
returns-then-last-x-2-clause-free c =
    let w = c.args.pairs.now in
    let same : length w ≤ length w = omega arith in
    (same, λ v. end_put w c.args.x v (record { 0 = 0 }, pos 0) c.requires c.if-len-gt0.true c.if-last-x-2.true)

pub returns-then-last-x-2-clause-unknown : goal.returns-then-last-x-2-clause-unknown
returns-then-last-x-2-clause-unknown c = end_none c.args.pairs.now c.args.x (record { 0 = 0 }, pos 0) c.requires c.if-len-gt0.true c.if-last-x-2.true
