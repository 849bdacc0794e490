use Rattle.std.proofs.Common.{false, Bool, List, get_or, set, ◌∙◌, ap, arith}
use Rattle.book.specs.Table.{low_bits}
use Rattle.book.proofs.Sleeping.{no_pair, flagging_next, flagging_known, flagging_room, set_read}
use Rattle.book.proofs.sleepers.leave_log.Goals as goal

pub index_mut-requires : goal.index_mut-requires
index_mut-requires c =
    let l = c.loop-pair in
    omega (arith, c.requires.known l.pair-index c.loop-pair-test.true, l.invariant.size, l.sleepers.ok.0)

pub remove-requires : goal.remove-requires
remove-requires c =
    let l = c.loop-pair in
    let y = low_bits (get_or c.args.log.now l.pair-index no_pair).0.0 in
    let low = flagging_known false c.args.log.now c.args.task c.args.sleepers.now.items l.pair-index l.sleepers.items y (c.requires.known l.pair-index c.loop-pair-test.true) l.invariant in
    flagging_room false c.args.log.now c.args.task c.args.sleepers.now.items l.pair-index l.sleepers.items y c.index_mut.result.now c.requires.room low
    (set_read l.sleepers.items y c.index_mut.result.now low c.index_mut.ensures.value) l.invariant

pub loop-pair-preserved : goal.loop-pair-preserved
loop-pair-preserved c =
    let l = c.loop-pair in
    let y = low_bits (get_or c.args.log.now l.pair-index no_pair).0.0 in
    let low = flagging_known false c.args.log.now c.args.task c.args.sleepers.now.items l.pair-index l.sleepers.items y (c.requires.known l.pair-index c.loop-pair-test.true) l.invariant in
    let read = set_read l.sleepers.items y c.index_mut.result.now low c.index_mut.ensures.value in
    flagging_next false c.args.log.now c.args.task c.args.sleepers.now.items l.pair-index l.sleepers.items c.remove.new.self c.loop-pair-test.true low
    (c.remove.ensures ∙ ap (λ (s : List Bool). set s c.args.task false) read) l.invariant
