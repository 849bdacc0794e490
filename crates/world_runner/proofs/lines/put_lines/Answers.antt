use Rattle.std.proofs.Common.{◌∙◌, string_bytes}
use Rattle.txn_programs.specs.declared.moves.Move.{Move}
use Rattle.txn_programs.specs.declared.moves.Move.TheVariants.{Begin}
use Rattle.world_runner.proofs.Turns.{puts_more}
use Rattle.world_runner.proofs.lines.put_lines.Goals as goal

abbrev none : Move
none = Begin (record { 0 = 0 })

pub moves-preserved : goal.moves-preserved
moves-preserved c =
    let i = c.moves.invariant in
    let w = c.args.world.now in
    let mid = c.moves.world in
    record {
      of = c.in_ok-seen.ensures.listing ∙ i.of;
      lines = puts_more c.args.catalogue.now mid.listing w.world mid.world c.play.new.self.world c.args.moves.now c.moves.i none c.in_ok-seen.seen
          (string_bytes c.args.out.now) (string_bytes c.moves.out) (string_bytes c.put_seen.new.out) c.moves-test.true i.of i.lines c.in_ok-seen.ensures.ok c.in_ok-put_seen.ensures;
    }
