use Rattle.std.proofs.Common.{get_or, pos, string_bytes}
use Rattle.std.proofs.lemmas.Option.{slice_get-get_or}
use Rattle.txn_programs.specs.declared.ast.Outcome.TheVariants.{Returned}
use Rattle.explore_law.specs.declared.graph.Turn.{Turn}
use Rattle.explore_runner.specs.GraphText.{turn_line}
use Rattle.text_words.proofs.Pieces.{piece_more}
use Rattle.explore_runner.proofs.graph_printer.put_each_turn.Goals as goal

abbrev none : Turn
none = record { instance = record { 0 = 0 }; outcome = Returned (pos 0); to = 0 }

pub turns-preserved : goal.turns-preserved
turns-preserved c =
    let turns = c.args.turns.now in
    let i = c.turns.turn-index in
    let x = get_or turns i none in
    piece_more (turn_line c.args.catalogue.now c.args.calls.now c.args.k) turns i x (string_bytes c.args.out.now) (string_bytes c.turns.out) (string_bytes c.put_turn.new.out) (slice_get-get_or turns i none c.turns-test.true) c.turns.invariant c.in_ok-put_turn.ensures
