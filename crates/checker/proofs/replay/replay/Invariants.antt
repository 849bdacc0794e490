use Rattle.std.proofs.Common.{◌≡◌, ◌↔◌, length, drop}
use Rattle.checker.specs.View.{view}
use Rattle.checker.specs.Parts.{AllGoOn, led_to}
use Rattle.checker.proofs.replay.replay.Given as goal

abbrev pub invariant-entries : goal.invariant-entries
invariant-entries l =
    let c = l.catalogue in
    let left = drop l.entry-index l.entries in
    record {
      hold : AllGoOn c (view l.stage) left ↔ AllGoOn c (view l.fn.base) l.entries;
      reached : led_to c (view l.stage) left ≡ led_to c (view l.fn.base) l.entries;
      values : length l.stage.values.items ≡ length c.initial;
      versions : length l.stage.versions.items ≡ length c.initial;
    }
