use Rattle.std.specs.Prelude.{◌≡◌, ◌-◌, map}
use Rattle.txn_words.specs.Words.{state_of, state_value}
use Rattle.world.specs.Inside.{state_items}
use Rattle.world.proofs.Changed.{ChangedBy}
use Rattle.world.proofs.present.last_change.Given as goal

abbrev pub invariant-states : goal.invariant-states
invariant-states l = record {
  changed : ChangedBy (map state_items l.history) l.x l.n l.last;
  value : l.value ≡ state_value (state_of (map state_items l.history) (l.n - 1)) l.x;
}
