-- How far the committer is, store by store.
use Rattle.std.specs.Prelude.{◌≡◌, ℕ, ◌+◌, ◌≤◌, false, List, fold, take, length, slice_index, slice_index_or, Option, Some, None}
use Rattle.txn_words.specs.Words.{Commit, last_state}
use Rattle.txn_words.specs.Stores.{AreChanges, after_lock, after_value, after_clock, after_release}
use Rattle.world_law.specs.declared.events.Store.{Store}
use Rattle.world_law.specs.declared.events.Store.TheVariants.{Lock, Put, Tick, Free}
use Rattle.world_law.specs.World.{Committer, stores}

-- what was stored, after one store more
abbrev pub after_store : Store → Commit → Commit
after_store (Lock x) c = after_lock x.0 c
after_store (Put x v) c = after_value x.0 v c
after_store Tick c = after_clock c
after_store (Free x) c = after_release x.0 c

abbrev pub after_stores : List Store → Commit → Commit
after_stores ss c = fold (λ (c : Commit) (s : Store). after_store s c) c ss

-- no commit is pending: no version word is locked, and the value words are the last state, whose number is n
pub record RestsAt (c : Commit) (n : ℕ) : Type 0 where
  pub counted : n + 1 ≡ length c.history
  pub past : (x : ℕ) → slice_index c.versions x ≤ n
  pub free : (x : ℕ) → slice_index_or c.locked x false ≡ false
  pub in_order : c.late ≡ false
  pub settled : (c.storing ≡ false) × (c.values ≡ last_state c.history)
  pub sized : (length c.versions ≡ length c.values) × (length c.locked ≡ length c.values)

-- What was stored is as far as the committer: with none nothing is pending, and else it is what the committer's first
-- stores made of words that rested.
abbrev pub IsAsFar : Option Committer → Commit → Type 0
IsAsFar None commit = (n : ℕ) × RestsAt commit n
IsAsFar (Some c) commit =
    (base : Commit) × (n : ℕ) × (c.number ≡ n + 1) × RestsAt base n × AreChanges (last_state base.history) c.changes
    × (commit ≡ after_stores (take c.stored (stores c.changes)) base)
