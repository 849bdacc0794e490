-- The committer's stores.
use Rattle.std.specs.Prelude.{ℕ, ◌+◌, ◌*◌, ◌<◌, ◌^◌, List, length, slice_index, Some}
use Rattle.txn_words.specs.Words.{version_word, value_word}
use Rattle.world_law.specs.declared.events.Store.{Store}
use Rattle.world_law.specs.declared.events.Store.TheVariants.{Lock, Put, Tick, Free}
use Rattle.world.specs.declared.scene.Publishing.{Publishing}
use Rattle.world.specs.declared.scene.Scene.{Scene}

-- how many states there are after it
abbrev pub count_after : Store → ℕ → ℕ
count_after (Lock x) n = n
count_after (Put x v) n = n
count_after Tick n = n + 1
count_after (Free x) n = n

-- the word exists, and what it gets fits
abbrev pub MayWrite : Store → ℕ → List ℕ → Type 0
MayWrite (Lock x) n words = (version_word x.0 < length words) × (slice_index words (version_word x.0) + 1 < 2 ^ 64)
MayWrite (Put x v) n words = value_word x.0 < length words
MayWrite Tick n words = 0 < length words
MayWrite (Free x) n words = (version_word x.0 < length words) × (2 * n < 2 ^ 64)

-- with this committer
abbrev pub with_committer : Scene → Publishing → Scene
with_committer c p = record c { committer = Some p }
