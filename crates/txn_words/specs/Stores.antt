-- The order of a commit's stores: lock each version word, store each value, move the clock, release each version word.
use Rattle.std.specs.Prelude.{◌≡◌, ◌≢◌, ℕ, ◌+◌, ◌-◌, ◌<◌, true, false, List, [], ◌∷◌, ◌++◌, fold, map, length, slice_index, slice_index_or, slice_set, ℤ, pos}
use Rattle.txn_programs.specs.declared.ast.VarId.{VarId}
use Rattle.txn_words.specs.Words.{Commit, state_value, state_of, last_state}

-- a variable, and its value from now on
abbrev pub Change : Type 0
Change = VarId × ℤ

-- the state m with these changes
abbrev pub with_changes : List ℤ → List Change → List ℤ
with_changes m changes = fold (λ (l : List ℤ) (c : Change). slice_set l c.0.0 c.1) m changes

abbrev pub no_change : Change
no_change = (record { 0 = 0 }, pos 0)

-- the variable of the change at place i
abbrev pub id_of : List Change → ℕ → ℕ
id_of changes i = (slice_index_or changes i no_change).0.0

-- the new value of the change at place i
abbrev pub new_of : List Change → ℕ → ℤ
new_of changes i = (slice_index_or changes i no_change).1

-- the variables exist and ascend, and each new value differs from the one in the state m
pub record AreChanges (m : List ℤ) (changes : List Change) : Type 0 where
  pub exist : (i : ℕ) → i < length changes → id_of changes i < length m
  pub ascend : (i j : ℕ) → i < j → j < length changes → id_of changes i < id_of changes j
  pub differ : (i : ℕ) → i < length changes → new_of changes i ≢ state_value m (id_of changes i)

-- what was stored when the words are made: one state, m, whose number is 0
abbrev pub opened : List ℤ → Commit
opened m = record {
  history = m ∷ [];
  values = m;
  versions = map (λ _. 0) m;
  locked = map (λ _. false) m;
  storing = false;
  late = false;
  stores = 0;
}

-- LockVersion: the version word of x gets its lock bit. It may while x is free, and before the first value is stored.
abbrev pub after_lock : ℕ → Commit → Commit
after_lock x c = record c { locked = slice_set c.locked x true; late = c.storing; stores = c.stores + 1 }

pub record MayLock (c : Commit) (x : ℕ) : Type 0 where
  pub within : x < length c.values
  pub free : slice_index_or c.locked x false ≡ false
  pub before_values : c.storing ≡ false

-- StoreValue: the value word of x gets the value z. It may while x is locked.
abbrev pub after_value : ℕ → ℤ → Commit → Commit
after_value x z c = record c { values = slice_set c.values x z; storing = true; stores = c.stores + 1 }

pub record MayStore (c : Commit) (x : ℕ) : Type 0 where
  pub within : x < length c.values
  pub locked : slice_index_or c.locked x false ≡ true

-- StoreClock: the clock gets the next number, and the history one state more: the values that the value words hold now.
abbrev pub after_clock : Commit → Commit
after_clock c = record c { history = c.history ++ c.values ∷ []; storing = false; stores = c.stores + 1 }

-- ReleaseVersion: the version word of x gets the number of the last state, and no lock bit. It may while x is locked,
-- once the clock has moved, where x changed at that state.
abbrev pub after_release : ℕ → Commit → Commit
after_release x c = record c {
  locked = slice_set c.locked x false;
  versions = slice_set c.versions x (length c.history - 1);
  stores = c.stores + 1;
}

pub record MayRelease (c : Commit) (x : ℕ) : Type 0 where
  pub within : x < length c.values
  pub locked : slice_index_or c.locked x false ≡ true
  pub after_clock : c.storing ≡ false
  pub older : slice_index c.versions x < length c.history - 1
  pub changed : state_value (last_state c.history) x ≢ state_value (state_of c.history (length c.history - 1 - 1)) x
