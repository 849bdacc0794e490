-- What a seat at the shared words knows: what the publisher stored, or what a reader loaded.
use Rattle.std.specs.Prelude.{[], Option, Some, None, false}
use Rattle.txn_words.specs.Words.{Commit}
use Rattle.txn_words.specs.Loads.{PassRecord, enrolled}

pub record Sight : Type 0 where
  pub publisher : Option Commit
  pub reader : Option PassRecord

-- the publisher's seat
abbrev pub publishing : Commit → Sight
publishing c = record { publisher = Some c; reader = None }

-- a reader's seat
abbrev pub reading : PassRecord → Sight
reading r = record { publisher = None; reader = Some r }

-- the publisher's seat while a reader's record lies there too
abbrev pub meeting : Commit → PassRecord → Sight
meeting c r = record { publisher = Some c; reader = Some r }

-- a seat that was left
abbrev pub nothing : Sight
nothing = record { publisher = None; reader = None }

abbrev pub commit_or : Option Commit → Commit
commit_or None = record { history = []; values = []; versions = []; locked = []; storing = false; late = false; stores = 0 }
commit_or (Some c) = c

-- what the publisher stored, as its own seat knows it
abbrev pub commit_of : Sight → Commit
commit_of d = commit_or d.publisher

abbrev pub record_or : Option PassRecord → PassRecord
record_or None = enrolled []
record_or (Some r) = r

-- what a reader loaded, as its own seat knows it
abbrev pub record_of : Sight → PassRecord
record_of d = record_or d.reader
