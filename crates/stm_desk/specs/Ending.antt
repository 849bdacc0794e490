-- The end of a chapter on a desk.
use Rattle.std.specs.Prelude.{◌≡◌, ◌≢◌, ◌⊎◌, ℕ, [], Result, Ok, Err}
use Rattle.book.specs.Chapters.{chapter_of}
use Rattle.stm_store.specs.Asking.{HasRoomNext}
use Rattle.stm_store.specs.Tickets.{kept_tickets}
use Rattle.stm_store.specs.Working.{next_number}
use Rattle.stm_store.specs.declared.answers.Refused.{Refused}
use Rattle.stm_store.specs.declared.answers.Refused.TheVariants as refused
use Rattle.stm_store.specs.declared.store.Store.{Store}
use Rattle.stm_desk.specs.declared.answers.Asked.{Asked}
use Rattle.stm_desk.specs.declared.answers.Asked.TheVariants as asked
use Rattle.stm_desk.specs.declared.ended.Ended.{Ended}
use Rattle.stm_desk.specs.declared.ended.Last.{Last}
use Rattle.stm_desk.specs.declared.ended.Last.TheVariants as last
use Rattle.stm_desk.specs.declared.work.Work.{Work}
use Rattle.stm_desk.specs.Asking.{GoesOn, IsSame, IsStill}
use Rattle.stm_desk.specs.Telling.{TellsOf}
use Rattle.stm_desk.specs.Waiting.{HandsOn}

-- the next chapter begins: the tasks that wait come over, with their tickets
pub record BeginsNext (old new : Store) : Type 0 where
  pub book : new.book ≡ chapter_of old.book
  pub tickets : new.tickets ≡ kept_tickets old.tickets old.book
  pub chapter : new.chapter ≡ next_number old.chapter
  pub catalogue : new.catalogue.now ≡ old.catalogue.now

-- each task that ran has had its turn, and what that woke: nothing is left to be evaluated or handed out, no task was
-- made, and who waited waits on or is told
pub record Settled (old new : Work) : Type 0 where
  pub still : IsStill new.store
  pub due : new.due.items ≡ []
  pub listing : new.store.book.catalogue ≡ old.store.book.catalogue
  pub tickets : new.store.tickets ≡ old.store.tickets
  pub hands_on : HandsOn old.waiters new.waiters
  pub goes_on : GoesOn old new

-- the present chapter ends, and this is told of it
pub record EndsNow (old : Work) (e : Ended) (new : Work) : Type 0 where
  pub kept : old.last ≡ last.Kept
  pub number : e.chapter ≡ old.store.chapter
  pub tells : TellsOf old.store.book e.file e.report
  pub begins : BeginsNext old.store new.store
  pub waiters : new.waiters ≡ old.waiters
  pub history : new.history.items ≡ old.history.items
  pub due : new.due.items ≡ []

-- the chapter that was not kept is given again, and no other one ends
pub record GivesAgain (old : Work) (e : Ended) (new : Work) : Type 0 where
  pub not_kept : old.last ≡ last.NotKept e
  pub store : new.store ≡ old.store
  pub waiters : new.waiters ≡ old.waiters
  pub history : new.history.items ≡ old.history.items
  pub due : new.due.items ≡ old.due.items

-- `end_chapter`: the host has the chapter then; else no chapter ended
abbrev pub EndsChapter : Work → Result Ended Refused → Work → Type 0
EndsChapter old (Ok e) new =
    (new.last ≡ last.Out e.chapter)
    × (GivesAgain old e new ⊎ ((mid : Work) × Settled old mid × EndsNow mid e new))
EndsChapter old (Err refused.NotEnded) new = ((chapter : ℕ) × (old.last ≡ last.Out chapter)) × (new ≡ old)
EndsChapter old (Err refused.Memory) new = (old.last ≡ last.Kept) × Settled old new
EndsChapter old (Err _) new = ⊥

-- the next chapter begins, and nothing is told of the one before
pub record BeginsUntold (old new : Work) : Type 0 where
  pub begins : BeginsNext old.store new.store
  pub waiters : new.waiters ≡ old.waiters
  pub history : new.history.items ≡ old.history.items
  pub due : new.due.items ≡ []

-- `begin_chapter`: once what ran has had its turn; else the host has a chapter, or did not keep it
abbrev pub HasBegun : Work → Result (Unit {0}) Refused → Work → Type 0
HasBegun old (Ok done) new = (old.last ≡ last.Kept) × ((mid : Work) × Settled old mid × BeginsUntold mid new)
HasBegun old (Err refused.NotEnded) new = (old.last ≢ last.Kept) × (new ≡ old)
HasBegun old (Err _) new = ⊥

-- `kept` and `not_kept`: so it stands with the chapter that ended last, where that is the one that the host has
abbrev pub TakesBack : Work → Ended → Last → Result (Unit {0}) Ended → Work → Type 0
TakesBack old e how (Ok done) new = (old.last ≡ last.Out e.chapter) × (new ≡ record old { last = how })
TakesBack old e how (Err back) new = (old.last ≢ last.Out e.chapter) × (back ≡ e) × (new ≡ old)

-- the chapter that ended last was not kept
abbrev pub IsNotKept : Last → Type 0
IsNotKept last.Kept = ⊥
IsNotKept (last.Out chapter) = ⊥
IsNotKept (last.NotKept e) = Unit {0}

-- the next chapter would have room, and none lies here that was not kept
pub record MakesRoom (w : Work) : Type 0 where
  pub room : HasRoomNext w.store
  pub none_lies : IsNotKept w.last → ⊥

-- what happens before it is said whether the next chapter makes room: nothing where that is plain at once, else what
-- runs has its turn, since whatever ends leaves its place
abbrev pub LooksAgain : Work → Work → Type 0
LooksAgain old new =
    ((MakesRoom old ⊎ IsNotKept old.last) × IsSame old new) ⊎ ((HasRoomNext old.store → ⊥) × Settled old new)

-- what a call is answered for which the chapter has no room
abbrev pub IsTurnedAway : Work → Result Asked Refused → Work → Type 0
IsTurnedAway old (Ok asked.ChapterFull) new = LooksAgain old new × MakesRoom new
IsTurnedAway old (Ok a) new = ⊥
IsTurnedAway old (Err refused.NoRoom) new = LooksAgain old new × (MakesRoom new → ⊥)
IsTurnedAway old (Err why) new = ⊥
