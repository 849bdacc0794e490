-- Desks that are opened, and their chapters as a host has them.
use Rattle.std.specs.Prelude.{◌≡◌, ◌≢◌, ◌⊎◌, ℕ, ℤ, pos, [], false, Option, Some, None, Result, Ok, Err}
use Rattle.stm_store.specs.declared.answers.Refused.{Refused}
use Rattle.stm_store.specs.declared.store.Store.{Store}
use Rattle.stm_desk.specs.declared.desk.Desk.{Desk}
use Rattle.stm_desk.specs.declared.ended.Ended.{Ended}
use Rattle.stm_desk.specs.declared.ended.Last.{Last}
use Rattle.stm_desk.specs.declared.ended.Last.TheVariants as last
use Rattle.stm_desk.specs.declared.work.Work.{Work}
use Rattle.stm_desk.specs.Asking.{IsStill}
use Rattle.stm_desk.specs.Ending.{EndsChapter, HasBegun, TakesBack}
use Rattle.stm_desk.specs.History.{Begins}
use Rattle.stm_desk.specs.Waiting.{waiting_at}
use Rattle.stm_c.specs.Long.{AreMarks}
use Rattle.stm_c.specs.Numbers.{empty_handle, full_handle, not_ended, number_of_done, number_of_refused, out_of_memory, work_left}

-- the desk of the store: open, with nobody who waits and nothing to be told; what is long is found from the program
pub record IsDeskOf (store : Store) (desk : Desk) : Type 0 where
  pub first : desk.work.first.value ≡ store
  pub is_open : desk.work.closed ≡ false
  pub last : desk.work.last ≡ last.Kept
  pub nobody : (ticket : ℕ) → waiting_at desk.work.waiters ticket ≡ None
  pub told : desk.work.waiters.told.items ≡ []
  pub long : AreMarks store.catalogue.now desk.work.long.items

-- `stm_open_desk`: of the store that its handle held
abbrev pub IsOpenedFor : Option Store → Desk → Type 0
IsOpenedFor None desk = ⊥
IsOpenedFor (Some store) desk = IsDeskOf store desk

-- `stm_open_desk`: which number it answers, by what the handle holds that is to be filled: it is full, or a task of the
-- store is running; else it is done, or out of memory
pub record AnswersDesk (store : Store) (out : Option Desk) (n : ℤ) : Type 0 where
  pub full : (out ≡ None → ⊥) → n ≡ full_handle
  pub running : out ≡ None → (IsStill store → ⊥) → n ≡ work_left
  pub still : out ≡ None → IsStill store → (n ≡ pos 0) ⊎ (n ≡ out_of_memory)

-- the host has the chapter in its handle; without memory for that, it counts as not kept. Else no chapter ended, and why
abbrev pub IsHandedOver : Result Ended Refused → Work → ℤ → Option Ended → Work → Type 0
IsHandedOver (Ok e) ended answer handle new =
    ((answer ≡ pos 0) × (handle ≡ Some e) × (new ≡ ended))
    ⊎ ((answer ≡ out_of_memory) × (handle ≡ None) × TakesBack ended e (last.NotKept e) (Ok tt) new)
IsHandedOver (Err why) ended answer handle new = (answer ≡ number_of_refused why) × (handle ≡ None) × (new ≡ ended)

-- the chapter ends, into a handle that was empty
pub record EndsInto (old : Desk) (answer : ℤ) (handle : Option Ended) (new : Desk) : Type 0 where
  pub how : Result Ended Refused
  pub mid : Work
  pub ended : EndsChapter old.work how mid
  pub handed : IsHandedOver how mid answer handle new.work
  pub history : Begins old.work.history.items new.work.history.items
  pub first : new.work.first.value ≡ old.work.first.value
  pub closed : new.work.closed ≡ old.work.closed

-- `stm_desk_end_chapter`: -13 and no change where the handle is not empty
pub record EndsFor (old : Desk) (out : Option Ended) (answer : ℤ) (handle : Option Ended) (new : Desk) : Type 0 where
  pub full : (out ≡ None → ⊥) → (answer ≡ full_handle) × (handle ≡ out) × (new ≡ old)
  pub ends : out ≡ None → EndsInto old answer handle new

-- `stm_desk_begin_chapter`
pub record BeginsChapter (old : Desk) (answer : ℤ) (new : Desk) : Type 0 where
  pub how : Result (Unit {0}) Refused
  pub begun : HasBegun old.work how new.work
  pub answered : answer ≡ number_of_done how
  pub history : Begins old.work.history.items new.work.history.items
  pub first : new.work.first.value ≡ old.work.first.value
  pub closed : new.work.closed ≡ old.work.closed
  pub last : new.work.last ≡ old.work.last

-- 0, and the handle is empty; else -11, and it holds the chapter still
abbrev pub IsTakenBack : Result (Unit {0}) Ended → ℤ → Option Ended → Type 0
IsTakenBack (Ok done) answer handle = (answer ≡ pos 0) × (handle ≡ None)
IsTakenBack (Err e) answer handle = (answer ≡ not_ended) × (handle ≡ Some e)

-- why a chapter is not given back: there is none, or it is not the one that the host has
abbrev pub IsNotGiven : Desk → Option Ended → ℤ → Type 0
IsNotGiven desk None why = why ≡ empty_handle
IsNotGiven desk (Some e) why = (desk.work.last ≢ last.Out e.chapter) × (why ≡ not_ended)

-- `stm_desk_kept` and `stm_desk_not_kept` of the chapter in the handle: so it stands with the chapter that ended last, where
-- that is the one that the host has
abbrev pub GivesBack : Desk → Option Ended → (Ended → Last) → ℤ → Option Ended → Desk → Type 0
GivesBack old None how answer handle new = (answer ≡ empty_handle) × (handle ≡ None) × (new ≡ old)
GivesBack old (Some e) how answer handle new =
    (back : Result (Unit {0}) Ended) × TakesBack old.work e (how e) back new.work × IsTakenBack back answer handle
