-- What a handle holds that was just made.
use Rattle.std.specs.Prelude.{◌≡◌, ℕ, ℤ, pos, ◌+◌, ◌<◌, ◌≤◌, ◌⊎◌, List, [], length, Option, Some, None}
use Rattle.txn_programs.specs.declared.limits.TheConstants.{MAX_TASKS}
use Rattle.txn_programs.specs.Listing.{tasks}
use Rattle.txn_text.specs.Spelling.{Spells}
use Rattle.book.specs.View.{opened}
use Rattle.stm_store.specs.declared.program.Program.{Program}
use Rattle.stm_store.specs.declared.store.Store.{Store}
use Rattle.stm_store.specs.declared.lender.Lender.{Lender}
use Rattle.stm_store.specs.declared.worker.Worker.{Worker}
use Rattle.stm_store.specs.Tickets.{AreNumbers}
use Rattle.stm_c.specs.Numbers.{out_of_memory, no_worker, full_handle, no_room}

-- `stm_read`: the program that the bytes spell
abbrev pub IsRead : List ℕ → Program → Type 0
IsRead file program = Spells file program.catalogue.now

-- how many workers a store can have
abbrev pub most_workers : ℕ
most_workers = 32

-- all tasks ready, each with its number as its ticket, the initial values, an empty journal, the first chapter, and
-- room for so many workers and tasks more
pub record IsOpened (program : Program) (workers every spare : ℕ) (store : Store) : Type 0 where
  pub book : store.book ≡ opened program.catalogue.now store.cells spare
  pub program_is : store.catalogue.now ≡ program.catalogue.now
  pub for_workers : length store.passes.items ≡ workers
  pub checkpoints : store.every ≡ every
  pub numbers : AreNumbers store.tickets.held (length (tasks program.catalogue.now))
  pub given : store.tickets.given ≡ length (tasks program.catalogue.now)
  pub chapter : store.chapter ≡ 0

-- `stm_open`: of the program that its handle holds
abbrev pub IsOpenedOf : Option Program → ℕ → ℕ → ℕ → Store → Type 0
IsOpenedOf None workers every spare store = ⊥
IsOpenedOf (Some program) workers every spare store = IsOpened program workers every spare store

-- which number a call that opens a store of this program answers, by what the handle holds that is to be filled: it is full, too many workers, too many tasks; else it is done, or out of memory
pub record AnswersOpen (program : Program) (workers spare : ℕ) (out : Option Store) (n : ℤ) : Type 0 where
  pub full : (out ≡ None → ⊥) → n ≡ full_handle
  pub many : out ≡ None → most_workers < workers → n ≡ no_worker
  pub room : out ≡ None → workers ≤ most_workers → MAX_TASKS < length (tasks program.catalogue.now) + spare → n ≡ no_room
  pub fits : out ≡ None → workers ≤ most_workers → length (tasks program.catalogue.now) + spare ≤ MAX_TASKS → (n ≡ pos 0) ⊎ (n ≡ out_of_memory)

-- a worker of the store's program and cells, with nothing to bring
pub record IsWorkerOf (store : Store) (worker : Worker) : Type 0 where
  pub program : worker.catalogue.now ≡ store.catalogue.now
  pub cells : worker.cells ≡ store.cells
  pub ended : worker.ended ≡ None

-- `stm_open_worker`: of the store that its handle holds
abbrev pub IsHiredBy : Option Store → Worker → Type 0
IsHiredBy None worker = ⊥
IsHiredBy (Some store) worker = IsWorkerOf store worker

-- `stm_open_worker`: which number it answers, by what the handle holds that is to be filled: it is full, no worker is left or there is nothing to work on; else it is done, or out of memory
pub record AnswersHire (store : Store) (out : Option Worker) (n : ℤ) : Type 0 where
  pub full : (out ≡ None → ⊥) → n ≡ full_handle
  pub none : out ≡ None → (store.passes.items ≡ []) ⊎ (store.catalogue.now.transactions ≡ []) → n ≡ no_worker
  pub some : out ≡ None → 0 < length store.passes.items → 0 < length store.catalogue.now.transactions → (n ≡ pos 0) ⊎ (n ≡ out_of_memory)

-- `stm_open_worker`: a worker less is left where it answers 0, and where memory ran out; where it answers -10 there was none, or there is nothing to work on
pub record LeavesWorkers (old : Store) (answer : ℤ) (new : Store) : Type 0 where
  pub one : answer ≡ pos 0 → length new.passes.items + 1 ≡ length old.passes.items
  pub memory : answer ≡ out_of_memory → length new.passes.items + 1 ≡ length old.passes.items
  pub none : answer ≡ no_worker → (old.passes.items ≡ []) ⊎ (old.catalogue.now.transactions ≡ [])
  pub stays : (answer ≡ pos 0 → ⊥) → (answer ≡ out_of_memory → ⊥) → new.passes.items ≡ old.passes.items

-- what `stm_open_worker` leaves of a store, but for the workers that it can still make
pub record IsStillOf (old new : Store) : Type 0 where
  pub book : new.book ≡ old.book
  pub tickets : new.tickets ≡ old.tickets
  pub catalogue : new.catalogue.now ≡ old.catalogue.now
  pub cells : new.cells ≡ old.cells
  pub every : new.every ≡ old.every
  pub chapter : new.chapter ≡ old.chapter

-- `stm_open_lender`: which number it answers, by what the handle holds that is to be filled: it is full, or there is no
-- transaction; else it is done, or out of memory
pub record AnswersLend (store : Store) (out : Option Lender) (n : ℤ) : Type 0 where
  pub full : (out ≡ None → ⊥) → n ≡ full_handle
  pub none : out ≡ None → store.catalogue.now.transactions ≡ [] → n ≡ no_worker
  pub some : out ≡ None → 0 < length store.catalogue.now.transactions → (n ≡ pos 0) ⊎ (n ≡ out_of_memory)
