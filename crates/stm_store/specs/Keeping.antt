-- What a call leaves alone.
use Rattle.std.specs.Prelude.{◌≡◌, None}
use Rattle.stm_store.specs.declared.store.Store.{Store}
use Rattle.stm_store.specs.declared.worker.Worker.{Worker}

-- its program, its cells, the passes for workers to come, how often a checkpoint is made, and the chapter
pub record KeepsStore (old new : Store) : Type 0 where
  pub catalogue : new.catalogue.now ≡ old.catalogue.now
  pub cells : new.cells ≡ old.cells
  pub workers : new.passes.items ≡ old.passes.items
  pub every : new.every ≡ old.every
  pub chapter : new.chapter ≡ old.chapter

-- and which tasks it has: the transaction of each, and its ticket
pub record KeepsTasks (old new : Store) : Type 0 where
  pub store : KeepsStore old new
  pub listing : new.book.catalogue ≡ old.book.catalogue
  pub tickets : new.tickets ≡ old.tickets

-- a worker has nothing to bring any more, and all else is as it was
pub record HasBrought (old new : Worker) : Type 0 where
  pub ended : new.ended ≡ None
  pub catalogue : new.catalogue.now ≡ old.catalogue.now
  pub cells : new.cells ≡ old.cells
  pub pass : new.pass ≡ old.pass
