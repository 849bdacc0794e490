-- A bank and a clerk may go from one thread to another, and a bank behind a lock may be used by many.
use denote.RattleType.{RattleType}
use denote.Param.Send.{IsSend, IsSync, sendable}
use denote.Param.SendFields.{declared_send}
use Rattle.std.proofs.Crossing.{crosses}
use Rattle.std.specs.contracts.sync.Mutex as mutex
use Rattle.stm_store.proofs.Crossing.{store_send, worker_send}
use Rattle.example_bank.specs.declared.bank.Naming.{Ghosts}
use Rattle.example_bank.specs.contracts.bank.Bank as bank
use Rattle.example_bank.specs.contracts.bank.Clerk as clerk

pub bank_send : (N : RattleType) (n : Ghosts N.Denot) → IsSend N → IsSend (bank.the_row N n)
bank_send N n s = declared_send (bank.the_type N n) (store_send, (search sendable, tt))

pub clerk_send : (N : RattleType) (n : Ghosts N.Denot) → IsSend N → IsSend (clerk.the_row N n)
clerk_send N n s = declared_send (clerk.the_type N n) (worker_send, (search sendable, tt))

pub bank_sync : (N : RattleType) (n : Ghosts N.Denot) → IsSend N → IsSync (mutex.the_row (bank.the_row N n))
bank_sync N n s = let h = bank_send N n s in search crosses depth 10
