use Rattle.world_law.proofs.Working.{torn_holds, back_holds, pair_opens, back_opens, half_opens, moved_holds, refused_holds, fresh_holds}
use Rattle.world_law.proofs.Waiting.{waiting_opens, thrown_holds, parked_holds, dropped_holds, locked_holds}
use Rattle.world_law.proofs.laws.worked_runs.Goals as goal

pub returns-clause-pair : goal.returns-clause-pair
returns-clause-pair c = pair_opens

pub returns-clause-torn : goal.returns-clause-torn
returns-clause-torn c = torn_holds

pub returns-clause-single : goal.returns-clause-single
returns-clause-single c = back_opens

pub returns-clause-back : goal.returns-clause-back
returns-clause-back c = back_holds

pub returns-clause-half : goal.returns-clause-half
returns-clause-half c = half_opens

pub returns-clause-moved : goal.returns-clause-moved
returns-clause-moved c = moved_holds

pub returns-clause-refused : goal.returns-clause-refused
returns-clause-refused c = refused_holds

pub returns-clause-fresh : goal.returns-clause-fresh
returns-clause-fresh c = fresh_holds

pub returns-clause-waiting : goal.returns-clause-waiting
returns-clause-waiting c = waiting_opens

pub returns-clause-thrown : goal.returns-clause-thrown
returns-clause-thrown c = thrown_holds

pub returns-clause-parked : goal.returns-clause-parked
returns-clause-parked c = parked_holds

pub returns-clause-dropped : goal.returns-clause-dropped
returns-clause-dropped c = dropped_holds

pub returns-clause-locked : goal.returns-clause-locked
returns-clause-locked c = locked_holds
