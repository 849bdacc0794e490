-- What the fields of tickets mean, and what they keep.
use Rattle.std.specs.Prelude.{◌≤◌, length, vec_capacity}
use Rattle.txn_programs.specs.declared.limits.TheConstants.{MAX_TASKS}
use Rattle.stm_store.specs.Tickets.{TicketsView, AreTickets}
use Rattle.stm_store.specs.declared.tickets.Tickets.TheInside.{Inside}

abbrev pub tickets_of : Inside → TicketsView
tickets_of t = record { held = t.held.items; given = t.given; room = t.room }

pub record IsKept (t : Inside) : Type 0 where
  pub lawful : AreTickets (tickets_of t)
  -- no ticket takes memory
  pub fits : t.room ≤ vec_capacity t.held
  pub within : length t.held.items ≤ t.room
  pub few : t.room ≤ MAX_TASKS
