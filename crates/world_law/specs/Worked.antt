-- Runs of the world worked out by hand, event by event.
use Rattle.std.specs.Prelude.{ℕ, Bool, true, false, List, [], ◌∷◌, pos, Option, Some, None}
use Rattle.txn_programs.specs.Listing.{Listing}
use Rattle.txn_programs.specs.Tree.{Int, Var, Add, Eq, Skip, Set, Seq, If, Retry, Throw, End, More}
use Rattle.txn_programs.specs.declared.arguments.Call.{Call}
use Rattle.txn_programs.specs.declared.ast.TaskId.{TaskId}
use Rattle.txn_programs.specs.declared.ast.VarId.{VarId}
use Rattle.txn_programs.specs.declared.ast.Fault.TheVariants.{User}
use Rattle.txn_programs.specs.declared.ast.Outcome.TheVariants.{Returned, Thrown, Retries}
use Rattle.attempt.specs.Asking.{Known}
use Rattle.world_law.specs.declared.events.Fate.{Fate}
use Rattle.world_law.specs.declared.events.Fate.TheVariants as fate
use Rattle.world_law.specs.declared.events.Loads.{Loads}
use Rattle.world_law.specs.declared.events.Loads.TheVariants as loads
use Rattle.world_law.specs.declared.events.Event.{Event}
use Rattle.world_law.specs.declared.events.Event.TheVariants.{Begin, First, Value, Second, Ask, Word, Drop, Again}
use Rattle.world_law.specs.declared.events.Seen.{Seen}
use Rattle.world_law.specs.declared.events.Seen.TheVariants as seen
use Rattle.world_law.specs.World.{Check, Started, World}

abbrev pub x : VarId
x = record { 0 = 0 }

abbrev pub y : VarId
y = record { 0 = 1 }

abbrev pub task : ℕ → TaskId
task n = record { 0 = n }

-- a call of a transaction, without arguments
abbrev pub call : ℕ → Call
call n = record { tx = record { 0 = n }; arguments = [] }

-- A torn pair. One task adds x and y, which are both 1; the other sets both to 2 after the first has read x.
abbrev pub pair : Listing
pair =
    record {
      names = (120 ∷ []) ∷ (121 ∷ []) ∷ [];
      tables = [];
      initial = pos 1 ∷ pos 1 ∷ [];
      always = [];
      transactions =
          record { name = 115 ∷ []; parameters = []; body = Skip; result = Add (Var x) (Var y) }
          ∷ record { name = 98 ∷ []; parameters = []; body = Seq (More (Set x (Int (pos 2))) (More (Set y (Int (pos 2))) End)); result = Int (pos 0) }
          ∷ [];
      runs = (call 0, 1) ∷ (call 1, 1) ∷ [];
    }

abbrev pub pair_opening : World
pair_opening = record { words = 0 ∷ 0 ∷ 1 ∷ 0 ∷ 1 ∷ []; history = (pos 1 ∷ pos 1 ∷ []) ∷ []; attempts = []; committer = None }

abbrev pub torn_events : List Event
torn_events =
    Begin (task 0) ∷ First (task 0) x ∷ Value (task 0) ∷ Second (task 0)
    ∷ Begin (task 1) ∷ Ask (task 1) ∷ Word ∷ Word ∷ Word ∷ Word ∷ Word ∷ Word ∷ Word
    ∷ First (task 0) y ∷ []

abbrev pub torn_answers : List Seen
torn_answers =
    seen.Needs x ∷ seen.Loaded ∷ seen.Loaded ∷ seen.Needs y
    ∷ seen.Ended (Returned (pos 0)) ∷ seen.Commits 1
    ∷ seen.Stored ∷ seen.Stored ∷ seen.Stored ∷ seen.Stored ∷ seen.Stored ∷ seen.Stored ∷ seen.Committed 1
    ∷ seen.Stale ∷ []

abbrev pub torn_end : World
torn_end = record {
  words = 1 ∷ 2 ∷ 2 ∷ 2 ∷ 2 ∷ [];
  history = (pos 1 ∷ pos 1 ∷ []) ∷ (pos 2 ∷ pos 2 ∷ []) ∷ [];
  attempts =
      record { task = task 0; rv = 0; log = (x, pos 1) ∷ []; loads = loads.Nothing; fate = fate.Stale; movable = true; check = None }
      ∷ record { task = task 1; rv = 0; log = []; loads = loads.Nothing; fate = fate.Committed 1; movable = false; check = None }
      ∷ [];
  committer = None;
}

-- A return to an old value. One task reads x, which is 1; then one sets it to 2, and a third back to 1.
abbrev pub back_and_forth : Listing
back_and_forth =
    record {
      names = (120 ∷ []) ∷ [];
      tables = [];
      initial = pos 1 ∷ [];
      always = [];
      transactions =
          record { name = 103 ∷ []; parameters = []; body = Skip; result = Var x }
          ∷ record { name = 116 ∷ []; parameters = []; body = Set x (Int (pos 2)); result = Int (pos 0) }
          ∷ record { name = 111 ∷ []; parameters = []; body = Set x (Int (pos 1)); result = Int (pos 0) }
          ∷ [];
      runs = (call 0, 1) ∷ (call 1, 1) ∷ (call 2, 1) ∷ [];
    }

abbrev pub back_opening : World
back_opening = record { words = 0 ∷ 0 ∷ 1 ∷ []; history = (pos 1 ∷ []) ∷ []; attempts = []; committer = None }

abbrev pub back_events : List Event
back_events =
    Begin (task 0) ∷ First (task 0) x ∷ Value (task 0) ∷ Second (task 0)
    ∷ Begin (task 1) ∷ Ask (task 1) ∷ Word ∷ Word ∷ Word ∷ Word
    ∷ Begin (task 2) ∷ Ask (task 2) ∷ Word ∷ Word ∷ Word ∷ Word
    ∷ Ask (task 0) ∷ Word ∷ []

abbrev pub back_answers : List Seen
back_answers =
    seen.Needs x ∷ seen.Loaded ∷ seen.Loaded ∷ seen.Ended (Returned (pos 1))
    ∷ seen.Ended (Returned (pos 0)) ∷ seen.Commits 1 ∷ seen.Stored ∷ seen.Stored ∷ seen.Stored ∷ seen.Committed 1
    ∷ seen.Ended (Returned (pos 0)) ∷ seen.Commits 2 ∷ seen.Stored ∷ seen.Stored ∷ seen.Stored ∷ seen.Committed 2
    ∷ seen.Commits 3 ∷ seen.Committed 3 ∷ []

abbrev pub back_end : World
back_end = record {
  words = 3 ∷ 4 ∷ 1 ∷ [];
  history = (pos 1 ∷ []) ∷ (pos 2 ∷ []) ∷ (pos 1 ∷ []) ∷ (pos 1 ∷ []) ∷ [];
  attempts =
      record { task = task 0; rv = 0; log = (x, pos 1) ∷ []; loads = loads.Nothing; fate = fate.Committed 3; movable = false; check = None }
      ∷ record { task = task 1; rv = 0; log = []; loads = loads.Nothing; fate = fate.Committed 1; movable = false; check = None }
      ∷ record { task = task 2; rv = 1; log = []; loads = loads.Nothing; fate = fate.Committed 2; movable = false; check = None }
      ∷ [];
  committer = None;
}

-- a state that is checked, and how many pairs were found to be so there
abbrev pub at : ℕ → ℕ → Check
at n checked = record { candidate = n; checked = checked }

abbrev pub attempt : ℕ → ℕ → Known → Loads → Fate → Bool → Option Check → Started
attempt a rv log ls f movable check = record { task = task a; rv = rv; log = log; loads = ls; fate = f; movable = movable; check = check }

-- One task adds x and y, which are both 1; the other sets y to 5.
abbrev pub half : Listing
half =
    record {
      names = (120 ∷ []) ∷ (121 ∷ []) ∷ [];
      tables = [];
      initial = pos 1 ∷ pos 1 ∷ [];
      always = [];
      transactions =
          record { name = 115 ∷ []; parameters = []; body = Skip; result = Add (Var x) (Var y) }
          ∷ record { name = 116 ∷ []; parameters = []; body = Set y (Int (pos 5)); result = Int (pos 0) }
          ∷ [];
      runs = (call 0, 1) ∷ (call 1, 1) ∷ [];
    }

-- A moment that moves. One task has read x; another sets y to 5; and the first, which then finds y stale, checks x, which is
-- as it was, and reads y in the later state.
abbrev pub moved_events : List Event
moved_events =
    Begin (task 0) ∷ First (task 0) x ∷ Value (task 0) ∷ Second (task 0) ∷ Begin (task 1)
    ∷ Ask (task 1) ∷ Word ∷ Word ∷ Word ∷ Word
    ∷ First (task 0) y ∷ Again (task 0) ∷ First (task 0) x ∷ Value (task 0) ∷ Second (task 0)
    ∷ First (task 0) y ∷ Value (task 0) ∷ Second (task 0) ∷ Ask (task 0) ∷ Word
    ∷ []

abbrev pub moved_answers : List Seen
moved_answers =
    seen.Needs x ∷ seen.Loaded ∷ seen.Loaded ∷ seen.Needs y ∷ seen.Ended (Returned (pos 0))
    ∷ seen.Commits 1 ∷ seen.Stored ∷ seen.Stored ∷ seen.Stored ∷ seen.Committed 1
    ∷ seen.Stale ∷ seen.Checks x ∷ seen.Loaded ∷ seen.Loaded ∷ seen.Needs y
    ∷ seen.Loaded ∷ seen.Loaded ∷ seen.Ended (Returned (pos 6)) ∷ seen.Commits 2 ∷ seen.Committed 2
    ∷ []

abbrev pub moved_end : World
moved_end = record {
  words = 2 ∷ 0 ∷ 1 ∷ 2 ∷ 5 ∷ [];
  history = (pos 1 ∷ pos 1 ∷ []) ∷ (pos 1 ∷ pos 5 ∷ []) ∷ (pos 1 ∷ pos 5 ∷ []) ∷ [];
  attempts =
      attempt 0 1 ((x, pos 1) ∷ (y, pos 5) ∷ []) loads.Nothing (fate.Committed 2) false None
      ∷ attempt 1 0 [] loads.Nothing (fate.Committed 1) false None
      ∷ [];
  committer = None;
}

-- What was read has changed: the torn pair, and then the check of x, which is another by now.
abbrev pub refused_events : List Event
refused_events =
    Begin (task 0) ∷ First (task 0) x ∷ Value (task 0) ∷ Second (task 0) ∷ Begin (task 1)
    ∷ Ask (task 1) ∷ Word ∷ Word ∷ Word ∷ Word
    ∷ Word ∷ Word ∷ Word ∷ First (task 0) y ∷ Again (task 0)
    ∷ First (task 0) x ∷ Value (task 0) ∷ Second (task 0)
    ∷ []

abbrev pub refused_answers : List Seen
refused_answers =
    seen.Needs x ∷ seen.Loaded ∷ seen.Loaded ∷ seen.Needs y ∷ seen.Ended (Returned (pos 0))
    ∷ seen.Commits 1 ∷ seen.Stored ∷ seen.Stored ∷ seen.Stored ∷ seen.Stored
    ∷ seen.Stored ∷ seen.Stored ∷ seen.Committed 1 ∷ seen.Stale ∷ seen.Checks x
    ∷ seen.Loaded ∷ seen.Loaded ∷ seen.Changed
    ∷ []

abbrev pub refused_end : World
refused_end = record {
  words = 1 ∷ 2 ∷ 2 ∷ 2 ∷ 2 ∷ [];
  history = (pos 1 ∷ pos 1 ∷ []) ∷ (pos 2 ∷ pos 2 ∷ []) ∷ [];
  attempts =
      attempt 0 0 ((x, pos 1) ∷ []) (loads.Value 2 2) fate.Stale false (Some (at 1 0))
      ∷ attempt 1 0 [] loads.Nothing (fate.Committed 1) false None
      ∷ [];
  committer = None;
}

-- Nothing was read: the attempt moves at once. Once it runs it is not possible again.
abbrev pub fresh_events : List Event
fresh_events =
    Begin (task 0) ∷ Begin (task 1) ∷ Ask (task 1) ∷ Word ∷ Word
    ∷ Word ∷ Word ∷ Word ∷ Word ∷ Word
    ∷ First (task 0) x ∷ Again (task 0) ∷ First (task 0) x ∷ Value (task 0) ∷ Second (task 0)
    ∷ First (task 0) y ∷ Value (task 0) ∷ Second (task 0) ∷ Again (task 0)
    ∷ []

abbrev pub fresh_answers : List Seen
fresh_answers =
    seen.Needs x ∷ seen.Ended (Returned (pos 0)) ∷ seen.Commits 1 ∷ seen.Stored ∷ seen.Stored
    ∷ seen.Stored ∷ seen.Stored ∷ seen.Stored ∷ seen.Stored ∷ seen.Committed 1
    ∷ seen.Stale ∷ seen.Needs x ∷ seen.Loaded ∷ seen.Loaded ∷ seen.Needs y
    ∷ seen.Loaded ∷ seen.Loaded ∷ seen.Ended (Returned (pos 4)) ∷ seen.Idle
    ∷ []

abbrev pub fresh_end : World
fresh_end = record {
  words = 1 ∷ 2 ∷ 2 ∷ 2 ∷ 2 ∷ [];
  history = (pos 1 ∷ pos 1 ∷ []) ∷ (pos 2 ∷ pos 2 ∷ []) ∷ [];
  attempts =
      attempt 0 1 ((x, pos 2) ∷ (y, pos 2) ∷ []) loads.Nothing fate.Running false None
      ∷ attempt 1 0 [] loads.Nothing (fate.Committed 1) false None
      ∷ [];
  committer = None;
}

-- One task waits until x, which is 1, is another; one sets it to 2 and throws 7; the last sets it to 2.
abbrev pub waiting : Listing
waiting =
    record {
      names = (120 ∷ []) ∷ [];
      tables = [];
      initial = pos 1 ∷ [];
      always = [];
      transactions =
          record { name = 119 ∷ []; parameters = []; body = If (Eq (Var x) (Int (pos 1))) Retry Skip; result = Var x }
          ∷ record { name = 116 ∷ []; parameters = []; body = Seq (More (Set x (Int (pos 2))) (More (Throw (Int (pos 7))) End)); result = Int (pos 0) }
          ∷ record { name = 115 ∷ []; parameters = []; body = Set x (Int (pos 2)); result = Int (pos 0) }
          ∷ [];
      runs = (call 0, 1) ∷ (call 1, 1) ∷ (call 2, 1) ∷ [];
    }

-- A throw commits: its state is the one before, since it drops what it wrote. Its task is done.
abbrev pub thrown_events : List Event
thrown_events = Begin (task 1) ∷ Ask (task 1) ∷ Word ∷ Begin (task 1) ∷ []

abbrev pub thrown_answers : List Seen
thrown_answers = seen.Ended (Thrown (User (pos 7))) ∷ seen.Commits 1 ∷ seen.Committed 1 ∷ seen.Idle ∷ []

abbrev pub thrown_end : World
thrown_end = record {
  words = 1 ∷ 0 ∷ 1 ∷ [];
  history = (pos 1 ∷ []) ∷ (pos 1 ∷ []) ∷ [];
  attempts = attempt 1 0 [] loads.Nothing (fate.Committed 1) false None ∷ [];
  committer = None;
}

-- A retry on the present values parks, and does not run again; its task begins anew, and retries too. While another commits
-- it can't ask; and once x is another it is stale, which no load found, so its task can only begin anew.
abbrev pub parked_events : List Event
parked_events =
    Begin (task 0) ∷ First (task 0) x ∷ Value (task 0) ∷ Second (task 0) ∷ Ask (task 0) ∷ Again (task 0)
    ∷ Begin (task 0) ∷ First (task 0) x ∷ Value (task 0) ∷ Second (task 0)
    ∷ Begin (task 2) ∷ Ask (task 2) ∷ Ask (task 0) ∷ Word ∷ Word ∷ Word ∷ Word
    ∷ Ask (task 0) ∷ Again (task 0) ∷ Begin (task 0) ∷ []

abbrev pub parked_answers : List Seen
parked_answers =
    seen.Needs x ∷ seen.Loaded ∷ seen.Loaded ∷ seen.Ended Retries ∷ seen.Parked ∷ seen.Idle
    ∷ seen.Needs x ∷ seen.Loaded ∷ seen.Loaded ∷ seen.Ended Retries
    ∷ seen.Ended (Returned (pos 0)) ∷ seen.Commits 1 ∷ seen.Idle ∷ seen.Stored ∷ seen.Stored ∷ seen.Stored ∷ seen.Committed 1
    ∷ seen.Stale ∷ seen.Idle ∷ seen.Needs x ∷ []

abbrev pub parked_end : World
parked_end = record {
  words = 1 ∷ 2 ∷ 2 ∷ [];
  history = (pos 1 ∷ []) ∷ (pos 2 ∷ []) ∷ [];
  attempts =
      attempt 0 0 ((x, pos 1) ∷ []) loads.Nothing fate.Parked false None
      ∷ attempt 0 0 ((x, pos 1) ∷ []) loads.Nothing fate.Stale false None
      ∷ attempt 2 0 [] loads.Nothing (fate.Committed 1) false None
      ∷ attempt 0 1 [] loads.Nothing fate.Running false None
      ∷ [];
  committer = None;
}

-- An attempt is dropped in a read: it reads no more, is not dropped twice, and does not run again. One that commits is not
-- dropped. The task of the first begins anew.
abbrev pub dropped_events : List Event
dropped_events =
    Begin (task 0) ∷ First (task 0) x ∷ Drop (task 0) ∷ Value (task 0) ∷ Drop (task 0) ∷ Again (task 0)
    ∷ Begin (task 2) ∷ Ask (task 2) ∷ Drop (task 2) ∷ Begin (task 0) ∷ []

abbrev pub dropped_answers : List Seen
dropped_answers =
    seen.Needs x ∷ seen.Loaded ∷ seen.Dropped ∷ seen.Idle ∷ seen.Idle ∷ seen.Idle
    ∷ seen.Ended (Returned (pos 0)) ∷ seen.Commits 1 ∷ seen.Idle ∷ seen.Needs x ∷ []

abbrev pub dropped_end : World
dropped_end = record {
  words = 0 ∷ 0 ∷ 1 ∷ [];
  history = (pos 1 ∷ []) ∷ [];
  attempts =
      attempt 0 0 [] (loads.Version 0) fate.Dropped false None
      ∷ attempt 2 0 [] loads.Nothing fate.Running false None
      ∷ attempt 0 0 [] loads.Nothing fate.Running false None
      ∷ [];
  committer = Some record { place = 1; number = 1; changes = (x, pos 2) ∷ []; stored = 0 };
}

-- A commit locks x between the loads of a read: the second load of the version finds it. The attempt, which had read nothing,
-- runs again, and its first load finds the lock.
abbrev pub locked_events : List Event
locked_events =
    Begin (task 0) ∷ First (task 0) x ∷ Begin (task 2) ∷ Ask (task 2) ∷ Word ∷ Value (task 0) ∷ Second (task 0)
    ∷ Again (task 0) ∷ First (task 0) x ∷ []

abbrev pub locked_answers : List Seen
locked_answers =
    seen.Needs x ∷ seen.Loaded ∷ seen.Ended (Returned (pos 0)) ∷ seen.Commits 1 ∷ seen.Stored ∷ seen.Loaded ∷ seen.Stale
    ∷ seen.Needs x ∷ seen.Stale ∷ []

abbrev pub locked_end : World
locked_end = record {
  words = 0 ∷ 1 ∷ 1 ∷ [];
  history = (pos 1 ∷ []) ∷ [];
  attempts =
      attempt 0 0 [] loads.Nothing fate.Stale true None
      ∷ attempt 2 0 [] loads.Nothing fate.Running false None
      ∷ [];
  committer = Some record { place = 1; number = 1; changes = (x, pos 2) ∷ []; stored = 1 };
}
