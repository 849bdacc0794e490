-- What the fields of an attempt mean, and what they keep.
use Rattle.std.specs.Prelude.{◌≡◌, ℕ, ◌+◌, ◌<◌, ◌≤◌, [], length, None}
use Rattle.txn_programs.specs.Code.{program_code}
use Rattle.txn_programs.specs.Cost.{cost}
use Rattle.txn_programs.specs.Listing.{call_program, IsCallable}
use Rattle.txn_programs.specs.Scope.{ProgramKnown}
use Rattle.txn_programs.specs.Tree.{Program}
use Rattle.txn_programs.specs.declared.limits.TheConstants.{MAX_COST}
use Rattle.attempt.specs.declared.attempt.Attempt.TheInside.{Inside}
use Rattle.attempt_machine.specs.declared.machine.Machine.{Machine}
use Rattle.attempt.specs.declared.next.Stand.{Stand}
use Rattle.attempt.specs.declared.next.Stand.TheVariants as stand
use Rattle.attempt_machine.specs.declared.running.Count.{Count}
use Rattle.attempt_machine.specs.Asking.{Known, ask, known_at, Needs, Ends}
use Rattle.attempt_machine.specs.Correct.{IsReached}
use Rattle.attempt_machine.specs.Machine.{entered_at}
use Rattle.attempt_writes.specs.Order.{AllKnown, Apart, Ascending}
use Rattle.attempt_machine.specs.Place.{place_of}
use Rattle.attempt.specs.View.{AttemptView, OnlyOfReturned}

-- own writes remain where the program ended
abbrev pub remaining : Stand → Known → Known
remaining stand.Fresh w = []
remaining (stand.Needs x) w = []
remaining (stand.Over o) w = w
remaining stand.Spent w = []

abbrev pub viewed : Inside → AttemptView
viewed a =
    record {
      program = call_program a.catalogue.now a.id a.arguments;
      variables = length a.catalogue.now.initial;
      log = a.log;
      writes = remaining a.stand a.machine.own.pairs;
      stand = a.stand;
      steps = a.steps;
      total = a.total;
    }

-- where it waits or is over, this is what the program answers over the log
abbrev pub StandsAt : AttemptView → Stand → Type 0
StandsAt a stand.Fresh = Unit {0}
StandsAt a (stand.Needs x) = (ask a.program a.log ≡ Needs x) × (x.0 < a.variables) × (known_at a.log x ≡ None)
StandsAt a (stand.Over o) = ask a.program a.log ≡ Ends o a.writes
StandsAt a stand.Spent = Unit {0}

pub record IsLawful (a : AttemptView) : Type 0 where
  pub small : cost a.program ≤ MAX_COST
  pub known : ProgramKnown a.variables a.program
  pub logged : AllKnown a.variables a.log
  pub apart : Apart a.log
  pub written : AllKnown a.variables a.writes
  pub ascending : Ascending a.writes
  pub only : OnlyOfReturned a.stand a.writes
  pub stands : StandsAt a a.stand
  pub steps : a.steps ≤ cost a.program
  pub total : a.total ≤ cost a.program + length a.log

-- a machine that can go on: the nodes counted, and those that it enters again, are those up to the instruction that it is at, and one for each logged variable, whose load was done again
pub record IsGoing (t : Program) (log : Known) (m : Machine) (count : Count) (total again waits : ℕ) : Type 0 where
  pub reached : IsReached (program_code t) log (place_of m) count.entered
  pub ahead : count.ahead ≤ entered_at (program_code t) (place_of m)
  pub counted : total + again ≡ count.entered + count.ahead + length log
  pub waited : waits ≤ count.ahead

-- where it is fresh or waits its machine can go on
abbrev pub GoesOn : Program → Known → Machine → Count → ℕ → ℕ → Stand → Type 0
GoesOn t log m count total again stand.Fresh = IsGoing t log m count total again again
GoesOn t log m count total again (stand.Needs x) = IsGoing t log m count total 0 1
GoesOn t log m count total again (stand.Over o) = Unit {0}
GoesOn t log m count total again stand.Spent = Unit {0}

pub record IsKept (a : Inside) : Type 0 where
  pub callable : IsCallable a.catalogue.now a.id a.arguments
  pub lawful : IsLawful (viewed a)
  pub going : GoesOn (call_program a.catalogue.now a.id a.arguments) a.log a.machine a.count a.total a.again a.stand
  -- the load that waited is one instruction
  pub once : a.again ≤ 1
