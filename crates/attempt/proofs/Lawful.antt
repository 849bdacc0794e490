-- An attempt stays lawful: where it waits, where it is over, and where it is told a variable.
use Rattle.std.proofs.Common.{◌≡◌, ◌≤◌, ◌+◌, ◌-◌, ◌∷◌, ◌++◌, ℕ, length, arith, ℤ, List, [], subst, sym, refl, length-append}
use Rattle.txn_programs.specs.Cost.{cost}
use Rattle.txn_programs.specs.declared.ast.VarId.{VarId}
use Rattle.txn_programs.specs.declared.ast.Outcome.{Outcome}
use Rattle.attempt.specs.declared.attempt.Attempt.TheInside.{Inside}
use Rattle.attempt.specs.declared.next.Stand.{Stand}
use Rattle.attempt.specs.declared.next.Stand.TheVariants as stand
use Rattle.txn_programs.specs.Listing.{call_program}
use Rattle.attempt_machine.specs.Asking.{Known, ask, Needs, Ends}
use Rattle.attempt.specs.AttemptInside.{viewed, IsKept, IsLawful, StandsAt, IsGoing, GoesOn}
use Rattle.attempt_machine.specs.Place.{place_of}
use Rattle.attempt.specs.Stops.{Stops}
use Rattle.attempt_machine.specs.declared.machine.Machine.{Machine}
use Rattle.attempt_machine.specs.declared.running.Count.{Count}
use Rattle.attempt_machine.proofs.Resume.{reached_more}
use Rattle.txn_programs.specs.Code.{program_code}
use Rattle.txn_programs.specs.Tree.{Program}
use Rattle.attempt.specs.View.{AttemptView, OnlyOfReturned, supplied}
use Rattle.attempt.proofs.Answered.{needs_missing, ends_well}
use Rattle.attempt_writes.proofs.Pairs.{AllKnown-append, Apart-append}
use Rattle.attempt_writes.specs.Order.{AllKnown, Apart}

pub waiting : (a : AttemptView) (x : VarId) (n total : ℕ) → IsLawful a → ask a.program a.log ≡ Needs x → n ≤ cost a.program → total ≤ cost a.program + length a.log →
    IsLawful (record { program = a.program; variables = a.variables; log = a.log; writes = []; stand = stand.Needs x; steps = n; total = total })
waiting a x n total kept e le few =
    let missing = needs_missing a.variables a.program a.log x kept.known e in
    record {
      small = kept.small;
      known = kept.known;
      logged = kept.logged;
      apart = kept.apart;
      written = tt;
      ascending = tt;
      only = refl;
      stands = (e, missing.0, missing.1);
      steps = le;
      total = few;
    }

pub over : (a : AttemptView) (o : Outcome) (w : Known) (n total : ℕ) → IsLawful a → ask a.program a.log ≡ Ends o w → n ≤ cost a.program → total ≤ cost a.program + length a.log →
    IsLawful (record { program = a.program; variables = a.variables; log = a.log; writes = w; stand = stand.Over o; steps = n; total = total })
over a o w n total kept e le few =
    let well = ends_well a.variables a.program a.log w o kept.known e in
    record {
      small = kept.small;
      known = kept.known;
      logged = kept.logged;
      apart = kept.apart;
      written = well.0.0;
      ascending = well.0.1;
      only = well.1;
      stands = e;
      steps = le;
      total = few;
    }

pub told_more : (a : AttemptView) (x : VarId) (v : ℤ) → IsLawful a → a.stand ≡ stand.Needs x → IsLawful (supplied a x v)
told_more a x v kept needs =
    let at = subst (StandsAt a) needs kept.stands in
    record {
      small = kept.small;
      known = kept.known;
      logged = AllKnown-append a.variables a.log x v at.1 kept.logged;
      apart = Apart-append a.log x v at.2 kept.apart;
      written = kept.written;
      ascending = kept.ascending;
      only = subst (λ s. OnlyOfReturned s a.writes) needs kept.only;
      stands = tt;
      steps = kept.steps;
      total = omega (arith, kept.total, length-append a.log ((x, v) ∷ []));
    }

pub spent : (a : AttemptView) (n total : ℕ) → IsLawful a → n ≤ cost a.program → total ≤ cost a.program + length a.log →
    IsLawful (record { program = a.program; variables = a.variables; log = a.log; writes = []; stand = stand.Spent; steps = n; total = total })
spent a n total kept le few =
    record {
      small = kept.small;
      known = kept.known;
      logged = kept.logged;
      apart = kept.apart;
      written = tt;
      ascending = tt;
      only = refl;
      stands = tt;
      steps = le;
      total = few;
    }

-- a machine that waits can go on with a longer log
pub supplied_goes : (t : Program) (log : Known) (m : Machine) (count : Count) (total : ℕ) (x : VarId) (v : ℤ) → IsGoing t log m count total 0 1 → IsGoing t (log ++ (x, v) ∷ []) m count total 1 1
supplied_goes t log m count total x v going =
    let longer = length-append log ((x, v) ∷ []) in
    record {
      reached = reached_more (program_code t) log ((x, v) ∷ []) (place_of m) count.entered going.reached;
      ahead = going.ahead;
      counted = omega (arith, going.counted, longer);
      waited = going.waited;
    }

-- where it is over the pairs are its writes, and where it waits the machine is as it was
abbrev pub Settles : Stand → Machine → Machine → Type 0
Settles stand.Fresh m after = Unit {0}
Settles (stand.Needs x) m after = after ≡ m
Settles (stand.Over o) m after = after.own.pairs ≡ m.own.writes
Settles stand.Spent m after = Unit {0}

-- a fresh attempt with a longer log
pub longer : (a : AttemptView) (log : Known) → IsLawful a → a.stand ≡ stand.Fresh → AllKnown a.variables log → Apart log → length a.log ≤ length log →
    IsLawful (record { program = a.program; variables = a.variables; log = log; writes = a.writes; stand = a.stand; steps = a.steps; total = a.total })
longer a log kept fresh known apart le =
    record {
      small = kept.small;
      known = kept.known;
      logged = known;
      apart = apart;
      written = kept.written;
      ascending = kept.ascending;
      only = kept.only;
      stands = subst (StandsAt (record { program = a.program; variables = a.variables; log = log; writes = a.writes; stand = a.stand; steps = a.steps; total = a.total })) (sym fresh) tt;
      steps = kept.steps;
      total = omega (arith, kept.total, le);
    }

-- an attempt whose machine went on with its arguments, and read what the log has more
pub went_on : (i : Inside) (given : List ℤ) (s : Stand) (m after : Machine) (count : Count) (log : Known) (n read : ℕ) → given ≡ i.arguments → IsKept i → i.stand ≡ stand.Fresh →
    n ≡ count.entered + count.ahead - i.count.entered - i.count.ahead + i.again → length i.log + read ≡ length log → AllKnown (length i.catalogue.now.initial) log → Apart log →
    Stops (call_program i.catalogue.now i.id given) log s (place_of m) count.entered count.ahead → count.entered + count.ahead ≤ cost (call_program i.catalogue.now i.id given) → i.count.entered + i.count.ahead ≤ count.entered + count.ahead → Settles s m after →
    IsKept (record { catalogue = i.catalogue; id = i.id; arguments = i.arguments; machine = after; count = count; log = log; stand = s; steps = n; total = i.total + (n + read); again = 0 })
went_on i given s m after count log n read own kept fresh same grown known apart stops few more settles =
    let with_its = λ (g : List ℤ). Stops (call_program i.catalogue.now i.id g) log s (place_of m) count.entered count.ahead × (count.entered + count.ahead ≤ cost (call_program i.catalogue.now i.id g)) in
    let both : with_its i.arguments = subst with_its own (stops, few) in
    let going = subst (GoesOn (call_program i.catalogue.now i.id i.arguments) i.log i.machine i.count i.total i.again) fresh kept.going in
    let lawful = longer (viewed i) log kept.lawful fresh known apart (omega (arith, grown)) in
    at lawful s both.0 settles (omega (arith, both.1, more, same, going.waited)) (omega (arith, more, same, grown, going.counted)) (omega (arith, both.1, more, same, grown, going.counted))
  where
    at : IsLawful (record { program = call_program i.catalogue.now i.id i.arguments; variables = length i.catalogue.now.initial; log = log; writes = (viewed i).writes; stand = i.stand; steps = i.steps; total = i.total }) →
        (s : Stand) → Stops (call_program i.catalogue.now i.id i.arguments) log s (place_of m) count.entered count.ahead → Settles s m after →
        n ≤ cost (call_program i.catalogue.now i.id i.arguments) → i.total + (n + read) ≡ count.entered + count.ahead + length log → i.total + (n + read) ≤ cost (call_program i.catalogue.now i.id i.arguments) + length log →
        IsKept (record { catalogue = i.catalogue; id = i.id; arguments = i.arguments; machine = after; count = count; log = log; stand = s; steps = n; total = i.total + (n + read); again = 0 })
    at lawful stand.Fresh h same_machine le counted few = absurd h
    at lawful (stand.Needs x) h same_machine le counted few =
        record {
          callable = kept.callable;
          lawful = waiting _ x _ _ lawful h.0 le few;
          going = subst (λ m. IsGoing (call_program i.catalogue.now i.id i.arguments) log m count (i.total + (n + read)) 0 1) (sym same_machine) (record { reached = h.1; ahead = omega (arith, h.2); counted = omega (arith, counted); waited = h.3 });
          once = omega arith;
        }
    at lawful (stand.Over o) h pairs le counted few =
        let ends = subst (λ w. ask (call_program i.catalogue.now i.id i.arguments) log ≡ Ends o w) (sym pairs) h in
        record { callable = kept.callable; lawful = over _ o after.own.pairs _ _ lawful ends le few; going = tt; once = omega arith }
    at lawful stand.Spent h settles le counted few = record { callable = kept.callable; lawful = spent _ _ _ lawful le few; going = tt; once = omega arith }
