-- No transaction breaks a standing condition: each leads from a state that keeps them all to one that does.
use Rattle.std.proofs.Common.{◌≡◌, ℕ, ◌+◌, Bool, true, false, List, [], ◌∷◌, Result, Ok, Err, ℤ, refl, sym, subst}
use Rattle.std.specs.List.{list_all}
use Rattle.std.proofs.lemmas.Bool.{and_parts}
use Rattle.txn_programs.specs.declared.ast.Fault.{Fault}
use Rattle.txn_programs.specs.declared.report.Entry.{Entry}
use Rattle.txn_programs.specs.Tree.{Condition, Program}
use Rattle.txn_programs.specs.Meaning.{State, truth, value, run, Ending, Done, Threw, Retried, broken, demanded, upheld, upheld_result, final, kept_by, state_after, after}
use Rattle.txn_programs.specs.Listing.{Listing, conditions, program_as}
use Rattle.txn_programs.specs.Replay.{Snapshot, applied, Replays}
use Rattle.txn_programs.specs.Standing.{AllTrue, Upholds, is_true, upholds}

demanded_true : {A : Type 0} (untrue : Fault) (blame : Fault → Fault) (b : Result Bool Fault) (r : Result A Fault) (v : A) → demanded untrue blame b r ≡ Ok v → (b ≡ Ok true) × (r ≡ Ok v)
demanded_true untrue blame (Ok true) r v e = (refl, e)
demanded_true untrue blame (Ok false) r v e = absurd (cc)
demanded_true untrue blame (Err f) r v e = absurd (cc)

-- a value that is upheld is so in a state where each condition is true
pub upheld_true : (k : ℕ) (cs : List Condition) (m : State) (v w : ℤ) → upheld k cs m v ≡ Ok w → AllTrue cs m
upheld_true k [] m v w e = tt
upheld_true k (c ∷ cs) m v w e =
    let h = demanded_true (broken k) (λ _. broken k) (truth c m) (upheld (k + 1) cs m v) w e in
    (h.0, upheld_true (k + 1) cs m v w h.1)

final_true : (cs : List Condition) (m : State) (r : Result ℤ Fault) (w : ℤ) → upheld_result cs m r ≡ Ok w → AllTrue cs m
final_true cs m (Ok v) w e = upheld_true 0 cs m v w e
final_true cs m (Err f) w e = absurd (cc)

-- the state after a program keeps its conditions
pub after_upholds : (t : Program) (m : State) → AllTrue t.always m → AllTrue t.always (after t m)
after_upholds t m h = by (run t.body m)
  where
    kept : (m' : State) (r : Result ℤ Fault) → upheld_result t.always m' (value t.result m') ≡ r → AllTrue t.always (kept_by m m' r)
    kept m' (Ok v) e = final_true t.always m' (value t.result m') v e
    kept m' (Err f) e = h

    by : (e : Ending State Fault) → AllTrue t.always (state_after m e (final t))
    by (Done m') = kept m' (final t m') refl
    by (Threw f) = h
    by Retried = h

-- where a journal leads, the conditions stand if they did where it began
pub replays_uphold : (l : Listing) (base : Snapshot) (es : List Entry) (now : Snapshot) → Upholds l base.state → Replays l base es now → Upholds l now.state
unfolding applied
replays_uphold l base [] now h e = subst (λ (s : Snapshot). Upholds l s.state) (sym e) h
replays_uphold l base (e ∷ es) now h r = replays_uphold l (applied l e base) es now (after_upholds (program_as l e.task e.tx) base.state h) r.1

-- the test is exact
true_is : (b : Result Bool Fault) → is_true b ≡ true → b ≡ Ok true
true_is (Ok true) e = refl
true_is (Ok false) e = absurd (cc)
true_is (Err f) e = absurd (cc)

all_true : (cs : List Condition) (m : State) → list_all (λ c. is_true (truth c m)) cs ≡ true → AllTrue cs m
all_true [] m h = tt
all_true (c ∷ cs) m h = let p = and_parts (is_true (truth c m)) (list_all (λ c. is_true (truth c m)) cs) h in (true_is (truth c m) p.0, all_true cs m p.1)

pub upholds_true : (l : Listing) (m : State) → upholds l m ≡ true → Upholds l m
upholds_true l m h = all_true (conditions l) m h
