use Rattle.std.proofs.Common.{◌≡◌, ◌≢◌, ◌<◌, ◌≤◌, ℕ, Bool, true, List, Option, Some, None, length, length-append, replicate, map, arith, sym, ◌∙◌, ap}
use Rattle.std.specs.Prelude.{IfSome, IfNone, MatchOption}
use Rattle.std.specs.List.{slice_get}
use Rattle.book_storage.specs.Members.{HasNoneFrom, IsLowestFrom}
use Rattle.book.specs.Tasks.{Task, Running}
use Rattle.book.specs.Table.{TableView, waits_for, waits_low, low_bits, IsParked}
use Rattle.txn_programs.specs.declared.limits.TheConstants.{MAX_TASKS}
use Rattle.book.specs.TableInside.{places, table_of, tasks_of, IsSorted}
use Rattle.book.specs.declared.table.TaskTable.TheInside.{Inside}
use Rattle.book.proofs.Sets.{asleep_among, low_at, at_low}
use Rattle.book.proofs.table.TaskTable.next_among.Goals as goal

few_tasks : (b : Inside) (v : TableView) → table_of b ≡ v → IsSorted b → length v.tasks ≤ MAX_TASKS
few_tasks b v view k =
    omega (arith, ap (λ (w : TableView). length w.tasks) view, length-append (tasks_of b) (replicate b.spare Running), k.sets.few)

pub index-requires : goal.index-requires
index-requires c =
    let s = c.self.inside in
    omega (arith, c.requires, ap (λ (b : TableView). b.variables) c.self.view_is, c.self.invariant.sets.one_each, s.sleepers.ok.0)

found_parked : (o : Option ℕ) (set : List Bool) (x from : ℕ) (ts : List Task) (n : ℕ) → set ≡ map (waits_low (low_bits x)) (places ts n) → MatchOption o (HasNoneFrom set from) (IsLowestFrom set from) → IfSome o (λ k. IsParked (slice_get ts k))
found_parked None set x from ts n e h = tt
found_parked (Some k) set x from ts n e h = low_at (low_bits x) ts n k (ap (λ (s : List Bool). slice_get s k) (sym e) ∙ h.here)

found_behind : (o : Option ℕ) (set : List Bool) (from : ℕ) → MatchOption o (HasNoneFrom set from) (IsLowestFrom set from) → IfSome o (λ k. from ≤ k)
found_behind None set from h = tt
found_behind (Some k) set from h = h.behind

none_before : (o : Option ℕ) (set : List Bool) (x from : ℕ) (ts : List Task) (n : ℕ) → set ≡ map (waits_low (low_bits x)) (places ts n) → MatchOption o (HasNoneFrom set from) (IsLowestFrom set from) → IfSome o (λ k. (j : ℕ) → from ≤ j → j < k → slice_get (map (waits_for x) ts) j ≢ Some true)
none_before None set x from ts n e h = tt
none_before (Some k) set x from ts n e h = λ j behind less w. h.before j behind less (ap (λ (s : List Bool). slice_get s j) e ∙ at_low x ts n j w)

none_behind : (o : Option ℕ) (set : List Bool) (x from : ℕ) (ts : List Task) (n : ℕ) → set ≡ map (waits_low (low_bits x)) (places ts n) → MatchOption o (HasNoneFrom set from) (IsLowestFrom set from) → IfNone o ((j : ℕ) → from ≤ j → slice_get (map (waits_for x) ts) j ≢ Some true)
none_behind None set x from ts n e h = λ j behind w. h j behind (ap (λ (s : List Bool). slice_get s j) e ∙ at_low x ts n j w)
none_behind (Some k) set x from ts n e h = tt

pub returns : goal.returns
returns c =
    let v = c.args.self.now in
    let set = c.index.result.now in
    let x = c.args.variable in
    let o = c.first_from.result in
    let now : set ≡ map (waits_low (low_bits x)) (places v.tasks v.spare) = asleep_among c.self.inside v x set c.self.view_is c.self.invariant c.requires c.index.ensures in
    record {
      parked = found_parked o set x c.args.from v.tasks v.spare now c.first_from.ensures;
      behind = found_behind o set c.args.from c.first_from.ensures;
      before = none_before o set x c.args.from v.tasks v.spare now c.first_from.ensures;
      none = none_behind o set x c.args.from v.tasks v.spare now c.first_from.ensures;
      few = few_tasks c.self.inside v c.self.view_is c.self.invariant;
    }
