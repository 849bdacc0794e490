-- A listing that begins at other values, with other runs of one task each, keeps the rules.
use Rattle.std.proofs.Common.{◌≡◌, ℕ, Bool, true, ◌&&◌, List, length, map, sum_by, nat_le, ◌≤◌, arith, sym, ◌∙◌, ap}
use Rattle.std.specs.List.{list_all, All}
use Rattle.std.proofs.lemmas.Bool.{le-leb}
use Rattle.txn_programs.specs.declared.arguments.Call.{Call}
use Rattle.txn_programs.specs.Meaning.{State}
use Rattle.txn_programs.specs.Tree.{Transaction, under}
use Rattle.txn_programs.specs.Listing.{Listing, spans, conditions, table_names, always_names, IsCallable}
use Rattle.txn_programs.specs.Names.{is_name, are_formed, are_distinct, has_own_parameters, knows_standing, knows_transaction, is_well_formed, names_hold}
use Rattle.txn_programs.specs.Limits.{limits_hold, most_tasks, most_variables, most_conditions, most_transactions, is_short, names_fit, tables_fit, conditions_fit, program_fits}
use Rattle.txn_programs.proofs.Lawful.{names_parts, limits_parts}
use Rattle.txn.proofs.OneEach.{runs_sum, runs_small, runs_callable}
use Rattle.txn.specs.Values.{with_values, begun}

pub names_begun : (l : Listing) (state : State) (cs : List Call) → names_hold l ≡ true → All (λ (c : Call). IsCallable l c.tx c.arguments) cs → names_hold (begun l state cs) ≡ true
unfolding names_hold is_well_formed
names_begun l state cs h known =
    let old = (names_parts l h).runs in
    let new = runs_callable l cs known in
    ap (λ (r : Bool). (list_all is_name l.names && (list_all is_name (table_names l) && (list_all is_name (always_names l) && (list_all are_formed l.transactions
    && (list_all (knows_standing (length l.names) (spans l)) (conditions l) && (list_all (knows_transaction (length l.names) (spans l)) l.transactions && r))))))
    && (are_distinct l.names && (are_distinct (table_names l) && (are_distinct (always_names l) && (are_distinct (map (λ (t : Transaction). t.name) l.transactions) && list_all (has_own_parameters l.names) l.transactions))))) (new ∙ sym old)
    ∙ h

pub limits_begun : (l : Listing) (state : State) (cs : List Call) → limits_hold l ≡ true → length cs ≤ most_tasks → limits_hold (begun l state cs) ≡ true
unfolding limits_hold
limits_begun l state cs h few =
    let parts = limits_parts l h in
    let more = map (λ (c : Call). (c, 1)) cs in
    let sum = le-leb (sum_by (λ (run : Call × ℕ). run.1) more) most_tasks (omega (arith, few, runs_sum cs)) in
    let sum_was = le-leb (sum_by (λ (run : Call × ℕ). run.1) l.runs) most_tasks parts.tasks in
    ap (λ (r : Bool × Bool). nat_le (length l.names) most_variables && (list_all is_short l.names && (tables_fit l
    && (nat_le (length l.always) most_conditions && (list_all is_short (always_names l)
    && (conditions_fit (conditions l)
    && (nat_le (length l.transactions) most_transactions && (list_all names_fit l.transactions
    && (list_all (λ (t : Transaction). program_fits (under (conditions l) t)) l.transactions
    && (r.0 && r.1)))))))))) (ap (λ (b : Bool). (b, nat_le (sum_by (λ (run : Call × ℕ). run.1) more) most_tasks)) (runs_small cs ∙ sym parts.runs) ∙ ap (λ (b : Bool). (list_all (λ (run : Call × ℕ). nat_le run.1 most_tasks) l.runs, b)) (sum ∙ sym sum_was))
    ∙ h

-- with other runs in its place
pub begun_is : (l b : Listing) (state : State) (cs : List Call) (runs : List (Call × ℕ)) → b ≡ with_values l state → runs ≡ map (λ (c : Call). (c, 1)) cs → (let r : Listing = record b { runs = runs } in r) ≡ begun l state cs
begun_is l b state cs runs e f =
    ap (λ (x : Listing). let r : Listing = record x { runs = runs } in r) e
    ∙ ap (λ (rs : List (Call × ℕ)). let r : Listing = record l { initial = state; runs = rs } in r) f
