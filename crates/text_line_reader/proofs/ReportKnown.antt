-- Tests of all lines, as they are seen.
use Rattle.std.proofs.Common.{◌≡◌, ◌∙◌, ℕ, zero, suc, ◌+◌, ◌<◌, Bool, true, false, not, ◌&&◌, List, [], ◌∷◌, length, get_or, drop, Some, refl, sym, ap, add-one}
use Rattle.std.specs.List.{list_all, slice_get}
use Rattle.std.specs.Str.{bytes_eq}
use Rattle.std.proofs.Math.Seq.{drop-cons}
use Rattle.std.proofs.lemmas.List.Folds.{list_all-map}
use Rattle.std.proofs.lemmas.Option.{same_Some}
use Rattle.txn_programs.specs.Listing.{Listing}
use Rattle.text_line_reader.specs.ReportRaw.{Entry, Task}
use Rattle.text_line_reader.specs.ReportResolving.{is_known, entries_known, tasks_known, variables_known, transactions_known, condition_known, conditions_known, names_known, named_as}
use Rattle.text_line_reader.specs.ReportView.{view_entry, view_entries, view_task, view_tasks, view_variables, view_raw}
use Rattle.text_line_reader.specs.declared.report.raw.RawEntry.{RawEntry}
use Rattle.text_line_reader.specs.declared.report.raw.RawTask.{RawTask}
use Rattle.text_line_reader.specs.declared.report.raw.RawReport.{RawReport}
use Rattle.text_line_reader.specs.declared.report.raw.RawVariable.{RawVariable}

pub entries_mapped : (l : Listing) (es : List RawEntry) → entries_known l (view_entries es) ≡ list_all (λ e. is_known l e.name.now) es
entries_mapped l es = list_all-map (λ (e : Entry). is_known l e.name) view_entry es

pub tasks_mapped : (l : Listing) (ts : List RawTask) → tasks_known l (view_tasks ts) ≡ list_all (λ t. is_known l t.name.now) ts
tasks_mapped l ts = list_all-map (λ (t : Task). is_known l t.name) view_task ts

pub conditions_mapped : (l : Listing) (es : List RawEntry) → conditions_known l (view_entries es) ≡ list_all (λ e. condition_known l (view_entry e).ending) es
conditions_mapped l es = list_all-map (λ (e : Entry). condition_known l e.ending) view_entry es

at_place : {X : Type 0} (xs : List X) (i : ℕ) (x : X) → slice_get xs i ≡ Some x → drop i xs ≡ x ∷ drop (suc i) xs
at_place [] i x e = absurd cc
at_place (y ∷ ys) zero x e = ap (λ z. z ∷ ys) (same_Some _ _ e)
at_place (y ∷ ys) (suc i) x e = at_place ys i x e

-- one line more
pub named_step : (names : List (List ℕ)) (vs : List RawVariable) (i : ℕ) (v : RawVariable) (name : List ℕ) → i < length vs → v ≡ get_or vs i v → slice_get names i ≡ Some name
    → named_as (drop i names) (view_variables (drop i vs)) ≡ (bytes_eq v.name.now name && named_as (drop (i + 1) names) (view_variables (drop (i + 1) vs)))
named_step names vs i v name lt is at =
    let here : drop i vs ≡ v ∷ drop (suc i) vs = drop-cons vs i v lt ∙ ap (λ (w : RawVariable). w ∷ drop (suc i) vs) (sym is) in
    rw (at_place names i name at, here, add-one) refl

-- the line at hand has another name
pub named_stop : (b r rest here total : Bool) → r ≡ not b → r ≡ true → here ≡ (b && rest) → here ≡ total → false ≡ total
named_stop true r rest here total differs is step so_far = absurd cc
named_stop false r rest here total differs is step so_far = sym step ∙ so_far

-- the line at hand has its name
pub named_more : (b r rest here total : Bool) → r ≡ not b → r ≡ false → here ≡ (b && rest) → here ≡ total → rest ≡ total
named_more true r rest here total differs is step so_far = sym step ∙ so_far
named_more false r rest here total differs is step so_far = absurd cc

-- all transactions' names, part by part
pub transactions_are : (l : Listing) (r : RawReport) (a b c : Bool)
    → a ≡ list_all (λ e. is_known l (view_entry e).name) r.entries.items → b ≡ list_all (λ t. is_known l (view_task t).name) r.parked.items → c ≡ list_all (λ t. is_known l (view_task t).name) r.memory.items
    → transactions_known l (view_raw r) ≡ (a && (b && c))
unfolding transactions_known
transactions_are l r a b c p q s = rw (entries_mapped l r.entries.items, tasks_mapped l r.parked.items, tasks_mapped l r.memory.items, p, q, s) refl

third : (a b c : Bool) → a ≡ true → b ≡ true → (a && (b && c)) ≡ c
third true true c p q = refl
third true false c p q = absurd cc
third false b c p q = absurd cc

-- where variables and transactions are known, all names are where the conditions are
pub names_are : (l : Listing) (r : RawReport) (es : List RawEntry) (c : Bool) → es ≡ r.entries.items → c ≡ list_all (λ e. condition_known l (view_entry e).ending) es
    → variables_known l (view_raw r) ≡ true → transactions_known l (view_raw r) ≡ true → c ≡ names_known l (view_raw r)
unfolding names_known
names_are l r es c same conditions v t =
    conditions ∙ ap (λ (xs : List RawEntry). list_all (λ e. condition_known l (view_entry e).ending) xs) same ∙ sym (conditions_mapped l r.entries.items)
    ∙ sym (third (variables_known l (view_raw r)) (transactions_known l (view_raw r)) (conditions_known l (view_entries r.entries.items)) v t)

pub all_three : (a b c total : Bool) → total ≡ (a && (b && c)) → a ≡ true → b ≡ true → c ≡ total
all_three true true c total e p q = sym e
all_three true false c total e p q = absurd cc
all_three false b c total e p q = absurd cc

pub not_second : (a b c total : Bool) → total ≡ (a && (b && c)) → a ≡ true → b ≡ false → false ≡ total
not_second true true c total e p q = absurd cc
not_second true false c total e p q = sym e
not_second false b c total e p q = absurd cc

pub not_first : (a b c total : Bool) → total ≡ (a && (b && c)) → a ≡ false → false ≡ total
not_first true b c total e p = absurd cc
not_first false b c total e p = sym e
