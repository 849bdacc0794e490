-- What a chapter lists keeps the rules of a catalogue.
use Rattle.std.proofs.Common.{◌≡◌, ℕ, ℤ, ◌+◌, ◌≤◌, Bool, true, false, List, [], ◌∷◌, ◌++◌, length, map, drop, Some, sym, ◌∙◌, ap, subst, arith, length-append, append_assoc}
use Rattle.std.proofs.lemmas.List.{drop_all, append-nil, map-append}
use Rattle.std.proofs.lemmas.List.Elements.{All-drop}
use Rattle.std.proofs.lemmas.Option.{slice_get_within, get_or_from_slice_get}
use Rattle.std.specs.List.{slice_get}
use Rattle.txn_programs.specs.declared.arguments.Call.{Call}
use Rattle.txn_programs.specs.declared.ast.TxId.{TxId}
use Rattle.txn_programs.specs.Meaning.{State}
use Rattle.txn_programs.specs.declared.ast.TaskId.{TaskId}
use Rattle.txn_programs.specs.Listing.{Listing, calls, tasks, task_tx, task_arguments, task_program, call_program, IsCallable}
use Rattle.txn_programs.proofs.Lawful.{task_calls}
use Rattle.txn_programs.specs.Names.{names_hold}
use Rattle.txn_programs.specs.Limits.{limits_hold, most_tasks}
use Rattle.txn.specs.Grown.{grown}
use Rattle.txn.proofs.Growing.{calls_grown, names_grown, limits_grown}
use Rattle.txn.proofs.Beginning.{names_begun, limits_begun}
use Rattle.txn.proofs.Standing.{names_stay, limits_stay}
use Rattle.book.specs.ChapterInside.{runs_of, one_each, initial_of, listing_of, chapter_view}
use Rattle.book.specs.Chapters.{ChapterView}
use Rattle.book.specs.declared.chapter.Chapter.TheInside.{Inside}
use Rattle.book.proofs.TaskCalls.{AreKnown, length-calls, drop_before}

abbrev pub listed : Bool → Listing → State → List Call → Listing
listed is_first l values cs = record l { initial = values; runs = runs_of is_first l cs }

pub calls_first : (l : Listing) (values : State) → calls (listed true l values (calls l)) ≡ calls l
calls_first l values =
    calls_grown (record l { initial = values }) (drop (length (tasks l)) (calls l))
    ∙ (ap (λ (cs : List Call). calls l ++ cs) (drop_all (length (tasks l)) (calls l) (omega (arith, length-calls l))) ∙ append-nil (calls l))

-- the rest of the first chapter's calls are those that were submitted
rest_length : (l : Listing) (values : State) (cs : List Call) → calls (listed true l values cs) ≡ cs → length (tasks l) + length (drop (length (tasks l)) cs) ≡ length cs
rest_length l values cs e =
    ap (λ n. n + length (drop (length (tasks l)) cs)) (sym (length-calls l))
    ∙ (sym (length-append (calls l) (drop (length (tasks l)) cs)) ∙ ap length (sym (calls_grown (record l { initial = values }) (drop (length (tasks l)) cs)) ∙ e))

pub names_listed : (is_first : Bool) (l : Listing) (values : State) (cs : List Call) → names_hold l ≡ true → AreKnown l cs → names_hold (listed is_first l values cs) ≡ true
names_listed true l values cs h known =
    let more = drop (length (tasks l)) cs in
    names_stay (grown l more) values ∙ names_grown l more h (All-drop (λ (c : Call). IsCallable l c.tx c.arguments) (length (tasks l)) cs known)
names_listed false l values cs h known = names_begun l values cs h known

pub limits_listed : (is_first : Bool) (l : Listing) (values : State) (cs : List Call) → limits_hold l ≡ true → calls (listed is_first l values cs) ≡ cs → length cs ≤ most_tasks → limits_hold (listed is_first l values cs) ≡ true
limits_listed true l values cs h e few =
    let more = drop (length (tasks l)) cs in
    limits_stay (grown l more) values ∙ limits_grown l more h (omega (arith, few, rest_length l values cs e))
limits_listed false l values cs h e few = limits_begun l values cs h few

-- a task more is a run more
one_more : (cs : List Call) (c : Call) → one_each (cs ++ c ∷ []) ≡ one_each cs ++ (c, 1) ∷ []
one_more cs c = map-append (λ (x : Call). (x, 1)) cs (c ∷ [])

pub listed_more : (is_first : Bool) (l : Listing) (values : State) (cs : List Call) (c : Call) → calls (listed is_first l values cs) ≡ cs → listed is_first l values (cs ++ c ∷ []) ≡ grown (listed is_first l values cs) (c ∷ [])
listed_more true l values cs c e =
    let n = length (tasks l) in
    let rest = drop n cs in
    let low : n ≤ length cs = omega (arith, rest_length l values cs e) in
    ap (λ (more : List Call). let r : Listing = record l { initial = values; runs = l.runs ++ one_each more } in r) (drop_before n cs (c ∷ []) low)
    ∙ (ap (λ (runs : List (Call × ℕ)). let r : Listing = record l { initial = values; runs = l.runs ++ runs } in r) (one_more rest c)
    ∙ ap (λ (runs : List (Call × ℕ)). let r : Listing = record l { initial = values; runs = runs } in r) (sym (append_assoc l.runs (one_each rest) ((c, 1) ∷ []))))
listed_more false l values cs c e = ap (λ (runs : List (Call × ℕ)). let r : Listing = record l { initial = values; runs = runs } in r) (one_more cs c)

-- there is a task of a chapter for each call
pub length_in : (c : Inside) → calls (listing_of c) ≡ c.calls.calls → length (tasks (listing_of c)) ≡ length c.calls.calls
length_in c h = sym (length-calls (listing_of c)) ∙ ap length h

-- the tasks of the catalogue that was opened are the first chapter's, and it has no fewer
pub opened_within : (c : Inside) → c.is_first ≡ true → calls (listing_of c) ≡ c.calls.calls → length (tasks c.opened.now) ≤ length c.calls.calls
opened_within c first h =
    let l = c.opened.now in
    let cs = c.calls.calls in
    let e : calls (listed true l (initial_of c) cs) ≡ cs = subst (λ (b : Bool). calls (listed b l (initial_of c) cs) ≡ cs) first h in
    omega (arith, rest_length l (initial_of c) cs e)

-- the runs of the first chapter, and of a later one
pub first_runs : (c : Inside) → c.is_first ≡ true → (listing_of c).runs ≡ c.opened.now.runs ++ one_each (drop (length (tasks c.opened.now)) c.calls.calls)
first_runs c first = ap (λ (b : Bool). runs_of b c.opened.now c.calls.calls) first

pub later_runs : (c : Inside) → c.is_first ≡ false → (listing_of c).runs ≡ one_each c.calls.calls
later_runs c later = ap (λ (b : Bool). runs_of b c.opened.now c.calls.calls) later

-- what is read of the calls is the task's
pub tx_own : (c : Inside) (v : ChapterView) (k : ℕ) (tx : TxId) → chapter_view c ≡ v → calls (listing_of c) ≡ c.calls.calls → slice_get (map (λ (x : Call). x.tx) c.calls.calls) k ≡ Some tx → slice_get (tasks v.listing) k ≡ Some tx
tx_own c v k tx view all read =
    ap (λ (x : ChapterView). slice_get (tasks x.listing) k) (sym view) ∙ (ap (λ (cs : List Call). slice_get (map (λ (x : Call). x.tx) cs) k) all ∙ read)

pub given_own : (c : Inside) (v : ChapterView) (k : ℕ) (given : List ℤ) → chapter_view c ≡ v → calls (listing_of c) ≡ c.calls.calls → slice_get (map (λ (x : Call). x.arguments) c.calls.calls) k ≡ Some given → slice_get (map (λ (x : Call). x.arguments) (calls v.listing)) k ≡ Some given
given_own c v k given view all read =
    ap (λ (x : ChapterView). slice_get (map (λ (y : Call). y.arguments) (calls x.listing)) k) (sym view) ∙ (ap (λ (cs : List Call). slice_get (map (λ (x : Call). x.arguments) cs) k) all ∙ read)

-- each task of a chapter makes a call of its listing
pub known_own : (c : Inside) (v : ChapterView) (t : TaskId) (tx : TxId) → chapter_view c ≡ v → calls (listing_of c) ≡ c.calls.calls → AreKnown c.opened.now c.calls.calls → slice_get (tasks v.listing) t.0 ≡ Some tx → IsCallable v.listing tx (task_arguments v.listing t)
known_own c v t tx view all known own =
    let l = v.listing in
    let here : AreKnown (listing_of c) c.calls.calls = λ k d low. let h = known k d low in record { declared = h.declared; each = h.each } in
    let there : AreKnown l (calls l) =
    subst (λ (x : ChapterView). AreKnown x.listing (calls x.listing)) view (subst (AreKnown (listing_of c)) (sym all) here) in
    let call : Call = record { tx = tx; arguments = task_arguments l t } in
    let at : slice_get (calls l) t.0 ≡ Some call = task_calls l t tx own in
    subst (λ (x : Call). IsCallable l x.tx x.arguments) (get_or_from_slice_get (calls l) t.0 call call at) (there t.0 call (slice_get_within (calls l) t.0 call at))

-- what a task calls is its program, by the catalogue that was opened
pub program_own : (c : Inside) (v : ChapterView) (t : TaskId) (tx : TxId) (given : List ℤ) → chapter_view c ≡ v → calls (listing_of c) ≡ c.calls.calls → slice_get (map (λ (x : Call). x.tx) c.calls.calls) t.0 ≡ Some tx → slice_get (map (λ (x : Call). x.arguments) c.calls.calls) t.0 ≡ Some given → call_program c.opened.now tx given ≡ task_program v.listing t
program_own c v t tx given view all read read_given =
    let l = v.listing in
    let own : task_tx l t ≡ tx = get_or_from_slice_get (tasks l) t.0 tx (record { 0 = 0 }) (tx_own c v t.0 tx view all read) in
    let own_given : task_arguments l t ≡ given = get_or_from_slice_get (map (λ (x : Call). x.arguments) (calls l)) t.0 given [] (given_own c v t.0 given view all read_given) in
    ap (λ (x : ChapterView). call_program x.listing tx given) view
    ∙ (ap (λ (x : TxId). call_program l x given) (sym own) ∙ ap (λ (xs : List ℤ). call_program l (task_tx l t) xs) (sym own_given))
