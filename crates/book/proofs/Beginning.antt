-- What a book keeps as a chapter begins.
use Rattle.std.proofs.Common.{◌≡◌, ℕ, zero, suc, ◌+◌, ◌-◌, ◌<◌, ◌≤◌, Bool, true, false, cond, List, [], ◌∷◌, length, map, Some, get_or, replicate, refl, sym, ◌∙◌, ap, subst, arith}
use Rattle.std.specs.List.{slice_get, All}
use Rattle.std.proofs.lemmas.Bool.{cond_both}
use Rattle.std.proofs.lemmas.List.{length-map, length-replicate}
use Rattle.std.proofs.lemmas.List.Elements.{All-nil, All-replicate}
use Rattle.std.proofs.lemmas.Option.{same_Some, slice_get_within, slice_get-get_or, get_or_from_slice_get}
use Rattle.txn_programs.specs.declared.ast.TxId.{TxId}
use Rattle.txn_programs.specs.declared.arguments.Call.{Call}
use Rattle.txn_programs.specs.declared.report.Entry.{Entry}
use Rattle.txn_programs.specs.Meaning.{State, outcome}
use Rattle.txn_programs.specs.Tree.{Program}
use Rattle.txn_programs.specs.Scope.{ProgramKnown}
use Rattle.txn_programs.specs.Listing.{Listing, calls, tasks, task_tx, task_arguments, task_program, call_program}
use Rattle.txn.specs.Values.{begun}
use Rattle.txn_words.specs.Words.{last_state}
use Rattle.attempt.specs.Asking.{Known, ask}
use Rattle.attempt.specs.Order.{AllKnown}
use Rattle.book.specs.Tasks.{Task}
use Rattle.book.specs.Tasks.{Ready, Running, Parked, Done, GivenUp}
use Rattle.book.specs.View.{BookView}
use Rattle.book.specs.Turns.{readied_one}
use Rattle.book.specs.LawfulBook.{LawfulBook, BookFits, AreParked, open_one, open_count}
use Rattle.book.specs.BookInside.{with_values}
use Rattle.book.specs.Standings.{unlogged}
use Rattle.book.specs.Carrying.{stays, carried, staying}
use Rattle.book.specs.Chapters.{chapter_of, next_catalogue}
use Rattle.book.proofs.Staying.{staying_length}
use Rattle.book.proofs.Lists.{map_get}
use Rattle.book.proofs.TaskCalls.{calls_begun, length-calls, txs_in, given_in}

-- a task of the new chapter is one that came over, and what stands beside it came over with it
pub record CameOver {X : Type 0} (xs : List X) (ts : List Task) (j : ℕ) (now : Task) : Type 0 where
  pub place : ℕ
  pub was : Task
  pub stood : slice_get ts place ≡ Some was
  pub stays_so : stays was ≡ true
  pub now_is : now ≡ readied_one was
  pub beside : slice_get (staying xs ts) j ≡ slice_get xs place

later : {X : Type 0} (x : X) (xs : List X) (t : Task) (ts : List Task) (j k : ℕ) (now : Task) (b : Bool) → stays t ≡ b → (h : CameOver xs ts j now) → slice_get (cond b (x ∷ staying xs ts) (staying xs ts)) k ≡ slice_get (staying xs ts) j → CameOver (x ∷ xs) (t ∷ ts) k now
later x xs t ts j k now b e h same =
    record {
      place = suc h.place;
      was = h.was;
      stood = h.stood;
      stays_so = h.stays_so;
      now_is = h.now_is;
      beside = ap (λ (c : Bool). slice_get (cond c (x ∷ staying xs ts) (staying xs ts)) k) e ∙ (same ∙ h.beside);
    }

first : {X : Type 0} (x : X) (xs : List X) (t : Task) (ts : List Task) (now : Task) → stays t ≡ true → readied_one t ≡ now → CameOver (x ∷ xs) (t ∷ ts) 0 now
first x xs t ts now e is =
    record {
      place = 0;
      was = t;
      stood = refl;
      stays_so = e;
      now_is = sym is;
      beside = ap (λ (c : Bool). slice_get (cond c (x ∷ staying xs ts) (staying xs ts)) 0) e;
    }

pub came_over : {X : Type 0} (xs : List X) (ts : List Task) (j : ℕ) (now : Task) → length xs ≡ length ts → slice_get (carried ts) j ≡ Some now → CameOver xs ts j now
came_over xs [] j now size e = absurd (cc)
came_over [] (t ∷ ts) j now size e = absurd (omega (arith, size))
came_over (x ∷ xs) (t ∷ ts) zero now size e =
    by_case x xs t ts now (stays t) refl (λ f. came_over xs ts zero now (omega (arith, size)) f) e where
      by_case : {X : Type 0} (x : X) (xs : List X) (t : Task) (ts : List Task) (now : Task) (b : Bool) → stays t ≡ b → (slice_get (carried ts) 0 ≡ Some now → CameOver xs ts 0 now) → slice_get (cond b (readied_one t ∷ carried ts) (carried ts)) 0 ≡ Some now → CameOver (x ∷ xs) (t ∷ ts) 0 now
      by_case x xs t ts now true s rest f = first x xs t ts now s (same_Some (readied_one t) now f)
      by_case x xs t ts now false s rest f = later x xs t ts 0 0 now false s (rest f) refl
came_over (x ∷ xs) (t ∷ ts) (suc j) now size e =
    by_case x xs t ts j now (stays t) refl (λ k f. came_over xs ts k now (omega (arith, size)) f) e where
      by_case : {X : Type 0} (x : X) (xs : List X) (t : Task) (ts : List Task) (j : ℕ) (now : Task) (b : Bool) → stays t ≡ b → ((k : ℕ) → slice_get (carried ts) k ≡ Some now → CameOver xs ts k now) → slice_get (cond b (readied_one t ∷ carried ts) (carried ts)) (suc j) ≡ Some now → CameOver (x ∷ xs) (t ∷ ts) (suc j) now
      by_case x xs t ts j now true s rest f = later x xs t ts j (suc j) now true s (rest j f) refl
      by_case x xs t ts j now false s rest f = later x xs t ts (suc j) (suc j) now false s (rest (suc j) f) refl

readied_parked : (t : Task) (log : Known) → Parked log ≡ readied_one t → t ≡ Parked log
readied_parked Ready log e = absurd (cc)
readied_parked Running log e = absurd (cc)
readied_parked (Parked l) log e = sym e
readied_parked (Done n) log e = absurd (cc)
readied_parked GivenUp log e = absurd (cc)

readied_done : (t : Task) (n : ℕ) → stays t ≡ true → Done n ≡ readied_one t → ⊥
readied_done Ready n s e = cc
readied_done Running n s e = cc
readied_done (Parked l) n s e = cc
readied_done (Done m) n s e = cc
readied_done GivenUp n s e = cc

-- each task that came over makes the call that it made
begun_tx : (l : Listing) (values : State) (ts : List Task) (j place : ℕ) (c : Call) → slice_get (staying (calls l) ts) j ≡ Some c → slice_get (calls l) place ≡ Some c → task_tx (begun l values (staying (calls l) ts)) (record { 0 = j }) ≡ task_tx l (record { 0 = place })
begun_tx l values ts j place c now at =
    ap (λ (cs : List Call). get_or (txs_in cs) j (record { 0 = 0 })) (calls_begun l values (staying (calls l) ts))
    ∙ (get_or_from_slice_get (txs_in (staying (calls l) ts)) j c.tx (record { 0 = 0 }) (map_get (λ (x : Call). x.tx) (staying (calls l) ts) j c now)
    ∙ sym (get_or_from_slice_get (tasks l) place c.tx (record { 0 = 0 }) (map_get (λ (x : Call). x.tx) (calls l) place c at)))

begun_arguments : (l : Listing) (values : State) (ts : List Task) (j place : ℕ) (c : Call) → slice_get (staying (calls l) ts) j ≡ Some c → slice_get (calls l) place ≡ Some c → task_arguments (begun l values (staying (calls l) ts)) (record { 0 = j }) ≡ task_arguments l (record { 0 = place })
begun_arguments l values ts j place c now at =
    ap (λ (cs : List Call). get_or (given_in cs) j []) (calls_begun l values (staying (calls l) ts))
    ∙ (get_or_from_slice_get (given_in (staying (calls l) ts)) j c.arguments [] (map_get (λ (x : Call). x.arguments) (staying (calls l) ts) j c now)
    ∙ sym (get_or_from_slice_get (given_in (calls l)) place c.arguments [] (map_get (λ (x : Call). x.arguments) (calls l) place c at)))

-- the last state that was published stands there
last_stands : (states : List State) (n : ℕ) (m : State) → length states ≡ n + 1 → last_state states ≡ m → slice_get states n ≡ Some m
last_stands states n m size last =
    let place : n ≡ length states - 1 = omega (arith, size) in
    slice_get-get_or states n [] (omega (arith, size)) ∙ ap Some (ap (λ (k : ℕ). get_or states k []) place ∙ last)

module _ (b : BookView) (h : LawfulBook b) (f : BookFits b) where
  abbrev new : Listing
  new = next_catalogue b

  own_program : (j : ℕ) (now : Task) (c : CameOver (calls b.catalogue) b.tasks j now) → task_program new (record { 0 = j }) ≡ task_program b.catalogue (record { 0 = c.place })
  own_program j now c =
      let l = b.catalogue in
      let none : Call = record { tx = record { 0 = 0 }; arguments = [] } in
      let low : c.place < length (calls l) = omega (arith, slice_get_within b.tasks c.place c.was c.stood, f.tasks, length-calls l) in
      let at : slice_get (calls l) c.place ≡ Some (get_or (calls l) c.place none) = slice_get-get_or (calls l) c.place none low in
      let over = c.beside ∙ at in
      ap (λ (x : TxId). call_program l x (task_arguments new (record { 0 = j }))) (begun_tx l b.present.state b.tasks j c.place (get_or (calls l) c.place none) over at)
      ∙ ap (call_program l (task_tx l (record { 0 = c.place }))) (begun_arguments l b.present.state b.tasks j c.place (get_or (calls l) c.place none) over at)

  over : (j : ℕ) (now : Task) → slice_get (carried b.tasks) j ≡ Some now → CameOver (calls b.catalogue) b.tasks j now
  over j now e = came_over (calls b.catalogue) b.tasks j now (length-calls b.catalogue ∙ sym f.tasks) e

  pub chapter_parked : AreParked new b.present.state (carried b.tasks)
  chapter_parked j log e =
      let c = over j (Parked log) e in
      let was : slice_get b.tasks c.place ≡ Some (Parked log) = c.stood ∙ ap Some (readied_parked c.was log c.now_is) in
      let w = h.parked c.place log was in
      let p = own_program j (Parked log) c in
      record {
        retries = ap (λ (x : Program). outcome x b.present.state) p ∙ w.retries;
        agrees = w.agrees;
        asks = ap (λ (x : Program). ask x log) p ∙ w.asks;
        known = subst (λ (n : ℕ). AllKnown n log) (sym f.values) w.known;
        apart = w.apart;
      }

  pub chapter_lawful : LawfulBook (chapter_of b)
  chapter_lawful =
      record {
        past = [];
        reached = refl;
        replays = refl;
        done = record {
          of_entry = λ k t e. absurd (cc);
          of_task = λ t n e. let c = over t (Done n) e in absurd (readied_done c.was n c.stays_so c.now_is);
        };
        parked = chapter_parked;
        own = h.own;
        last = h.last;
        numbered = omega (arith, h.numbered);
        begun = last_stands b.history (b.before + b.present.number) b.present.state h.numbered h.last;
        upheld = (h.upheld.1, h.upheld.1, h.upheld.2);
      }

-- what came over can still commit
open_readied : (t : Task) → stays t ≡ true → open_one (readied_one t) ≡ 1
open_readied Ready e = refl
open_readied Running e = refl
open_readied (Parked log) e = refl
open_readied (Done n) e = absurd (cc)
open_readied GivenUp e = absurd (cc)

pub open_carried : (ts : List Task) → open_count (carried ts) ≡ length (carried ts)
open_carried [] = refl
open_carried (t ∷ ts) =
    let rest = open_carried ts in
    cond_both (stays t) (readied_one t ∷ carried ts) (carried ts) (λ (us : List Task). open_count us ≡ length us) (λ e. omega (arith, rest, open_readied t e)) (λ e. rest)

open_stays : (t : Task) → stays t ≡ true → open_one t ≡ 1
open_stays Ready e = refl
open_stays Running e = refl
open_stays (Parked log) e = refl
open_stays (Done n) e = absurd (cc)
open_stays GivenUp e = absurd (cc)

-- and it could before
pub carried_open : (ts : List Task) → length (carried ts) ≤ open_count ts
carried_open [] = omega arith
carried_open (t ∷ ts) =
    let rest = carried_open ts in
    cond_both (stays t) (readied_one t ∷ carried ts) (carried ts) (λ (us : List Task). length us ≤ open_one t + open_count ts) (λ e. omega (arith, rest, open_stays t e)) (λ e. omega (arith, rest))

open_below : (ts : List Task) → open_count ts ≤ length ts
open_below [] = omega arith
open_below (t ∷ ts) = omega (arith, open_below ts, one t) where
  one : (t : Task) → open_one t ≤ 1
  one Ready = omega arith
  one Running = omega arith
  one (Parked log) = omega arith
  one (Done n) = omega arith
  one GivenUp = omega arith

pub carried_shorter : (ts : List Task) → length (carried ts) ≤ length ts
carried_shorter ts = omega (arith, carried_open ts, open_below ts)

pub chapter_fits : (b : BookView) → LawfulBook b → BookFits b → BookFits (chapter_of b)
chapter_fits b h f =
    let zeros : length (replicate (length b.present.state) 0) ≡ length b.present.state = length-replicate {A = ℕ} (length b.present.state) 0 in
    let none : All (λ (v : ℕ). v ≤ 0) (replicate (length b.present.state) 0) = All-replicate (λ (v : ℕ). v ≤ 0) (length b.present.state) 0 (omega arith) in
    record {
      tasks = sym (staying_length (calls b.catalogue) b.tasks (length-calls b.catalogue ∙ sym f.tasks))
          ∙ (sym (ap length (calls_begun b.catalogue b.present.state (staying (calls b.catalogue) b.tasks))) ∙ length-calls (next_catalogue b));
      few = omega (arith, f.few, carried_shorter b.tasks);
      few_values = omega (arith, f.few_values, f.values);
      values = refl;
      versions = zeros;
      base_values = refl;
      base_versions = zeros;
      recent = none;
      base_recent = none;
      known = All-nil (λ (e : Entry). e.tx.0 < length b.catalogue.transactions);
      programs = λ t less.
          let c = over b h f t (get_or (carried b.tasks) t Ready) (slice_get-get_or (carried b.tasks) t Ready less) in
          subst (ProgramKnown (length b.present.state)) (sym (own_program b h f t (get_or (carried b.tasks) t Ready) c))
          (subst (λ (n : ℕ). ProgramKnown n (task_program b.catalogue (record { 0 = c.place }))) (sym f.values) (f.programs c.place (slice_get_within b.tasks c.place c.was c.stood)));
      counted = omega (arith, open_carried b.tasks);
    }

-- the present values stand in the logs that came over
stays_valued : (m : State) (t : Task) → stays (with_values m t) ≡ stays t
stays_valued m Ready = refl
stays_valued m Running = refl
stays_valued m (Parked log) = refl
stays_valued m (Done n) = refl
stays_valued m GivenUp = refl

readied_valued : (m : State) (t : Task) → readied_one (with_values m t) ≡ with_values m (readied_one t)
readied_valued m Ready = refl
readied_valued m Running = refl
readied_valued m (Parked log) = refl
readied_valued m (Done n) = refl
readied_valued m GivenUp = refl

pub carried_valued : (m : State) (ts : List Task) → map (with_values m) (carried ts) ≡ carried (map (with_values m) ts)
carried_valued m [] = refl
carried_valued m (t ∷ ts) =
    let rest = carried_valued m ts in
    cond_both (stays t) (readied_one t ∷ carried ts) (carried ts) (λ (us : List Task). map (with_values m) us ≡ cond (stays (with_values m t)) (readied_one (with_values m t) ∷ carried (map (with_values m) ts)) (carried (map (with_values m) ts)))
    (λ e. ap (λ (us : List Task). with_values m (readied_one t) ∷ us) rest
    ∙ (ap (λ (u : Task). u ∷ carried (map (with_values m) ts)) (sym (readied_valued m t))
    ∙ ap (λ (c : Bool). cond c (readied_one (with_values m t) ∷ carried (map (with_values m) ts)) (carried (map (with_values m) ts))) (sym (stays_valued m t ∙ e))))
    (λ e. rest ∙ ap (λ (c : Bool). cond c (readied_one (with_values m t) ∷ carried (map (with_values m) ts)) (carried (map (with_values m) ts))) (sym (stays_valued m t ∙ e)))

-- which tasks stay does not depend on their logs
stays_unlogged : (t : Task) → stays (unlogged t) ≡ stays t
stays_unlogged Ready = refl
stays_unlogged Running = refl
stays_unlogged (Parked log) = refl
stays_unlogged (Done n) = refl
stays_unlogged GivenUp = refl

pub staying_same : {X : Type 0} (xs : List X) (ts us : List Task) → map stays ts ≡ map stays us → staying xs ts ≡ staying xs us
staying_same xs [] [] e = refl
staying_same xs [] (u ∷ us) e = absurd (cc)
staying_same xs (t ∷ ts) [] e = absurd (cc)
staying_same [] (t ∷ ts) (u ∷ us) e = refl
staying_same (x ∷ xs) (t ∷ ts) (u ∷ us) e =
    let head : stays t ≡ stays u = cc in
    let tail : map stays ts ≡ map stays us = cc in
    ap (λ (b : Bool). cond b (x ∷ staying xs ts) (staying xs ts)) head ∙ ap (λ zs. cond (stays u) (x ∷ zs) zs) (staying_same xs ts us tail)

pub flags_unlogged : (ts : List Task) → map stays (map unlogged ts) ≡ map stays ts
flags_unlogged [] = refl
flags_unlogged (t ∷ ts) = ap (λ (b : Bool). b ∷ map stays (map unlogged ts)) (stays_unlogged t) ∙ ap (λ bs. stays t ∷ bs) (flags_unlogged ts)

pub flags_valued : (m : State) (ts : List Task) → map stays (map (with_values m) ts) ≡ map stays ts
flags_valued m [] = refl
flags_valued m (t ∷ ts) = ap (λ (b : Bool). b ∷ map stays (map (with_values m) ts)) (stays_valued m t) ∙ ap (λ bs. stays t ∷ bs) (flags_valued m ts)

-- and so is how many of them do
pub carried_same : (ts us : List Task) → map stays ts ≡ map stays us → length (carried ts) ≡ length (carried us)
carried_same ts us e =
    let size : length ts ≡ length us = omega (arith, ap length e, length-map ts stays, length-map us stays) in
    sym (staying_length ts ts refl) ∙ (ap length (staying_same ts ts us e) ∙ staying_length ts us size)
