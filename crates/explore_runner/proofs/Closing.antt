-- The book after given turns, and the report that it tells.
use Rattle.std.proofs.Common.{◌≡◌, ℕ, zero, suc, ◌≤◌, true, List, [], ◌∷◌, ◌++◌, length, map, take, drop, refl, sym, ◌∙◌, ap, subst, arith, append_assoc}
use Rattle.std.proofs.lemmas.List.{map-append, append-nil}
use Rattle.std.specs.Prelude.{Result, Ok, Err, IfOk, OnOk}
use Rattle.txn_programs.specs.declared.arguments.Call.{Call}
use Rattle.txn_programs.specs.declared.ast.TaskId.{TaskId}
use Rattle.txn_programs.specs.declared.report.Entry.{Entry}
use Rattle.txn_programs.specs.Names.{names_hold}
use Rattle.txn_programs.specs.Listing.{Listing}
use Rattle.txn_programs.specs.Told.{Told}
use Rattle.txn_programs.specs.LawfulReport.{LawfulReport}
use Rattle.book.specs.declared.task.Serial.{Serial}
use Rattle.book.specs.declared.task.Serial.TheVariants as serial
use Rattle.book.specs.View.{BookView, committed, entry_of}
use Rattle.book.specs.Turns.{Served, Turn, Drains, kept_short, readied}
use Rattle.explore_law.specs.declared.instance.InstanceId.{InstanceId}
use Rattle.explore_law.specs.Instances.{instance_at}
use Rattle.explore_law.specs.Orders.{Config, first_config, Leads, IsEnd}
use Rattle.explore_runner.specs.Ends.{EndsAt, call_as, end_of}
use Rattle.explore_runner.specs.Giving.{entered_by}
use Rattle.explore_runner.proofs.Counts.{place_of}
use Rattle.explore_runner.proofs.Leading.{leads_once, none_after, turns_are}
use Rattle.explore_runner.proofs.Whole.{opening_leads}

-- a later book: its journal goes on
pub record GoesOn (a b : BookView) : Type 0 where
  pub base : b.base ≡ a.base
  pub more : List Entry
  pub journal : b.journal ≡ a.journal ++ more

same_on : (a b : BookView) → b.base ≡ a.base → b.journal ≡ a.journal → GoesOn a b
same_on a b e f = record { base = e; more = []; journal = f ∙ sym (append-nil a.journal) }

on_and_on : (a b c : BookView) → GoesOn a b → GoesOn b c → GoesOn a c
on_and_on a b c g h =
    record {
      base = h.base ∙ g.base;
      more = g.more ++ h.more;
      journal = h.journal ∙ (ap (λ (es : List Entry). es ++ h.more) g.journal ∙ append_assoc a.journal g.more h.more);
    }

committed_on : (b : BookView) (task : TaskId) → GoesOn b (committed b task)
unfolding committed
committed_on b task = record { base = refl; more = entry_of b task ∷ []; journal = refl }

served_on : (b d : BookView) (task : TaskId) (how : Serial) → Served b task how d → GoesOn b d
served_on b d task serial.NotRunning s = same_on b d (ap (λ (x : BookView). x.base) s.1) (ap (λ (x : BookView). x.journal) s.1)
served_on b d task serial.Parked s = same_on b d (ap (λ (x : BookView). x.base) s.2.2) (ap (λ (x : BookView). x.journal) s.2.2)
served_on b d task (serial.Committed n) s = subst (GoesOn b) (sym s.3) (committed_on b task)
served_on b d task serial.Abandoned s = same_on b d (ap (λ (x : BookView). x.base) s.1) (ap (λ (x : BookView). x.journal) s.1)

-- no checkpoint is due
never_short : (how : Serial) (b : BookView) → kept_short 0 how b ≡ b
never_short serial.NotRunning b = refl
never_short serial.Parked b = refl
never_short (serial.Committed n) b = refl
never_short serial.Abandoned b = refl

turn_on : (b c : BookView) (task : TaskId) → Turn 0 b task c → GoesOn b c
turn_on b c task t = subst (GoesOn b) (sym (t.1.2 ∙ never_short t.0 t.1.0)) (served_on b t.1.0 task t.0 t.1.1)

pub drains_on : (a b : BookView) → Drains 0 a b → GoesOn a b
drains_on a b Drains.NoTurn = same_on a a refl refl
drains_on a b (Drains.OneMore {a = c} m task d taken t) =
    on_and_on a c b (drains_on a c d)
    (on_and_on c m b (same_on c m (ap (λ (x : BookView). x.base) taken.2) (ap (λ (x : BookView). x.journal) taken.2)) (turn_on m b task t))

pub readied_on : (a b : BookView) → GoesOn (readied a) b → GoesOn a b
readied_on a b h = record { base = h.base; more = h.more; journal = h.journal }

nothing_mapped : {X Y : Type 0} (f : X → Y) (xs : List X) → map f xs ≡ [] → xs ≡ []
nothing_mapped f [] e = refl
nothing_mapped f (x ∷ xs) e = absurd (cc)

-- turns to an end that a report begins with are all its turns
module _ (l : Listing) (r : Told) (turns : List InstanceId) (more : List Entry) (before : List Entry) (q : Config) (names : names_hold l ≡ true) (lawful : LawfulReport l r)
    (opens : r.base ≡ 0) (none : r.memory ≡ []) (goes : r.entries ≡ before ++ more) (begins : entered_by l before ≡ map (instance_at l) turns) (leads : Leads l (first_config l) turns q) (last : IsEnd l q) where
  -- the instances of the entries behind these turns
  abbrev others : List InstanceId
  others = map (place_of l) (entered_by l more)

  all_calls : entered_by l r.entries ≡ map (instance_at l) turns ++ entered_by l more
  all_calls =
      ap (entered_by l) goes ∙ (map-append (λ (e : Entry). call_as l e.task e.tx) before more ∙ ap (λ (cs : List Call). cs ++ entered_by l more) begins)

  whole : Leads l (first_config l) (turns ++ others) (end_of l r)
  whole =
      subst (λ (ks : List InstanceId). Leads l (first_config l) ks (end_of l r)) (turns_are l r.entries turns (entered_by l more) q leads all_calls)
      (opening_leads l r lawful none names opens)

  no_more : others ≡ []
  no_more = none_after l (first_config l) turns others q (end_of l r) leads last whole

  no_calls : entered_by l more ≡ []
  no_calls = nothing_mapped (place_of l) (entered_by l more) no_more

  pub same_turns : entered_by l r.entries ≡ map (instance_at l) turns
  same_turns = all_calls ∙ (ap (λ (cs : List Call). map (instance_at l) turns ++ cs) no_calls ∙ append-nil (map (instance_at l) turns))

  pub ends_there : (p : Config) → Leads l (first_config l) turns p → EndsAt l r p
  ends_there p there =
      let here : Leads l (first_config l) turns (end_of l r) =
      subst (λ (ks : List InstanceId). Leads l (first_config l) ks (end_of l r)) (ap (λ (ks : List InstanceId). turns ++ ks) no_more ∙ append-nil turns) whole in
      record { lawful = lawful; opens = opens; none_stopped = none; config = leads_once l (first_config l) turns (end_of l r) p here there }

-- four facts of an answer, together
pub if_all : {X E : Type 0} (r : Result X E) (A B C D F : X → Type 0) → ((x : X) → A x → B x → C x → D x → F x) → IfOk r A → IfOk r B → IfOk r C → IfOk r D → IfOk r F
if_all (Ok x) A B C D F h a b c d = h x a b c d
if_all (Err e) A B C D F h a b c d = tt

-- what a fact of an answer says
pub on_ok : {X E : Type 0} (r : Result X E) (A B : Type 0) → (A → B) → OnOk r A → OnOk r B
on_ok (Ok x) A B h a = h a
on_ok (Err e) A B h a = tt

-- what three facts of an answer say together
pub on_all : {X E : Type 0} (r : Result X E) (A B C D : Type 0) → (A → B → C → D) → OnOk r A → OnOk r B → OnOk r C → OnOk r D
on_all (Ok x) A B C D h a b c = h a b c
on_all (Err e) A B C D h a b c = tt

pub take_all_of : {X : Type 0} (xs : List X) (i : ℕ) → length xs ≤ i → take i xs ≡ xs
take_all_of [] zero h = refl
take_all_of [] (suc i) h = refl
take_all_of (x ∷ xs) zero h = absurd (omega (arith, h))
take_all_of (x ∷ xs) (suc i) h = ap (λ zs. x ∷ zs) (take_all_of xs i (omega (arith, h)))

pub drop_all_of : {X : Type 0} (xs : List X) (i : ℕ) → length xs ≤ i → drop i xs ≡ []
drop_all_of [] zero h = refl
drop_all_of [] (suc i) h = refl
drop_all_of (x ∷ xs) zero h = absurd (omega (arith, h))
drop_all_of (x ∷ xs) (suc i) h = drop_all_of xs i (omega (arith, h))
