-- All parts together, and the lawful report.
use Rattle.std.proofs.Common.{◌≡◌, ◌≢◌, ℕ, zero, suc, Some, ap, sym, List, [], ◌∷◌, ◌++◌, map}
use Rattle.std.specs.List.{All, slice_get, slice_index_or}
use Rattle.std.proofs.lemmas.Option.{same_Some}
use Rattle.std.proofs.lemmas.List.Elements.{All-nil, All-cons, All-head, All-tail, All-append}
use Rattle.txn_programs.specs.declared.ast.TaskId.{TaskId}
use Rattle.txn_programs.specs.declared.ast.TxId.{TxId}
use Rattle.txn_programs.specs.declared.ast.Outcome.TheVariants.{Retries}
use Rattle.txn_programs.specs.declared.report.Entry.{Entry}
use Rattle.txn_programs.specs.Listing.{Listing, arity, task_tx, tasks, transaction_at}
use Rattle.txn_programs.specs.Replay.{Snapshot, Replays, applied}
use Rattle.txn_programs.specs.Told.{Told, base_of, now_of}
use Rattle.txn_programs.specs.LawfulReport.{FitsCatalogue, LawfulReport, HasOwn}
use Rattle.checker.specs.Parts.{AllGoOn, led_to, on_line}
use Rattle.checker.specs.Verdicts.{AllHold}

both_parts : {X : Type 0} (P : X → Type 0) (xs ys : List X) → All P (xs ++ ys) → All P xs × All P ys
both_parts P [] ys h = (All-nil P, h)
both_parts P (x ∷ xs) ys h =
    let rest = both_parts P xs ys (All-tail P x (xs ++ ys) h) in
    (All-cons P x xs (All-head P x (xs ++ ys) h) rest.0, rest.1)

abbrev Own : Listing → TaskId × TxId → Type 0
Own l p = HasOwn l p.0 p.1

-- the journal replays where each entry goes on, with its task's own transaction, and none retries
replays : (l : Listing) (s : Snapshot) (es : List Entry) (now : Snapshot) → AllGoOn l s es → now ≡ led_to l s es
    → All (Own l) (map on_line es) → All (λ (e : Entry). e.outcome ≢ Retries) es → Replays l s es now
replays l s [] now g e own ends = e
replays l s (x ∷ es) now g e own ends = (
  record {
    number = g.0.number;
    tx = All-head (Own l) (on_line x) (map on_line es) own;
    outcome_is = g.0.outcome_is;
    ends = All-head (λ (y : Entry). y.outcome ≢ Retries) x es ends;
  },
  replays l (applied l x s) es now g.1 e (All-tail (Own l) (on_line x) (map on_line es) own) (All-tail (λ (y : Entry). y.outcome ≢ Retries) x es ends),
)

-- what is at a place is read there
at_place : {X : Type 0} (xs : List X) (i : ℕ) (x d : X) → slice_get xs i ≡ Some x → x ≡ slice_index_or xs i d
at_place [] i x d e = absurd (cc)
at_place (y ∷ xs) zero x d e = sym (same_Some _ _ e)
at_place (y ∷ xs) (suc i) x d e = at_place xs i x d e

go_on : (l : Listing) (s : Snapshot) (es : List Entry) (now : Snapshot) → Replays l s es now → AllGoOn l s es
go_on l s [] now r = tt
go_on l s (x ∷ es) now r =
    let own : x.tx ≡ task_tx l x.task = at_place (tasks l) x.task.0 x.tx _ r.0.tx in (
      record { number = r.0.number; takes = ap (λ (tx : TxId). arity (transaction_at l tx)) own; outcome_is = r.0.outcome_is },
      go_on l (applied l x s) es now r.1,
    )

leads : (l : Listing) (s : Snapshot) (es : List Entry) (now : Snapshot) → Replays l s es now → now ≡ led_to l s es
leads l s [] now r = r
leads l s (x ∷ es) now r = leads l (applied l x s) es now r.1

own_of : (l : Listing) (s : Snapshot) (es : List Entry) (now : Snapshot) → Replays l s es now → All (Own l) (map on_line es)
own_of l s [] now r = All-nil (Own l)
own_of l s (x ∷ es) now r = All-cons (Own l) (on_line x) (map on_line es) r.0.tx (own_of l (applied l x s) es now r.1)

pub lawful : (l : Listing) (r : Told) → FitsCatalogue l r → AllHold l r → LawfulReport l r
lawful l r fits h =
    let entries = both_parts (Own l) (map on_line r.entries) (r.parked ++ r.memory) h.tasks.own in
    let others = both_parts (Own l) r.parked r.memory entries.1 in
    record {
      fits = fits;
      replays = replays l (base_of r) r.entries (now_of r) h.entries h.present entries.0 fits.ends;
      base_versions = h.base.versions;
      from_opening = h.base.from_opening;
      upheld = h.base.upheld;
      parked_own = others.0;
      memory_own = others.1;
      once = h.tasks.once;
      parked_ascend = h.tasks.parked_ascend;
      memory_ascend = h.tasks.memory_ascend;
      accounted = h.tasks.accounted;
      retries = h.parked;
    }

pub all_hold : (l : Listing) (r : Told) → LawfulReport l r → AllHold l r
all_hold l r h =
    record {
      base = record { from_opening = h.from_opening; versions = h.base_versions; upheld = h.upheld };
      entries = go_on l (base_of r) r.entries (now_of r) h.replays;
      present = leads l (base_of r) r.entries (now_of r) h.replays;
      tasks = record {
        own = All-append (Own l) (map on_line r.entries) (r.parked ++ r.memory)
            (own_of l (base_of r) r.entries (now_of r) h.replays)
            (All-append (Own l) r.parked r.memory h.parked_own h.memory_own);
        once = h.once;
        parked_ascend = h.parked_ascend;
        memory_ascend = h.memory_ascend;
        accounted = h.accounted;
      };
      parked = h.retries;
    }
