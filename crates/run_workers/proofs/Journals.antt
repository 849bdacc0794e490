-- A journal stays as short as a run keeps it.
use Rattle.std.proofs.Common.{◌≡◌, ℕ, ◌+◌, ◌<◌, ◌≤◌, Bool, true, false, List, ◌++◌, [], ◌∷◌, length, refl, sym, ◌∙◌, ap, subst, arith}
use Rattle.std.specs.Prelude.{◌%◌, ◌&&◌, nat_lt, nat_le}
use Rattle.std.proofs.lemmas.Bool.{cond_both}
use Rattle.std.proofs.lemmas.Bool.Decides.{nat_tests}
use Rattle.std.proofs.lemmas.List.{length-append}
use Rattle.std.proofs.Math.Nat.{add-mod_right}
use Rattle.txn_programs.specs.declared.ast.TaskId.{TaskId}
use Rattle.txn_programs.specs.declared.report.Entry.{Entry}
use Rattle.txn_programs.specs.Told.{Told}
use Rattle.txn_programs.specs.Listing.{Listing}
use Rattle.txn_programs.specs.Replay.{Snapshot, Replays, applied}
use Rattle.book.specs.declared.task.Serial.{Serial}
use Rattle.book.specs.declared.task.Serial.TheVariants as serial
use Rattle.book.specs.View.{BookView, committed, checkpointed}
use Rattle.book.specs.LawfulBook.{LawfulBook}
use Rattle.book.specs.Turns.{ReportIs, Served, is_due, kept_short, Drains, readied}
use Rattle.run_workers.specs.Journals.{IsShort, KeepsShort}

applied_number : (l : Listing) (e : Entry) (s : Snapshot) → (applied l e s).number ≡ e.number
unfolding applied
applied_number l e s = refl

replays_number : (l : Listing) (a b : Snapshot) (xs : List Entry) → Replays l a xs b → b.number ≡ a.number + length xs
replays_number l a b [] r = ap (λ (z : Snapshot). z.number) r ∙ omega arith
replays_number l a b (x ∷ xs) r =
    let h : b.number ≡ (applied l x a).number + length xs = replays_number l (applied l x a) b xs r.1 in
    omega (arith, r.0.number, applied_number l x a)

-- a base with so many entries behind it, which lead to this number
pub record Stays (every base count number : ℕ) : Type 0 where
  pub short : IsShort every base count
  pub numbered : number ≡ base + count

abbrev pub Keeps : ℕ → BookView → Type 0
Keeps every b = Stays every b.base.number (length b.journal) b.present.number

pub keeps : (every : ℕ) (b : BookView) → LawfulBook b → IsShort every b.base.number (length b.journal) → Keeps every b
keeps every b h short = record { short = short; numbered = replays_number b.catalogue b.base b.present b.journal h.replays }

one_longer : (es : List Entry) (e : Entry) → length (es ++ e ∷ []) ≡ length es + 1
one_longer es e = omega (arith, length-append es (e ∷ []))

committed_number : (b : BookView) (task : TaskId) → (committed b task).present.number ≡ b.present.number + 1
unfolding committed applied
committed_number b task = refl

committed_length : (b : BookView) (task : TaskId) → length (committed b task).journal ≡ length b.journal + 1
unfolding committed
committed_length b task = one_longer b.journal _

committed_base : (b : BookView) (task : TaskId) → (committed b task).base.number ≡ b.base.number
unfolding committed
committed_base b task = refl

-- the test of a checkpoint that is due
abbrev pub is_full : ℕ → ℕ → Bool
is_full every count = nat_lt 0 every && nat_le every count

module _ (every base count : ℕ) (h : IsShort every base count) where
  short_full : is_full every (count + 1) ≡ true → IsShort every (base + count + 1) 0
  short_full full =
      let some : 0 < every = grind (arith, nat_tests) in
      let long : every ≤ count + 1 = grind (arith, nat_tests) in
      let less : count < every = h.fewer some in
      let moved : base + count + 1 ≡ base + every = omega (arith, long, less) in
      record {
        never = λ none. absurd (omega (arith, none, some));
        fewer = λ p. p;
        whole = λ p. ap (λ n. n % every) moved ∙ (add-mod_right base every ∙ h.whole p);
      }

  short_open : is_full every (count + 1) ≡ false → IsShort every base (count + 1)
  short_open not_full = record { never = h.never; fewer = λ some. grind (arith, nat_tests); whole = h.whole }

module _ (every : ℕ) (b : BookView) (task : TaskId) (n : ℕ) (h : Keeps every b) where
  due_keeps : is_due every (serial.Committed n) (committed b task) ≡ true → Keeps every (checkpointed (committed b task))
  due_keeps due =
      let full : is_full every (length b.journal + 1) ≡ true = ap (is_full every) (sym (committed_length b task)) ∙ due in
      let at : (committed b task).present.number ≡ b.base.number + length b.journal + 1 = committed_number b task ∙ omega (arith, h.numbered) in
      record {
        short = subst (λ m. IsShort every m 0) (sym at) (short_full every b.base.number (length b.journal) h.short full);
        numbered = omega arith;
      }

  open_keeps : is_due every (serial.Committed n) (committed b task) ≡ false → Keeps every (committed b task)
  open_keeps not_due =
      let not_full : is_full every (length b.journal + 1) ≡ false = ap (is_full every) (sym (committed_length b task)) ∙ not_due in
      let short = short_open every b.base.number (length b.journal) h.short not_full in
      let longer = subst (IsShort every b.base.number) (sym (committed_length b task)) short in
      record {
        short = subst (λ m. IsShort every m (length (committed b task).journal)) (sym (committed_base b task)) longer;
        numbered = omega (arith, committed_number b task, committed_length b task, committed_base b task, h.numbered);
      }

  pub commit_keeps : Keeps every (kept_short every (serial.Committed n) (committed b task))
  commit_keeps =
      let c = committed b task in
      cond_both (is_due every (serial.Committed n) c) (checkpointed c) c (Keeps every) due_keeps open_keeps

pub turn_keeps : (every : ℕ) (b c : BookView) (task : TaskId) (how : Serial) → Keeps every b → Served b task how c → Keeps every (kept_short every how c)
turn_keeps every b c task serial.NotRunning h s = subst (Keeps every) (sym s.1) h
turn_keeps every b c task serial.Parked h s = subst (Keeps every) (sym s.2.2) h
turn_keeps every b c task (serial.Committed n) h s =
    subst (λ x. Keeps every (kept_short every (serial.Committed n) x)) (sym s.3) (commit_keeps every b task n h)
turn_keeps every b c task serial.Abandoned h s = subst (Keeps every) (sym s.1) h

pub drain_keeps : (every : ℕ) (b c : BookView) → Keeps every b → Drains every b c → Keeps every c
drain_keeps every b c h Drains.NoTurn = h
drain_keeps every b c h (Drains.OneMore {a} m task d taken t) =
    let before : Keeps every a = drain_keeps every b a h d in
    let started : Keeps every m = subst (Keeps every) (sym taken.2) before in
    subst (Keeps every) (sym t.1.2) (turn_keeps every m t.1.0 task t.0 started t.1.1)

abbrev pub Shortens : ℕ → BookView → Type 0
Shortens every b = IsShort every b.base.number (length b.journal)

module _ (every named : ℕ) (same : every ≡ named) (b : BookView) (lawful : LawfulBook b) (short : Shortens named b) where
  before : Keeps every b
  before = subst (λ m. Keeps m b) (sym same) (keeps named b lawful short)

  named_short : (d : BookView) → Keeps every d → Shortens named d
  named_short d h = subst (λ m. Shortens m d) same h.short

  pub finish_short : (c d : BookView) (task : TaskId) (n : ℕ) → c ≡ committed b task → d ≡ kept_short every (serial.Committed n) c → Shortens named d
  finish_short c d task n made kept =
      named_short d (subst (Keeps every) (sym (kept ∙ ap (kept_short every (serial.Committed n)) made)) (commit_keeps every b task n before))

  pub serial_short : (c d : BookView) (task : TaskId) (how : Serial) → Served b task how c → d ≡ kept_short every how c → Shortens named d
  serial_short c d task how served kept = named_short d (subst (Keeps every) (sym kept) (turn_keeps every b c task how before served))

  pub drain_short : (d : BookView) → Drains every (readied b) d → Shortens named d
  drain_short d turns = named_short d (drain_keeps every (readied b) d (record { short = before.short; numbered = before.numbered }) turns)

pub report_short : (every : ℕ) (b : BookView) (r : Told) → ReportIs b r → Shortens every b → KeepsShort every r
report_short every b r is short =
    let moved = subst (λ m. IsShort every m (length b.journal)) (sym (ap (λ (s : Snapshot). s.number) is.base)) short in
    subst (λ m. IsShort every r.base m) (sym (ap (λ (es : List Entry). length es) is.entries)) moved
