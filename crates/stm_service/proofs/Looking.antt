-- What is seen of the store of a desk, at the end of its history.
use Rattle.std.specs.Prelude.{IfOk}
use Rattle.std.proofs.Common.{◌≡◌, ◌∙◌, ℕ, ℤ, ◌<◌, List, Option, Some, None, Result, Ok, Err, true, length, slice_get, sym, ap, subst, arith}
use Rattle.std.proofs.Math.Logic.{∥∥₁_map}
use Rattle.std.proofs.lemmas.Option.{slice_get_within}
use Rattle.txn_programs.specs.declared.ast.Outcome.{Outcome}
use Rattle.txn_programs.specs.declared.ast.Span.{Span}
use Rattle.txn_programs.specs.declared.ast.TxId.{TxId}
use Rattle.txn_programs.specs.declared.ast.VarId.{VarId}
use Rattle.txn_programs.specs.Meaning.{State, outcome}
use Rattle.txn_programs.specs.Listing.{Listing, call_program, program_at, spans, variable_named}
use Rattle.text_words.specs.declared.fault.ReadFault.{ReadFault}
use Rattle.text_line_reader.specs.Words.{cell_in}
use Rattle.text_line_reader.specs.CellNames.{cell_at, cell_named}
use Rattle.attempt.specs.Room.{NeedsNoMemory, TakesMemory}
use Rattle.book.specs.Tasks.{Running}
use Rattle.book.specs.Turns.{IsIdle}
use Rattle.book.specs.View.{BookView}
use Rattle.stm_store.specs.Working.{declaring}
use Rattle.stm_store.specs.Naming.{named_as, span_at, value_named}
use Rattle.stm_store.specs.Telling.{CopiesCells, IsCellOf, IsToldOf, IsValueOf}
use Rattle.stm_store.specs.declared.store.Store.{Store}
use Rattle.stm_desk.specs.declared.desk.Desk.{Desk}
use Rattle.stm_desk.specs.Answering.{history_of}
use Rattle.stm_desk.specs.History.{History, led}
use Rattle.stm_desk.specs.Keeping.{Accounts}
use Rattle.stm_service.specs.Looking.{CopiesFrom, IsSeen, IsStoreOf, IsValueIn}
use Rattle.stm_service.proofs.Lists.{get_within}

-- its values are those to which the history leads, and it is of the program
record Stands (l : Listing) (m : State) (h : History) (s : Store) : Type 0 where
  values : led l m h ≡ s.book.present.state
  named : s.catalogue.now ≡ l

stands : (l : Listing) (m : State) (h : History) (s : Store) → IsStoreOf l m h s → ∥ Stands l m h s ∥₁
stands l m h s o =
    let d = o.desk in
    let first = d.work.first.value in
    let now = d.work.store.book.present.state in
    ∥∥₁_map d.work.accounts (λ (a : Accounts first d.work.store (history_of d)). record {
      values = subst (λ (x : Store). led l m h ≡ x.book.present.state) o.has
          (subst (λ (x : History). led l m x ≡ now) o.history
          (subst (λ (k : Listing). led k m (history_of d) ≡ now) o.named
          (subst (λ (x : State). led first.catalogue.now x (history_of d) ≡ now) o.placed a.leads)));
      named = subst (λ (x : Store). x.catalogue.now ≡ l) o.has (a.catalogue ∙ o.named);
    })

pub seen : (l : Listing) (m : State) (h : History) (s : Store) (sees : Store → Type 0) → IsStoreOf l m h s → sees s → IsSeen l m h sees
seen l m h s sees o is = ∣ (s, o, is) ∣₁

-- what is so of what was told is so of what follows from it
pub if_ok : {A B : Type 0} (P Q : A → Type 0) (r : Result A B) → ((x : A) → P x → Q x) → IfOk r P → IfOk r Q
if_ok P Q (Ok x) f h = f x h
if_ok P Q (Err e) f h = tt

told_in : (m : State) (b : BookView) (at other : Option VarId) (r : Option (ℤ × ℕ)) → m ≡ b.present.state → at ≡ other → IsToldOf b at r → IsValueIn m other r
told_in m b at other None values same told = sym same ∙ told
told_in m b at other (Some p) values same told = (told.0, sym same ∙ told.1, ap (λ (x : State). slice_get x told.0.0) values ∙ told.2.0)

cell_same : (a l : Listing) (table index : List ℕ) → declaring a ≡ declaring l → cell_named a table index ≡ cell_named l table index
unfolding cell_named
cell_same a l table index e = ap (λ (x : Listing). cell_named x table index) e

named_same : (a l : Listing) (name : List ℕ) (r : Result (List ℕ × List ℕ) ReadFault) → declaring a ≡ declaring l → named_as a name r ≡ named_as l name r
named_same a l name (Ok cell) e = cell_same a l cell.0 cell.1 e
named_same a l name (Err why) e = ap (λ (x : Listing). variable_named x name) e

declared_as : (l : Listing) (m : State) (h : History) (s : Store) → Stands l m h s → declaring s.book.catalogue ≡ declaring l
declared_as l m h s st = s.declared ∙ ap declaring st.named

pub value_in : (l : Listing) (m : State) (h : History) (s : Store) (name : List ℕ) (r : Option (ℤ × ℕ)) → IsStoreOf l m h s → IsValueOf s.book name r → ∥ IsValueIn (led l m h) (value_named l name) r ∥₁
value_in l m h s name r o told =
    ∥∥₁_map (stands l m h s o) (λ (st : Stands l m h s).
    told_in (led l m h) s.book (value_named s.book.catalogue name) (value_named l name) r st.values (named_same s.book.catalogue l name (cell_in name) (declared_as l m h s st)) told)

pub cell_value_in : (l : Listing) (m : State) (h : History) (s : Store) (table index : ℕ) (r : Option (ℤ × ℕ)) → IsStoreOf l m h s → IsCellOf s.book table index r → ∥ IsValueIn (led l m h) (cell_at (spans l) (Some table) index) r ∥₁
cell_value_in l m h s table index r o told =
    ∥∥₁_map (stands l m h s o) (λ (st : Stands l m h s).
    told_in (led l m h) s.book (cell_at (spans s.book.catalogue) (Some table) index) (cell_at (spans l) (Some table) index) r st.values
    (ap (λ (x : Listing). cell_at (spans x) (Some table) index) (declared_as l m h s st)) told)

pub cells_from : (l : Listing) (m : State) (h : History) (s : Store) (table from : ℕ) (old : List ℤ) (count : ℕ) (new : List ℤ) → IsStoreOf l m h s → CopiesCells s.book table from old count new → ∥ CopiesFrom (led l m h) (span_at l table) from old count new ∥₁
cells_from l m h s table from old count new o copied =
    ∥∥₁_map (stands l m h s o) (λ (st : Stands l m h s).
    subst (λ (x : State). CopiesFrom x (span_at l table) from old count new) (sym st.values)
    (subst (λ (span : Span). CopiesFrom s.book.present.state span from old count new) (ap (λ (x : Listing). span_at x table) (declared_as l m h s st)) copied))

-- how a call would end on the store is how it would end on the values to which the history leads
pub ends_there : (l : Listing) (m : State) (h : History) (s : Store) (tx : TxId) (arguments : List ℤ) (o : Outcome) → IsStoreOf l m h s → outcome (call_program s.book.catalogue tx arguments) s.book.present.state ≡ o
    → ∥ (outcome (call_program l tx arguments) (led l m h) ≡ o) ∥₁
ends_there l m h s tx arguments o of is =
    ∥∥₁_map (stands l m h s of) (λ (st : Stands l m h s).
    ap (outcome (call_program l tx arguments)) st.values
    ∙ (ap (λ (x : Listing). outcome (call_program x tx arguments) s.book.present.state) (sym (declared_as l m h s st)) ∙ is))

memory_same : (l m : Listing) (tx : TxId) → declaring l ≡ declaring m → length l.initial ≡ length m.initial → TakesMemory l tx → TakesMemory m tx
memory_same l m tx same wide takes small =
    let there : 8 < length l.initial = takes (subst (λ (k : Listing). NeedsNoMemory (program_at k tx)) (sym same) small) in
    omega (arith, there, wide)

pub memory_there : (l : Listing) (m : State) (h : History) (s : Store) (tx : TxId) → IsStoreOf l m h s → TakesMemory s.book.catalogue tx → ∥ TakesMemory l tx ∥₁
memory_there l m h s tx o takes =
    ∥∥₁_map (stands l m h s o) (λ (st : Stands l m h s).
    memory_same s.book.catalogue l tx (declared_as l m h s st) (s.wide ∙ ap (λ (x : Listing). length x.initial) st.named) takes)

-- of a closed desk no task is ready or runs
pub closed_idle : (d : Desk) → d.work.closed ≡ true → IsIdle d.work.store.book
closed_idle d closed = record {
  ready = d.served;
  running = λ t runs.
      let s = d.work.store in
      let low : t < length s.tickets.held = omega (arith, slice_get_within s.book.tasks t Running runs, s.each) in
      let ticket = get_within s.tickets.held t low in
      d.awaited t ticket.0 runs ticket.1 (d.shut closed ticket.0);
}
