-- The tasks that come over from an idle book are those that its report lists as parked.
use Rattle.std.proofs.Common.{◌≡◌, ◌≢◌, ◌∙◌, ℕ, zero, suc, ◌+◌, List, [], ◌∷◌, drop, length, map, Some, refl, sym, ap, arith}
use Rattle.std.specs.Prelude.{slice_get, slice_index_or}
use Rattle.std.proofs.lemmas.List.{length-map}
use Rattle.txn_programs.specs.declared.arguments.Call.{Call}
use Rattle.txn_programs.specs.declared.ast.TxId.{TxId}
use Rattle.txn_programs.specs.Listing.{Listing, calls, tasks}
use Rattle.txn_programs.specs.Told.{Told}
use Rattle.txn.specs.Values.{begun}
use Rattle.book.specs.Tasks.{Task, Ready, Running, Parked, Done, GivenUp}
use Rattle.book.specs.Turns.{is_parked, listed, IsIdle, ReportIs}
use Rattle.book.specs.Carrying.{staying}
use Rattle.book.specs.LawfulBook.{BookFits}
use Rattle.book.specs.View.{BookView}
use Rattle.book.specs.Chapters.{next_catalogue}
use Rattle.checker.specs.Chapters.{line_call, waiting, next_chapter}

-- no task is ready or running
record Idle (ts : List Task) : Type 0 where
  ready : (t : ℕ) → slice_get ts t ≢ Some Ready
  running : (t : ℕ) → slice_get ts t ≢ Some Running

rest : (t : Task) (ts : List Task) → Idle (t ∷ ts) → Idle ts
rest t ts i = record { ready = λ k. i.ready (suc k); running = λ k. i.running (suc k) }

same_head : (y x : Call) (ys more : List Call) → y ∷ ys ≡ x ∷ more → y ≡ x
same_head y x ys more e = cc

-- the transaction and the arguments of a task are those of its call
call_at : (xs : List Call) (n : ℕ) (x : Call) (more : List Call) (d : TxId) → drop n xs ≡ x ∷ more
    → record { tx = slice_index_or (map (λ (c : Call). c.tx) xs) n d; arguments = slice_index_or (map (λ (c : Call). c.arguments) xs) n [] } ≡ x
call_at [] zero x more d e = absurd (cc)
call_at [] (suc n) x more d e = absurd (cc)
call_at (y ∷ xs) zero x more d e = same_head y x xs more e
call_at (y ∷ xs) (suc n) x more d e = call_at xs n x more d e

drop_more : (xs : List Call) (n : ℕ) (x : Call) (more : List Call) → drop n xs ≡ x ∷ more → drop (suc n) xs ≡ more
drop_more [] zero x more e = absurd (cc)
drop_more [] (suc n) x more e = absurd (cc)
drop_more (y ∷ xs) zero x more e = cc
drop_more (y ∷ xs) (suc n) x more e = drop_more xs n x more e

drop_one : (xs : List Call) (n : ℕ) (x : Call) (more : List Call) → drop n xs ≡ x ∷ more → drop (n + 1) xs ≡ more
drop_one xs n x more e = let next : n + 1 ≡ suc n = omega arith in ap (λ (k : ℕ). drop k xs) next ∙ drop_more xs n x more e

come_over : (l : Listing) (n : ℕ) (xs : List Call) (ts : List Task) → drop n (calls l) ≡ xs → length xs ≡ length ts → Idle ts
    → staying xs ts ≡ map (line_call l) (listed is_parked l n ts)
come_over l n [] [] e sized idle = refl
come_over l n [] (t ∷ ts) e sized idle = absurd (omega arith)
come_over l n (x ∷ xs) [] e sized idle = absurd (omega arith)
come_over l n (x ∷ xs) (Ready ∷ ts) e sized idle = absurd (idle.ready 0 refl)
come_over l n (x ∷ xs) (Running ∷ ts) e sized idle = absurd (idle.running 0 refl)
come_over l n (x ∷ xs) (Parked log ∷ ts) e sized idle =
    ap (λ (ys : List Call). x ∷ ys) (come_over l (n + 1) xs ts (drop_one (calls l) n x xs e) (omega arith) (rest (Parked log) ts idle))
    ∙ ap (λ (y : Call). y ∷ map (line_call l) (listed is_parked l (n + 1) ts)) (sym (call_at (calls l) n x xs (record { 0 = 0 }) e))
come_over l n (x ∷ xs) (Done k ∷ ts) e sized idle = come_over l (n + 1) xs ts (drop_one (calls l) n x xs e) (omega arith) (rest (Done k) ts idle)
come_over l n (x ∷ xs) (GivenUp ∷ ts) e sized idle = come_over l (n + 1) xs ts (drop_one (calls l) n x xs e) (omega arith) (rest GivenUp ts idle)

-- a task for each call
calls_sized : (l : Listing) → length (calls l) ≡ length (tasks l)
calls_sized l = sym (length-map (calls l) (λ (c : Call). c.tx))

pub next_is_told : (b : BookView) (r : Told) → BookFits b → IsIdle b → ReportIs b r → next_catalogue b ≡ next_chapter b.catalogue r
next_is_told b r fits idle is =
    let l = b.catalogue in
    let over = come_over l 0 (calls l) b.tasks refl (calls_sized l ∙ sym fits.tasks) (record { ready = idle.ready; running = idle.running }) in
    let told : waiting l r ≡ staying (calls l) b.tasks = ap (map (line_call l)) is.parked ∙ sym over in
    ap (λ (m : List Call). begun l b.present.state m) (sym told) ∙ ap (λ m. begun l m (waiting l r)) (sym (ap (λ s. s.state) is.current))
