-- No task runs exactly where none that runs is counted.
use Rattle.std.proofs.Common.{◌≡◌, ◌≢◌, ◌↔◌, ◌∙◌, IsTrue, ℕ, zero, suc, ◌+◌, cond, nat_eq, List, [], ◌∷◌, Some, refl, sym, ap, arith}
use Rattle.std.specs.List.{slice_get, count_by}
use Rattle.std.proofs.lemmas.List.Sums.{sum_by-cons}
use Rattle.std.proofs.lemmas.Bool.{eqb-true}
use Rattle.std.proofs.lemmas.Option.{same_Some}
use Rattle.book.specs.Tasks.{Task, Ready, Running, Parked, Done, GivenUp}
use Rattle.book.specs.Counting.{is_running}

abbrev as_one : Task → ℕ
as_one t = cond (is_running t) 1 0

first_more : (t : Task) (ts : List Task) → count_by is_running (t ∷ ts) ≡ as_one t + count_by is_running ts
first_more t ts = sum_by-cons as_one t ts

none_runs : (ts : List Task) (k : ℕ) → count_by is_running ts ≡ 0 → slice_get ts k ≢ Some Running
none_runs [] k none at = absurd (cc)
none_runs (t ∷ ts) zero none at =
    let one : as_one t ≡ 1 = ap as_one (same_Some t Running at) in
    let all : as_one t + count_by is_running ts ≡ zero = sym (first_more t ts) ∙ none in
    omega (arith, all, one)
none_runs (t ∷ ts) (suc k) none at =
    let all : as_one t + count_by is_running ts ≡ zero = sym (first_more t ts) ∙ none in
    none_runs ts k (omega (arith, all)) at

rests : (t : Task) → t ≢ Running → as_one t ≡ 0
rests Ready other = refl
rests Running other = absurd (other refl)
rests (Parked log) other = refl
rests (Done n) other = refl
rests GivenUp other = refl

none_counted : (ts : List Task) → ((k : ℕ) → slice_get ts k ≢ Some Running) → count_by is_running ts ≡ 0
none_counted [] still = refl
none_counted (t ∷ ts) still =
    let first : as_one t ≡ 0 = rests t (λ e. still zero (ap Some e)) in
    let rest : count_by is_running ts ≡ 0 = none_counted ts (λ k at. still (suc k) at) in
    first_more t ts ∙ omega (arith, first, rest)

pub still_counted : (n : ℕ) (ts : List Task) → n ≡ count_by is_running ts → IsTrue (nat_eq n 0) ↔ ((k : ℕ) → slice_get ts k ≢ Some Running)
still_counted zero ts counts = (λ _ k at. none_runs ts k (sym counts) at, λ _. refl)
still_counted (suc n) ts counts = (λ none. absurd (cc (eqb-true (suc n) 0 none)), λ still. absurd (cc (counts ∙ none_counted ts still)))
