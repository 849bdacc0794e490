use Rattle.std.proofs.Common.{◌≡◌, ℕ, ◌<◌, ◌≤◌, Bool, List, false, length, take, get_or, sym, ◌∙◌, subst, ⊎_elim, arith}
use Rattle.std.specs.Prelude.{All}
use Rattle.std.proofs.lemmas.Bool.{cases_lt}
use Rattle.std.proofs.lemmas.List.{length-take-le, get_or-take, get_or_past, take_all}
use Rattle.txn_programs.specs.declared.ast.AlwaysId.{AlwaysId}
use Rattle.explore_runner.specs.declared.denied.Ending.TheVariants as ending
use Rattle.explore_runner.proofs.denied.ending_of.Goals as goal

same_condition : (x id : AlwaysId) → ending.Broke x ≡ ending.Broke id → x ≡ id
same_condition x id e = cc

-- none of the flags before the first that is set is
unset_before : (bs : List Bool) (n i : ℕ) → All (λ (b : Bool). b ≡ false) (take n bs) → i < n → get_or bs i false ≡ false
unset_before bs n i none low =
    ⊎_elim (λ (inside : i < length bs). sym (get_or-take n bs i false low) ∙ none i false (⊎_elim (λ (short : n < length bs). omega (arith, low, length-take-le n bs (omega (arith, short)))) (λ (long : length bs ≤ n). subst (λ (xs : List Bool). i < length xs) (sym (take_all n bs long)) inside) (cases_lt n (length bs))))
    (λ (past : length bs ≤ i). get_or_past bs i false past)
    (cases_lt i (length bs))

pub returns-in-Some-clause-first : goal.returns-in-Some-clause-first
returns-in-Some-clause-first c id other is low =
    unset_before c.args.kinds.now.broke c.in-Some.id.0 other.0 c.in-Some.ensures.first
    (subst (λ (x : AlwaysId). other.0 < x.0) (sym (same_condition c.in-Some.id id is)) low)
