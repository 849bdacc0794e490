-- What the fields of arguments mean, and what they keep.
use Rattle.std.specs.Prelude.{◌≡◌, ℤ, pos, ◌≤◌, ◌-◌, ◌++◌, List, take, drop, length, replicate, refl}
use Rattle.std.proofs.Common.{ap, sym, subst, ◌∙◌}
use Rattle.std.proofs.lemmas.List.{length-take-le, take-append-drop}
use Rattle.txn_programs.specs.declared.limits.TheConstants.{MAX_PARAMETERS}
use Rattle.txn_programs.specs.declared.arguments.Arguments.TheInside.{Inside}

abbrev pub given : Inside → List ℤ
given a = take a.count a.values

-- a place behind the last argument holds 0
pub record IsKept (a : Inside) : Type 0 where
  pub few : a.count ≤ MAX_PARAMETERS
  pub whole : length a.values ≡ MAX_PARAMETERS
  pub blank : drop a.count a.values ≡ replicate (MAX_PARAMETERS - a.count) (pos 0)

-- the fields that mean these numbers
abbrev pub fields : List ℤ → Inside
fields xs = record { values = xs ++ replicate (MAX_PARAMETERS - length xs) (pos 0); count = length xs }

-- they are the only ones
pub only_fields : (a : Inside) → IsKept a → fields (given a) ≡ a
only_fields a h =
    let n : length (given a) ≡ a.count = length-take-le a.count a.values (subst (λ k. a.count ≤ k) (sym h.whole) h.few) in
    let rest : given a ++ replicate (MAX_PARAMETERS - a.count) (pos 0) ≡ a.values = ap (λ ys. given a ++ ys) (sym h.blank) ∙ take-append-drop a.count a.values in
    rw (n, rest) refl
