-- What is known of a catalogue's conditions.
use Rattle.std.proofs.Common.{◌≡◌, ◌≤◌, ◌^◌, true, List, map, length, sym, ◌∙◌, ap, arith, String, Global, string_bytes}
use Rattle.std.proofs.lemmas.List.{length-map}
use Rattle.std.proofs.lemmas.Simd.{map-map}
use Rattle.txn_programs.specs.declared.ast.Cond.{Cond}
use Rattle.txn_programs.specs.Tree.{condition_of}
use Rattle.txn_programs.specs.Listing.{Listing, conditions, values}
use Rattle.txn_programs.specs.Limits.{limits_hold}
use Rattle.txn_programs.specs.Names.{names_hold}
use Rattle.txn_programs.specs.Scope.{ConditionsKnown}
use Rattle.txn_programs.proofs.Lawful.{limits_parts, standing_known}
use Rattle.txn_evaluator.specs.Always.{conditions_of}

module _ (l : Listing) (always : List (String Global × Cond)) (e : map (λ a. (string_bytes a.0, condition_of a.1)) always ≡ l.always) where
  pub same_conditions : conditions_of always ≡ conditions l
  same_conditions = sym (map-map (λ a. a.1) (λ a. (string_bytes a.0, condition_of a.1)) always) ∙ ap (map (λ a. a.1)) e

  -- each has a number
  pub numbered_conditions : limits_hold l ≡ true → length always ≤ 2 ^ 32
  numbered_conditions h =
      let few = (limits_parts l h).conditions_few in
      let same : length l.always ≡ length always = ap length (sym e) ∙ length-map always (λ a. (string_bytes a.0, condition_of a.1)) in
      omega (arith, same, few)

-- the conditions name only variables and cells of the listing
pub conditions_known : (l : Listing) → names_hold l ≡ true → ConditionsKnown (values l) (conditions l)
conditions_known l h = standing_known l h
