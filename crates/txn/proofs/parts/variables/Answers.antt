use Rattle.std.proofs.Common.{◌≡◌, ◌∙◌, ◌++◌, ◌+◌, ℕ, ℤ, List, [], ◌∷◌, map, drop, Some, ap, sym, refl, pos, string_bytes, String, Global}
use Rattle.std.proofs.lemmas.Option.{slice_get-get_or}
use Rattle.txn.proofs.Moved.{moved}
use Rattle.txn.proofs.parts.variables.Goals as goal

abbrev pair_name : String Global × ℤ → List ℕ
pair_name v = string_bytes v.0

abbrev pair_value : String Global × ℤ → ℤ
pair_value v = v.1

pub vars-preserved : goal.vars-preserved
vars-preserved c =
    let names = c.args.catalogue.now.names in
    let values = c.args.values.now in
    let i = c.vars.i in
    let made = c.vars.made.items in
    let v = c.in_ok-variable.variable in
    let pushed : c.push.new.self.items ≡ made ++ v ∷ [] = c.in_ok-push.ensures.items in
    record {
      names = ap (λ xs. map pair_name xs ++ drop (i + 1) names) pushed
          ∙ moved pair_name made names i v c.var_name.result.now names c.var_name.ensures c.in_ok-variable.ensures.name c.vars.invariant.names;
      values = ap (λ xs. map pair_value xs ++ drop (i + 1) values) pushed
          ∙ moved pair_value made values i v v.1 values (slice_get-get_or values i (pos 0) c.vars-test.true ∙ ap (λ (z : ℤ). Some z) (sym c.in_ok-variable.ensures.value)) refl c.vars.invariant.values;
    }
