use Rattle.std.proofs.Common.{◌∙◌, ◌&&◌, ap, map, string_bytes}
use Rattle.std.proofs.lemmas.Bool.{and_parts, and_from}
use Rattle.std.proofs.lemmas.Result.{err_from_is_err_and}
use Rattle.txn_programs.specs.Names.{are_distinct}
use Rattle.txn.proofs.Building.{last_false}
use Rattle.txn.proofs.build.declare.Goals as goal

pub returns-in_err-parameters_own-clause-name : goal.returns-in_err-parameters_own-clause-name
returns-in_err-parameters_own-clause-name c =
    let variables = map (λ v. string_bytes v.0) c.args.vars.items in
    let a = are_distinct variables in
    let u = are_distinct (map (λ t. string_bytes t.name) c.args.tables.now) in
    let b = are_distinct (map (λ a. string_bytes a.0) c.args.always.now) in
    let d = are_distinct (map (λ t. string_bytes t.name) c.args.txs.now) in
    let p = err_from_is_err_and c.from_residual-in_err-parameters_own.result c.from_residual-in_err-parameters_own.ensures.1 in
    rw (p.1, p.2) (λ e. ap (λ own. a && (u && (b && (d && own)))) (c.in_err-parameters_own.ensures.name e variables c.in_ok-names.ensures.places) ∙ last_false a u b d)

pub returns-clause-distinct : goal.returns-clause-distinct
returns-clause-distinct c =
    let variables = map (λ v. string_bytes v.0) c.args.vars.items in
    let others = and_parts (are_distinct (map (λ a. string_bytes a.0) c.args.always.now)) (are_distinct (map (λ t. string_bytes t.name) c.args.txs.now)) c.in_ok-always_places.ensures.distinct in
    let own = c.in_ok-parameters_own.ensures.own variables c.in_ok-names.ensures.places in
    and_from _ _ c.in_ok-names.ensures.distinct (and_from _ _ c.in_ok-table_places.ensures.distinct (and_from _ _ others.0 (and_from _ _ others.1 own)))
