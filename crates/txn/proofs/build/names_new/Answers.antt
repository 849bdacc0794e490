use Rattle.std.proofs.Common.{◌≡◌, ◌∙◌, ap, false, true, not, ◌&&◌, map, sym, string_bytes}
use Rattle.std.proofs.lemmas.Result.{err_from_is_err_and}
use Rattle.txn_programs.specs.Names.{are_distinct}
use Rattle.txn.proofs.Owning.{new_by_parts, none_has, are_apart}
use Rattle.txn.proofs.build.names_new.Goals as goal

pub returns-then-some_known-clause-name : goal.returns-then-some_known-clause-name
returns-then-some_known-clause-name c _ earlier told =
    let names = c.args.names.now in
    let apart : are_apart earlier (map string_bytes names) ≡ false = none_has c.args.places.now earlier told names ∙ ap not (sym c.some_known.ensures ∙ c.if-some_known.true) in
    new_by_parts earlier (map string_bytes names) ∙ ap (λ b. b && are_distinct (map string_bytes names)) apart

pub returns-in_err-places_of-clause-name : goal.returns-in_err-places_of-clause-name
returns-in_err-places_of-clause-name c =
    let names = c.args.names.now in
    let p = err_from_is_err_and c.from_residual-in_err-places_of.result c.from_residual-in_err-places_of.ensures.1 in
    rw (p.1, p.2) (λ e earlier told.
    let apart : are_apart earlier (map string_bytes names) ≡ true = none_has c.args.places.now earlier told names ∙ ap not (sym c.some_known.ensures ∙ c.if-some_known.false) in
    let twice : are_distinct (map string_bytes names) ≡ false = ap are_distinct (sym c.in_ok-copies.ensures) ∙ c.in_err-places_of.ensures.name e in
    new_by_parts earlier (map string_bytes names) ∙ ap (λ b. b && are_distinct (map string_bytes names)) apart ∙ twice)

pub returns-clause-new : goal.returns-clause-new
returns-clause-new c earlier told =
    let names = c.args.names.now in
    let apart : are_apart earlier (map string_bytes names) ≡ true = none_has c.args.places.now earlier told names ∙ ap not (sym c.some_known.ensures ∙ c.if-some_known.false) in
    let once : are_distinct (map string_bytes names) ≡ true = ap are_distinct (sym c.in_ok-copies.ensures) ∙ c.in_ok-places_of.ensures.distinct in
    new_by_parts earlier (map string_bytes names) ∙ ap (λ b. b && are_distinct (map string_bytes names)) apart ∙ once
