use Rattle.std.proofs.Common.{◌≡◌, false, map, ◌∙◌}
use Rattle.std.specs.List.{list_all}
use Rattle.text_resolver.specs.Parts.{view_condition, view_parts}
use Rattle.explain_files.proofs.Costly.{known_conditions, true_of, untrue_conditions}
use Rattle.explain_files.proofs.declarations.untrue.Goals as goal

pub first_untrue-requires-clause-known : goal.first_untrue-requires-clause-known
first_untrue-requires-clause-known c =
    let parts = c.args.parts.now in
    let state : c.as_slice.result.now ≡ (view_parts parts).initial = c.as_slice.ensures.value ∙ c.in_ok-state.ensures in
    let always : c.deref.result.now ≡ parts.always.items = c.deref.ensures.value in
    rw (state, always) (known_conditions _ parts.always.items c.requires.known)

pub first_untrue-requires-clause-untrue : goal.first_untrue-requires-clause-untrue
first_untrue-requires-clause-untrue c =
    let parts = c.args.parts.now in
    let state : c.as_slice.result.now ≡ (view_parts parts).initial = c.as_slice.ensures.value ∙ c.in_ok-state.ensures in
    let always : c.deref.result.now ≡ parts.always.items = c.deref.ensures.value in
    let some : list_all (true_of c.as_slice.result.now) (map view_condition c.deref.result.now) ≡ false = rw (state, always) (untrue_conditions _ (map view_condition parts.always.items) c.requires.untrue) in
    some
