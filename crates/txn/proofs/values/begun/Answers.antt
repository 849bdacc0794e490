use Rattle.std.proofs.Common.{◌≡◌, ◌∙◌, ap, sym, true, false}
use Rattle.txn_programs.specs.Listing.{Listing, listing_of}
use Rattle.txn_programs.specs.Names.{names_hold}
use Rattle.txn_programs.specs.Limits.{limits_hold}
use Rattle.txn_programs.specs.Standing.{upholds}
use Rattle.txn.specs.Values.{begun}
use Rattle.txn.proofs.Beginning.{names_begun, limits_begun, begun_is}
use Rattle.txn.proofs.Standing.{upheld_passes}
use Rattle.txn.proofs.values.begun.Goals as goal
use Rattle.txn.proofs.values.begun.Goals.{After-drop-parts-2}

is : (c : After-drop-parts-2) → listing_of c.in-Ok.parts.vars.items c.in-Ok.parts.tables.items c.in-Ok.parts.always.items c.in-Ok.parts.txs.items c.in-Ok-runs_with.runs.items ≡ begun c.args.catalogue.now c.args.values.now c.args.calls.now
is c = begun_is c.args.catalogue.now _ c.args.values.now c.args.calls.now c.in-Ok-runs_with.runs.items c.in-Ok.ensures c.in-Ok-runs_with.ensures

pub built-requires-clause-names : goal.built-requires-clause-names
built-requires-clause-names c = ap names_hold (is c) ∙ names_begun c.args.catalogue.now c.args.values.now c.args.calls.now c.rules.ensures.names c.requires.known

pub built-requires-clause-limits : goal.built-requires-clause-limits
built-requires-clause-limits c = ap limits_hold (is c) ∙ limits_begun c.args.catalogue.now c.args.values.now c.args.calls.now c.rules.ensures.limits c.requires.few

pub unreachable-requires-in-Err-Broken : goal.unreachable-requires-in-Err-Broken
unreachable-requires-in-Err-Broken c =
    let no : upholds c.args.catalogue.now c.args.values.now ≡ false = sym (ap (λ (x : Listing). upholds x x.initial) (begun_is c.args.catalogue.now _ c.args.values.now c.args.calls.now c.in-Ok-runs_with.runs.items c.in-Ok.ensures c.in-Ok-runs_with.ensures)) ∙ c.in-Err-Broken.ensures.broken c.in-Err-Broken.field-0-is in
    let yes : upholds c.args.catalogue.now c.args.values.now ≡ true = upheld_passes c.args.catalogue.now c.args.values.now c.requires.upheld in
    cc
