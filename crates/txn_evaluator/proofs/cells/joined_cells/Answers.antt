use Rattle.std.proofs.Common.{◌≡◌, ◌+◌, ◌∙◌, sym, ap, to_z, of_z, w64, Ok, Err, rules}
use Rattle.txn_programs.specs.declared.ast.VarId.{VarId}
use Rattle.txn_programs.specs.Meaning.{value_at}
use Rattle.txn_programs.specs.Tables.{joined}
use Rattle.txn_evaluator.proofs.Joining.{cells_from, next_cell, last_cell}
use Rattle.txn_evaluator.proofs.cells.joined_cells.Goals as goal

pub returns-in_err-all : goal.returns-in_err-all
returns-in_err-all c =
    let f = c.args.fold in
    let m = c.args.state.now in
    let x : VarId = record { 0 = c.loop-place.place } in
    let before = to_z w64 c.loop-place.all-bits in
    let read : to_z w64 (of_z w64 (value_at m x)) ≡ value_at m x = search rules in
    let fault = c.in_err-all.field-0.0 in
    let failed : joined f before (value_at m x) ≡ Err fault = sym (c.in_err-all.ensures ∙ ap (joined f before) read) in
    let told : c.from_residual.result ≡ Err fault = search rules in
    told ∙ sym (last_cell f m (c.args.table.first + c.args.table.length) x.0 before (search rules) fault failed) ∙ c.loop-place.invariant.rest

pub loop-place-preserved : goal.loop-place-preserved
loop-place-preserved c =
    let f = c.args.fold in
    let m = c.args.state.now in
    let x : VarId = record { 0 = c.loop-place.place } in
    let before = to_z w64 c.loop-place.all-bits in
    let read : to_z w64 (of_z w64 (value_at m x)) ≡ value_at m x = search rules in
    let now = c.in_ok-all.all in
    let went : joined f before (value_at m x) ≡ Ok now = sym (c.in_ok-all.ensures ∙ ap (joined f before) read) in
    let same : to_z w64 (of_z w64 now) ≡ now = search rules in
    let end = c.args.table.first + c.args.table.length in
    record {
      rest = ap (cells_from f m end (x.0 + 1)) same ∙ sym (next_cell f m end x.0 before (search rules) now went) ∙ c.loop-place.invariant.rest;
      long = c.loop-place.invariant.long;
    }
