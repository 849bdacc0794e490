use Rattle.std.proofs.Common.{rules, ◌≡◌, ◌+◌, ◌*◌, arith, length, replicate}
use Rattle.std.specs.Int.{w64, cast_signed}
use Rattle.std.proofs.lemmas.Int.{to_z-of_z}
use Rattle.txn_words.specs.Words.{state_value}
use Rattle.cells.proofs.Starts.{first_blank, first_more}
use Rattle.cells.proofs.opening.first_words.Goals as goal

pub loop-x-init : goal.loop-x-init
loop-x-init c =
    let m = c.args.values.now in
    let zero : c.in_ok-words.words.items ≡ replicate (2 * length m + 1) 0 = search rules in
    first_blank m c.in_ok-words.words.items zero

pub index_mut-requires : goal.index_mut-requires
index_mut-requires c =
    let wide = c.loop-x.invariant.wide in let low = c.loop-x-test.true in let valid = c.loop-x.words.ok in omega arith

pub loop-x-preserved : goal.loop-x-preserved
loop-x-preserved c =
    let m = c.args.values.now in let k = c.loop-x.x in
    let is : cast_signed w64 c.cast_unsigned.result ≡ state_value m k = grind (arith, to_z-of_z) in
    first_more m c.loop-x.words.items k c.cast_unsigned.result (omega arith) c.loop-x.invariant is
