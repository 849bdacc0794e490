use Rattle.std.proofs.Common.{get_or, arith}
use Rattle.std.proofs.lemmas.Nat.{trailing_le}
use Rattle.book_storage.proofs.Rows.{first_bit, word_within}
use Rattle.book_storage.proofs.level.first.Goals as goal

pub overflow_add-result : goal.overflow_add-result
overflow_add-result c =
    let words = c.args.words.now in
    let word = c.args.word in
    let low = word_within words word c.requires.first.here in
    omega (arith, low, c.requires.few, trailing_le 64 (get_or words word 0))

pub returns : goal.returns
returns c = first_bit c.args.words.now c.args.word c.requires.first (omega (arith, c.type_inv.words c.args.word))
