use Rattle.std.proofs.Common.{◌/◌, arith}
use Rattle.book_storage.proofs.Next.{bare_past, next_rest}
use Rattle.book_storage.proofs.level.next_in_word.Goals as goal

pub returns-then-bit-words : goal.returns-then-bit-words
returns-then-bit-words c = bare_past c.args.words.now c.args.bit c.if-bit-words.true

pub returns-then-rest-eq0 : goal.returns-then-rest-eq0
returns-then-rest-eq0 c = c.if-rest-eq0.true

pub returns : goal.returns
returns c =
    next_rest c.args.words.now c.args.bit (omega (arith, c.type_inv.words (c.args.bit / 64))) c.if-rest-eq0.false
