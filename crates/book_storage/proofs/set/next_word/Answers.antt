use Rattle.std.proofs.Common.{◌+◌, ◌/◌}
use Rattle.book_storage.proofs.Next.{none_from, next_found, none_in_one}
use Rattle.book_storage.proofs.set.next_word.Goals as goal

pub returns-in-Some : goal.returns-in-Some
returns-in-Some c = c.in-Some.ensures.0

pub returns-in_default-next_in_word : goal.returns-in_default-next_in_word
returns-in_default-next_in_word c =
    none_from c.args.top.now c.args.words.now c.args.word c.requires.over c.in_default.ensures
    (none_in_one c.args.top.now (c.args.word / 64 + 1) c.requires.one c.in_default-next_in_word.ensures)

pub returns : goal.returns
returns c =
    next_found c.args.top.now c.args.words.now c.args.word c.in-Some-next_in_word.row c.next_in_word-3.result c.requires.over c.in_default.ensures c.in-Some-next_in_word.ensures.0 c.next_in_word-3.ensures
