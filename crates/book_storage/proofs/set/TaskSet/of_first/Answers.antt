use Rattle.std.proofs.Common.{◌≡◌, ◌-◌, ◌^◌, ◌≤◌, [], ◌∷◌, length, ◌∙◌, ap, subst, arith}
use Rattle.std.specs.Int.{div_ceil}
use Rattle.book_storage.specs.Levels.{AreFirst}
use Rattle.book_storage.proofs.First.{one_first, levels_first, flags_first}
use Rattle.book_storage.proofs.set.TaskSet.of_first.Goals as goal

pub invariant_of-result : goal.invariant_of-result
invariant_of-result c =
    let count = c.args.count in
    let room = c.args.room in
    let numbers = c.in_ok-numbers.numbers.items in
    let words = c.reach.new.words.items in
    let rows : c.div_ceil-3.result ≡ div_ceil room 64 = c.div_ceil-3.ensures in
    let words_len : length words ≡ div_ceil (div_ceil room 64) 64 = omega (arith, c.reach.ensures.reached, c.reach.ensures.no_longer, c.in_ok-words.ensures.len, c.div_ceil.ensures, rows, c.requires.count) in
    let words_first : AreFirst (div_ceil count 64) words = λ w. c.reach.ensures.same w ∙ subst (λ k. AreFirst k c.in_ok-words.words.items) c.div_ceil.ensures c.in_ok-words.ensures.first w in
    let tops : c.div_ceil-5.result ≡ div_ceil (div_ceil count 64) 64 = c.div_ceil-5.ensures ∙ ap (λ k. div_ceil k 64) c.div_ceil-4.ensures in
    let few : div_ceil (div_ceil count 64) 64 ≤ 64 = omega (arith, c.requires.count, c.requires.room) in
    let top : AreFirst (div_ceil (div_ceil count 64) 64) (c.lowest_bits-top.result ∷ []) =
    one_first (div_ceil (div_ceil count 64) 64) c.lowest_bits-top.result few (c.lowest_bits-top.ensures ∙ ap (λ k. 2 ^ k - 1) tops) in
    record {
      levels = levels_first count room numbers words c.lowest_bits-top.result c.requires.count c.requires.room c.in_ok-numbers.ensures.len words_len c.in_ok-numbers.ensures.first words_first top;
      numbers_room = c.in_ok-numbers.ensures.room;
    }

pub returns : goal.returns
returns c =
    flags_first c.args.count c.args.room c.in_ok-numbers.numbers.items c.requires.count c.in_ok-numbers.ensures.first
