use Rattle.std.proofs.Common.{◌≡◌, ◌*◌, ℕ, Bool, List, get_or, sym, ◌∙◌, subst}
use Rattle.std.proofs.lemmas.Grind.{get_or_default_zero}
use Rattle.book_storage.specs.Levels.{IsFirstBit, IsFirstWord}
use Rattle.book_storage.specs.Members.{HasNone, IsLowestWord}
use Rattle.book_storage.specs.SetInside.{flags}
use Rattle.book_storage.proofs.Above.{first_word}
use Rattle.book_storage.proofs.Kept.{none_on_top}
use Rattle.book_storage.proofs.Rows.{word_within}
use Rattle.book_storage.proofs.Words.{lowest_word}
use Rattle.book_storage.proofs.set.TaskSet.lowest_word.Goals as goal

pub returns-then-self-eq0 : goal.returns-then-self-eq0
returns-then-self-eq0 c =
    let s = c.self.inside in
    subst HasNone c.self.view_is (none_on_top s.room s.numbers.items s.words.items s.top c.self.invariant.levels c.if-self-eq0.true)

pub returns : goal.returns
returns c =
    let s = c.self.inside in
    let numbers = s.numbers.items in
    let w = c.first-word.result in
    let found : IsFirstBit s.words.items w = subst (λ (xs : List ℕ). IsFirstBit xs w) c.deref.ensures.value c.first-word.ensures in
    let first : IsFirstWord numbers w = first_word s.words.items numbers w c.self.invariant.levels.over_numbers found in
    let word : c.index.result.now ≡ get_or numbers w 0 = c.index.ensures ∙ get_or_default_zero numbers w c.index.result.now (word_within numbers w first.here) in
    subst (λ (set : List Bool). IsLowestWord set (w * 64) c.index.result.now) c.self.view_is
    (subst (λ (x : ℕ). IsLowestWord (flags s.room numbers) (w * 64) x) (sym word) (lowest_word s.room numbers w c.self.invariant.levels.spare first))
