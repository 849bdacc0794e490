use Rattle.std.proofs.Common.{ℕ, Bool, List, subst}
use Rattle.book_storage.specs.Levels.{IsFirstBit}
use Rattle.book_storage.specs.Members.{IsLowest, HasNone}
use Rattle.book_storage.proofs.Flags.{is_lowest}
use Rattle.book_storage.proofs.Kept.{none_on_top}
use Rattle.book_storage.proofs.set.TaskSet.lowest.Goals as goal

pub returns-then-self-eq0 : goal.returns-then-self-eq0
returns-then-self-eq0 c =
    let s = c.self.inside in
    subst HasNone c.self.view_is (none_on_top s.room s.numbers.items s.words.items s.top c.self.invariant.levels c.if-self-eq0.true)

pub returns : goal.returns
returns c =
    let s = c.self.inside in
    let found : IsFirstBit s.numbers.items c.first.result = subst (λ (xs : List ℕ). IsFirstBit xs c.first.result) c.deref-2.ensures.value c.first.ensures in
    subst (λ (xs : List Bool). IsLowest xs c.first.result) c.self.view_is (is_lowest s.room s.numbers.items c.first.result c.self.invariant.levels.spare found)
