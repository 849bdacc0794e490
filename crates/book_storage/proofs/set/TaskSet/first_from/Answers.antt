use Rattle.std.proofs.Common.{◌/◌, ◌+◌, ◌*◌, ◌≡◌, Bool, List, subst}
use Rattle.std.specs.Prelude.{MatchOption}
use Rattle.book_storage.specs.Levels.{IsBareFrom, IsNextBit, HasNoBitFrom}
use Rattle.book_storage.specs.Members.{HasNoneFrom, IsLowestFrom}
use Rattle.book_storage.proofs.Next.{none_from, next_found, has_none_from, is_lowest_from, lowest_found}
use Rattle.book_storage.proofs.set.TaskSet.first_from.Goals as goal

pub returns-in-Some : goal.returns-in-Some
returns-in-Some c =
    let s = c.self.inside in
    let next : IsNextBit s.numbers.items c.args.number c.in-Some.found = subst (λ (xs : List _). IsNextBit xs c.args.number c.in-Some.found) c.deref.ensures.value c.in-Some.ensures.0 in
    subst (λ (xs : List Bool). IsLowestFrom xs c.args.number c.in-Some.found) c.self.view_is (is_lowest_from s.room s.numbers.items c.args.number c.in-Some.found c.self.invariant.levels.spare next)

pub returns-in_default-next_word : goal.returns-in_default-next_word
returns-in_default-next_word c =
    let s = c.self.inside in
    let bare : IsBareFrom s.numbers.items c.args.number = subst (λ (xs : List _). IsBareFrom xs c.args.number) c.deref.ensures.value c.in_default.ensures in
    let none : HasNoBitFrom s.words.items (c.args.number / 64 + 1) = subst (λ (xs : List _). HasNoBitFrom xs (c.args.number / 64 + 1)) c.deref-2.ensures.value c.in_default-next_word.ensures in
    subst (λ (xs : List Bool). HasNoneFrom xs c.args.number) c.self.view_is (has_none_from s.room s.numbers.items c.args.number (none_from s.words.items s.numbers.items c.args.number c.self.invariant.levels.over_numbers bare none))

pub returns : goal.returns
returns c =
    let s = c.self.inside in
    let w = c.in-Some-next_word.word in
    let numbers = s.numbers.items in
    let bare : IsBareFrom numbers c.args.number = subst (λ (xs : List _). IsBareFrom xs c.args.number) c.deref.ensures.value c.in_default.ensures in
    let next : IsNextBit s.words.items (c.args.number / 64 + 1) w = subst (λ (xs : List _). IsNextBit xs (c.args.number / 64 + 1) w) c.deref-2.ensures.value c.in-Some-next_word.ensures in
    let last : MatchOption c.next_in_word-2.result (IsBareFrom numbers (w * 64)) (λ b. IsNextBit numbers (w * 64) b × (b / 64 ≡ w * 64 / 64)) = subst (λ (xs : List _). MatchOption c.next_in_word-2.result (IsBareFrom xs (w * 64)) (λ b. IsNextBit xs (w * 64) b × (b / 64 ≡ w * 64 / 64))) c.deref-3.ensures.value c.next_in_word-2.ensures in
    subst (λ (xs : List Bool). MatchOption c.next_in_word-2.result (HasNoneFrom xs c.args.number) (IsLowestFrom xs c.args.number)) c.self.view_is
    (lowest_found s.room numbers c.args.number c.next_in_word-2.result c.self.invariant.levels.spare
    (next_found s.words.items numbers c.args.number w c.next_in_word-2.result c.self.invariant.levels.over_numbers bare next last))
