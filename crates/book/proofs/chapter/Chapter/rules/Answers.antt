use Rattle.std.proofs.Common.{◌≡◌, true, subst, arith}
use Rattle.txn_programs.specs.Names.{names_hold}
use Rattle.txn_programs.specs.Limits.{limits_hold}
use Rattle.book.specs.Chapters.{ChapterView}
use Rattle.book.specs.ChapterInside.{initial_of}
use Rattle.book.proofs.Listings.{names_listed, limits_listed}
use Rattle.book.proofs.chapter.Chapter.rules.Goals as goal

pub returns-clause-names : goal.returns-clause-names
returns-clause-names c =
    let s = c.self.inside in
    subst (λ (v : ChapterView). names_hold v.listing ≡ true) c.self.view_is
    (names_listed s.is_first s.opened.now (initial_of s) s.calls.calls c.rules.ensures.names c.self.invariant.known)

pub returns-clause-limits : goal.returns-clause-limits
returns-clause-limits c =
    let s = c.self.inside in
    let k = c.self.invariant in
    subst (λ (v : ChapterView). limits_hold v.listing ≡ true) c.self.view_is
    (limits_listed s.is_first s.opened.now (initial_of s) s.calls.calls c.rules.ensures.limits k.listed (omega (arith, k.within, k.few)))
