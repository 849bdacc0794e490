use Rattle.std.proofs.Common.{refl}
use Rattle.book.proofs.PlainKept.{same_kept}
use Rattle.book.proofs.book.Book.keep.Goals as goal

pub invariant_of-self : goal.invariant_of-self
invariant_of-self c = same_kept c.self.inside c.self.inside.chapter c.self.inside.present _ refl refl refl refl c.self.invariant
