use Rattle.std.proofs.Common.{List, [], ap, refl, subst}
use Rattle.std.specs.Prelude.{MatchBool}
use mathlib.Core.List.{IsPrefix}
use lib.Dec.{leb}
use Rattle.stm_service.specs.declared.front.Piece.{Piece}
use Rattle.stm_desk.specs.History.{Begins, History}
use Rattle.stm_service.specs.Pieces.{joined}
use Rattle.stm_service.proofs.Joining.{further}
use Rattle.stm_service.proofs.front.Front.covers.Goals as goal

pub returns : goal.returns
returns g c =
    let m = c.self.inside.count in
    let n = c.other.inside.count in
    let both = c.learn.new.self.log in
    let mine = c.self.inside.seen.log in
    let other = c.other.inside.seen.log in
    let this : IsPrefix mine both = subst (λ (l : List Piece). IsPrefix l both) (ap (λ s. s.log) c.again-both.ensures) c.learn.ensures.2 in
    subst (λ (h : History). MatchBool (leb n m) (Begins h c.args.self.now) (Begins c.args.self.now h)) c.other.view_is
    (subst (λ (h : History). MatchBool (leb n m) (Begins (joined [] other) h) (Begins h (joined [] other))) c.self.view_is
    (further (leb n m) m n mine other both refl c.self.invariant.0 c.other.invariant.0 this c.learn.ensures.3))
