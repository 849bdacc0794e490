use Rattle.std.proofs.Common.{Bool, List, Some, length, sym, ◌∙◌, ap, arith}
use Rattle.std.specs.List.{slice_get}
use Rattle.book_storage.specs.Levels.{has}
use Rattle.book_storage.proofs.Flags.{flag_get, past_words}
use Rattle.book_storage.proofs.Kept.{room_of}
use Rattle.book_storage.proofs.set.TaskSet.contains.Goals as goal

pub has-requires : goal.has-requires
has-requires c =
    omega (arith, c.if-number-len.false, c.len.ensures, c.self.inside.numbers.ok.0, ap length c.deref.ensures.value)

pub returns-then-number-len : goal.returns-then-number-len
returns-then-number-len c =
    let s = c.self.inside in
    let k = c.args.number in
    let h = room_of s.room k s.numbers.items c.args.self.now c.self.view_is c.requires in
    ap (λ (xs : List Bool). slice_get xs k) (sym c.self.view_is)
    ∙ (flag_get s.room s.numbers.items k h ∙ ap Some (past_words s.numbers.items k (omega (arith, c.if-number-len.true, c.len.ensures, s.numbers.ok.0))))

pub returns : goal.returns
returns c =
    let s = c.self.inside in
    let h = room_of s.room c.args.number s.numbers.items c.args.self.now c.self.view_is c.requires in
    ap (λ (xs : List Bool). slice_get xs c.args.number) (sym c.self.view_is)
    ∙ (flag_get s.room s.numbers.items c.args.number h
    ∙ ap Some (ap (λ (xs : List _). has xs c.args.number) (sym c.deref.ensures.value) ∙ sym c.has.ensures))
