use Rattle.std.proofs.Common.{◌≡◌, ◌*◌, ◌<◌, ◌≤◌, ℕ, Bool, true, List, length, set, sym, ◌∙◌, ap, subst, arith, ◌/◌}
use Rattle.std.specs.Vec.{with_items}
use Rattle.std.proofs.lemmas.List.{with_items_is}
use Rattle.book_storage.specs.Levels.{with_bit}
use Rattle.book_storage.specs.SetInside.{AreLevels, flags}
use Rattle.book_storage.proofs.Rows.{length_with_bit, has_alike}
use Rattle.book_storage.proofs.Flags.{flags_with, flags_alike}
use Rattle.book_storage.proofs.Kept.{places, room_of, levels_with, levels_reached}
use Rattle.book_storage.proofs.set.TaskSet.insert.Goals as goal

pub overflow_add-number : goal.overflow_add-number
overflow_add-number c =
    let s = c.self.inside in
    let kept = c.self.invariant.levels in
    let h = room_of s.room c.args.number s.numbers.items c.args.self.now c.self.view_is c.requires in
    omega (arith, h, kept.room_fits, kept.top_fits, kept.one)

pub reach-requires : goal.reach-requires
reach-requires c =
    let s = c.self.inside in
    let h = room_of s.room c.args.number s.numbers.items c.args.self.now c.self.view_is c.requires in
    omega (arith, h, c.self.invariant.numbers_room)

pub set-requires : goal.set-requires
set-requires c = omega (arith, c.reach.ensures.reached, ap length c.deref_mut.ensures.value)

pub set-requires-2 : goal.set-requires-2
set-requires-2 c =
    let s = c.self.inside in
    let h = room_of s.room c.args.number s.numbers.items c.args.self.now c.self.view_is c.requires in
    let at = places s.room s.numbers.items s.words.items s.top c.args.number c.self.invariant.levels h in
    omega (arith, at.0, ap length c.deref_mut-2.ensures.value)

pub set-requires-3 : goal.set-requires-3
set-requires-3 c =
    let s = c.self.inside in
    let h = room_of s.room c.args.number s.numbers.items c.args.self.now c.self.view_is c.requires in
    let at = places s.room s.numbers.items s.words.items s.top c.args.number c.self.invariant.levels h in
    at.1

pub invariant_of-self : goal.invariant_of-self
invariant_of-self c =
    let s = c.self.inside in
    let k = c.args.number in
    let kept = c.self.invariant.levels in
    let h = room_of s.room k s.numbers.items c.args.self.now c.self.view_is c.requires in
    let numbers = c.reach.new.words.items in
    let here : k / 64 < length numbers = omega (arith, c.reach.ensures.reached) in
    let fits : length numbers ≤ length s.words.items * 64 = omega (arith, c.reach.ensures.no_longer, kept.words_fit, kept.room_fits, h) in
    let reached = levels_reached s.room s.numbers.items numbers s.words.items s.top kept c.reach.ensures.same fits in
    let set_low : c.set.new.words ≡ with_bit numbers k = c.set.ensures ∙ ap (λ (xs : List ℕ). with_bit xs k) c.deref_mut.ensures.value in
    let low : (with_items c.reach.new.words c.set.new.words).items ≡ with_bit numbers k =
    with_items_is c.reach.new.words c.set.new.words (omega (arith, ap length set_low, length_with_bit numbers k, c.deref_mut.ensures.len, ap length c.deref_mut.ensures.value)) ∙ set_low in
    let set_middle : c.set-2.new.words ≡ with_bit s.words.items (k / 64) = c.set-2.ensures ∙ ap (λ (xs : List ℕ). with_bit xs (k / 64)) c.deref_mut-2.ensures.value in
    let middle : (with_items s.words c.set-2.new.words).items ≡ with_bit s.words.items (k / 64) =
    with_items_is s.words c.set-2.new.words (omega (arith, ap length set_middle, length_with_bit s.words.items (k / 64), c.deref_mut-2.ensures.len, ap length c.deref_mut-2.ensures.value)) ∙ set_middle in
    record {
      levels = subst (λ (xs : List ℕ). AreLevels s.room xs (with_items s.words c.set-2.new.words).items c.set-3.new.words) (sym low)
          (subst (λ (xs : List ℕ). AreLevels s.room (with_bit numbers k) xs c.set-3.new.words) (sym middle)
          (subst (λ (xs : List ℕ). AreLevels s.room (with_bit numbers k) (with_bit s.words.items (k / 64)) xs) (sym c.set-3.ensures)
          (levels_with s.room numbers s.words.items s.top k reached h here)));
      numbers_room = omega (arith, c.self.invariant.numbers_room, c.reach.ensures.capacity);
    }

pub returns : goal.returns
returns c =
    let s = c.self.inside in
    let k = c.args.number in
    let h = room_of s.room k s.numbers.items c.args.self.now c.self.view_is c.requires in
    let numbers = c.reach.new.words.items in
    let here : k / 64 < length numbers = omega (arith, c.reach.ensures.reached) in
    let set_low : c.set.new.words ≡ with_bit numbers k = c.set.ensures ∙ ap (λ (xs : List ℕ). with_bit xs k) c.deref_mut.ensures.value in
    let low : (with_items c.reach.new.words c.set.new.words).items ≡ with_bit numbers k =
    with_items_is c.reach.new.words c.set.new.words (omega (arith, ap length set_low, length_with_bit numbers k, c.deref_mut.ensures.len, ap length c.deref_mut.ensures.value)) ∙ set_low in
    ap (λ (xs : List ℕ). flags s.room xs) low
    ∙ (flags_with s.room numbers k h here
    ∙ ap (λ (xs : List Bool). set xs k true) (flags_alike s.room numbers s.numbers.items (has_alike numbers s.numbers.items c.reach.ensures.same) ∙ c.self.view_is))
