use Rattle.std.proofs.Common.{◌≡◌, ◌≢◌, ℕ, Bool, false, List, length, get_or, set, sym, ◌∙◌, ap, subst, arith, ◌/◌, ◌<◌}
use Rattle.std.proofs.lemmas.Bool.{eqb-true, eqb-false}
use Rattle.std.specs.Vec.{with_items}
use Rattle.std.proofs.lemmas.List.{with_items_is}
use Rattle.book_storage.specs.Levels.{without_bit}
use Rattle.book_storage.specs.SetInside.{AreLevels, flags}
use Rattle.book_storage.proofs.Rows.{length_without_bit}
use Rattle.book_storage.proofs.Flags.{flags_without, flags_unset}
use Rattle.book_storage.proofs.Kept.{places, room_of, levels_one, levels_two, levels_three}
use Rattle.book_storage.proofs.set.TaskSet.remove.Goals as goal

pub returns-then-number-len : goal.returns-then-number-len
returns-then-number-len c =
    let s = c.self.inside in
    let k = c.args.number in
    let h = room_of s.room k s.numbers.items c.args.self.now c.self.view_is c.requires in
    sym c.self.view_is
    ∙ (flags_unset s.room s.numbers.items k h (omega (arith, c.if-number-len.true, c.len.ensures, s.numbers.ok.0)) ∙ ap (λ (xs : List Bool). set xs k false) c.self.view_is)

pub clear-requires : goal.clear-requires
clear-requires c =
    omega (arith, c.if-number-len.false, c.len.ensures, c.self.inside.numbers.ok.0, ap length c.deref_mut.ensures.value)

pub clear-requires-2 : goal.clear-requires-2
clear-requires-2 c =
    let s = c.self.inside in
    let k = c.args.number in
    let h = room_of s.room k s.numbers.items c.args.self.now c.self.view_is c.requires in
    let at = places s.room s.numbers.items s.words.items s.top k c.self.invariant.levels h in
    omega (arith, at.0, ap length c.deref_mut-2.ensures.value)

pub clear-requires-3 : goal.clear-requires-3
clear-requires-3 c =
    let s = c.self.inside in
    let k = c.args.number in
    let h = room_of s.room k s.numbers.items c.args.self.now c.self.view_is c.requires in
    let at = places s.room s.numbers.items s.words.items s.top k c.self.invariant.levels h in
    omega (arith, at.1)

pub invariant_of-self : goal.invariant_of-self
invariant_of-self c =
    let s = c.self.inside in
    let k = c.args.number in
    let h = room_of s.room k s.numbers.items c.args.self.now c.self.view_is c.requires in
    let here : k / 64 < length s.numbers.items = omega (arith, c.if-number-len.false, c.len.ensures, s.numbers.ok.0) in
    let cleared : c.clear.new.words ≡ without_bit s.numbers.items k = c.clear.ensures.cleared ∙ ap (λ (xs : List ℕ). without_bit xs k) c.deref_mut.ensures.value in
    let low : (with_items s.numbers c.clear.new.words).items ≡ without_bit s.numbers.items k =
    with_items_is s.numbers c.clear.new.words (omega (arith, ap length cleared, length_without_bit s.numbers.items k, c.deref_mut.ensures.len, ap length c.deref_mut.ensures.value)) ∙ cleared in
    let left : get_or (without_bit s.numbers.items k) (k / 64) 0 ≢ 0 = λ e. eqb-false _ _ (sym c.clear.ensures.empty ∙ c.if-not-clear.true) (ap (λ (xs : List ℕ). get_or xs (k / 64) 0) cleared ∙ e) in
    record {
      levels = subst (λ (xs : List ℕ). AreLevels s.room xs s.words.items s.top) (sym low)
          (levels_one s.room s.numbers.items s.words.items s.top k c.self.invariant.levels h here left);
      numbers_room = c.self.invariant.numbers_room;
    }

pub invariant_of-self-then-not-clear-2 : goal.invariant_of-self-then-not-clear-2
invariant_of-self-then-not-clear-2 c =
    let s = c.self.inside in
    let k = c.args.number in
    let h = room_of s.room k s.numbers.items c.args.self.now c.self.view_is c.requires in
    let here : k / 64 < length s.numbers.items = omega (arith, c.if-number-len.false, c.len.ensures, s.numbers.ok.0) in
    let cleared : c.clear.new.words ≡ without_bit s.numbers.items k = c.clear.ensures.cleared ∙ ap (λ (xs : List ℕ). without_bit xs k) c.deref_mut.ensures.value in
    let low : (with_items s.numbers c.clear.new.words).items ≡ without_bit s.numbers.items k =
    with_items_is s.numbers c.clear.new.words (omega (arith, ap length cleared, length_without_bit s.numbers.items k, c.deref_mut.ensures.len, ap length c.deref_mut.ensures.value)) ∙ cleared in
    let cleared_middle : c.clear-2.new.words ≡ without_bit s.words.items (k / 64) = c.clear-2.ensures.cleared ∙ ap (λ (xs : List ℕ). without_bit xs (k / 64)) c.deref_mut-2.ensures.value in
    let middle : (with_items s.words c.clear-2.new.words).items ≡ without_bit s.words.items (k / 64) =
    with_items_is s.words c.clear-2.new.words (omega (arith, ap length cleared_middle, length_without_bit s.words.items (k / 64), c.deref_mut-2.ensures.len, ap length c.deref_mut-2.ensures.value)) ∙ cleared_middle in
    let gone : get_or (without_bit s.numbers.items k) (k / 64) 0 ≡ 0 = ap (λ (xs : List ℕ). get_or xs (k / 64) 0) (sym cleared) ∙ eqb-true _ _ (sym c.clear.ensures.empty ∙ c.if-not-clear.false) in
    let left : get_or (without_bit s.words.items (k / 64)) (k / 64 / 64) 0 ≢ 0 = λ e. eqb-false _ _ (sym c.clear-2.ensures.empty ∙ c.if-not-clear-2.true) (ap (λ (xs : List ℕ). get_or xs (k / 64 / 64) 0) cleared_middle ∙ e) in
    record {
      levels = subst (λ (xs : List ℕ). AreLevels s.room xs (with_items s.words c.clear-2.new.words).items s.top) (sym low)
          (subst (λ (xs : List ℕ). AreLevels s.room (without_bit s.numbers.items k) xs s.top) (sym middle)
          (levels_two s.room s.numbers.items s.words.items s.top k c.self.invariant.levels h here gone left));
      numbers_room = c.self.invariant.numbers_room;
    }

pub invariant_of-self-2 : goal.invariant_of-self-2
invariant_of-self-2 c =
    let s = c.self.inside in
    let k = c.args.number in
    let h = room_of s.room k s.numbers.items c.args.self.now c.self.view_is c.requires in
    let here : k / 64 < length s.numbers.items = omega (arith, c.if-number-len.false, c.len.ensures, s.numbers.ok.0) in
    let cleared : c.clear.new.words ≡ without_bit s.numbers.items k = c.clear.ensures.cleared ∙ ap (λ (xs : List ℕ). without_bit xs k) c.deref_mut.ensures.value in
    let low : (with_items s.numbers c.clear.new.words).items ≡ without_bit s.numbers.items k =
    with_items_is s.numbers c.clear.new.words (omega (arith, ap length cleared, length_without_bit s.numbers.items k, c.deref_mut.ensures.len, ap length c.deref_mut.ensures.value)) ∙ cleared in
    let cleared_middle : c.clear-2.new.words ≡ without_bit s.words.items (k / 64) = c.clear-2.ensures.cleared ∙ ap (λ (xs : List ℕ). without_bit xs (k / 64)) c.deref_mut-2.ensures.value in
    let middle : (with_items s.words c.clear-2.new.words).items ≡ without_bit s.words.items (k / 64) =
    with_items_is s.words c.clear-2.new.words (omega (arith, ap length cleared_middle, length_without_bit s.words.items (k / 64), c.deref_mut-2.ensures.len, ap length c.deref_mut-2.ensures.value)) ∙ cleared_middle in
    let gone : get_or (without_bit s.numbers.items k) (k / 64) 0 ≡ 0 = ap (λ (xs : List ℕ). get_or xs (k / 64) 0) (sym cleared) ∙ eqb-true _ _ (sym c.clear.ensures.empty ∙ c.if-not-clear.false) in
    let both : get_or (without_bit s.words.items (k / 64)) (k / 64 / 64) 0 ≡ 0 = ap (λ (xs : List ℕ). get_or xs (k / 64 / 64) 0) (sym cleared_middle) ∙ eqb-true _ _ (sym c.clear-2.ensures.empty ∙ c.if-not-clear-2.false) in
    record {
      levels = subst (λ (xs : List ℕ). AreLevels s.room xs (with_items s.words c.clear-2.new.words).items c.clear-3.new.words) (sym low)
          (subst (λ (xs : List ℕ). AreLevels s.room (without_bit s.numbers.items k) xs c.clear-3.new.words) (sym middle)
          (subst (λ (xs : List ℕ). AreLevels s.room (without_bit s.numbers.items k) (without_bit s.words.items (k / 64)) xs) (sym c.clear-3.ensures.cleared)
          (levels_three s.room s.numbers.items s.words.items s.top k c.self.invariant.levels h here gone both)));
      numbers_room = c.self.invariant.numbers_room;
    }

pub returns : goal.returns
returns c =
    let s = c.self.inside in
    let k = c.args.number in
    let h = room_of s.room k s.numbers.items c.args.self.now c.self.view_is c.requires in
    let here : k / 64 < length s.numbers.items = omega (arith, c.if-number-len.false, c.len.ensures, s.numbers.ok.0) in
    let cleared : c.clear.new.words ≡ without_bit s.numbers.items k = c.clear.ensures.cleared ∙ ap (λ (xs : List ℕ). without_bit xs k) c.deref_mut.ensures.value in
    let low : (with_items s.numbers c.clear.new.words).items ≡ without_bit s.numbers.items k =
    with_items_is s.numbers c.clear.new.words (omega (arith, ap length cleared, length_without_bit s.numbers.items k, c.deref_mut.ensures.len, ap length c.deref_mut.ensures.value)) ∙ cleared in
    ap (λ (xs : List ℕ). flags s.room xs) low
    ∙ (flags_without s.room s.numbers.items k h here ∙ ap (λ (xs : List Bool). set xs k false) c.self.view_is)

pub returns-then-not-clear : goal.returns-then-not-clear
returns-then-not-clear c =
    let s = c.self.inside in
    let k = c.args.number in
    let h = room_of s.room k s.numbers.items c.args.self.now c.self.view_is c.requires in
    let here : k / 64 < length s.numbers.items = omega (arith, c.if-number-len.false, c.len.ensures, s.numbers.ok.0) in
    let cleared : c.clear.new.words ≡ without_bit s.numbers.items k = c.clear.ensures.cleared ∙ ap (λ (xs : List ℕ). without_bit xs k) c.deref_mut.ensures.value in
    let low : (with_items s.numbers c.clear.new.words).items ≡ without_bit s.numbers.items k =
    with_items_is s.numbers c.clear.new.words (omega (arith, ap length cleared, length_without_bit s.numbers.items k, c.deref_mut.ensures.len, ap length c.deref_mut.ensures.value)) ∙ cleared in
    ap (λ (xs : List ℕ). flags s.room xs) low
    ∙ (flags_without s.room s.numbers.items k h here ∙ ap (λ (xs : List Bool). set xs k false) c.self.view_is)

pub returns-then-not-clear-2 : goal.returns-then-not-clear-2
returns-then-not-clear-2 c =
    let s = c.self.inside in
    let k = c.args.number in
    let h = room_of s.room k s.numbers.items c.args.self.now c.self.view_is c.requires in
    let here : k / 64 < length s.numbers.items = omega (arith, c.if-number-len.false, c.len.ensures, s.numbers.ok.0) in
    let cleared : c.clear.new.words ≡ without_bit s.numbers.items k = c.clear.ensures.cleared ∙ ap (λ (xs : List ℕ). without_bit xs k) c.deref_mut.ensures.value in
    let low : (with_items s.numbers c.clear.new.words).items ≡ without_bit s.numbers.items k =
    with_items_is s.numbers c.clear.new.words (omega (arith, ap length cleared, length_without_bit s.numbers.items k, c.deref_mut.ensures.len, ap length c.deref_mut.ensures.value)) ∙ cleared in
    ap (λ (xs : List ℕ). flags s.room xs) low
    ∙ (flags_without s.room s.numbers.items k h here ∙ ap (λ (xs : List Bool). set xs k false) c.self.view_is)
