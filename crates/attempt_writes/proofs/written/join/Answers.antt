use Rattle.std.proofs.Common.{◌≡◌, ◌+◌, ◌<◌, ◌≤◌, ◌++◌, [], ◌∷◌, List, None, refl, ap, sym, subst, ◌∙◌, arith, drop, take, get_or, length, add-one, drop-cons}
use Rattle.std.proofs.lemmas.List.{drop-set-lt, length-take-le, take-append-drop, take-set-le, take_more_set}
use Rattle.std.proofs.Math.ListN.{set, length-set}
use Rattle.attempt_writes.specs.declared.note.Note.{Note}
use Rattle.attempt_writes.specs.Own.{undone, hints_before, AreApart, AreHinted, AreInside, AreNotedListed}
use Rattle.attempt_writes.proofs.OwnHints.{apart_kept, hinted_kept, hinted_split, hinted_without}
use Rattle.attempt_writes.proofs.OwnNotes.{has_dropped, inside_drop, kept_set, noted_prefix, noted_without}
use Rattle.attempt_writes.proofs.written.join.Goals as goal

pub loop-i-init : goal.loop-i-init
loop-i-init c =
    let ns = c.args.notes.now in
    let all = take-append-drop c.args.height ns in
    record {
      above = omega arith;
      before = omega arith;
      within = c.requires.within;
      same = refl;
      hints = refl;
      inside = inside_drop (length c.args.noted.now) c.args.height ns c.requires.inside;
      front = refl;
      hinted = hinted_split c.args.height ns c.args.noted.now c.requires.hinted;
      apart = c.requires.outer;
      rest = c.requires.inner;
      to = λ h le t. ap (λ (l : List Note). undone (drop h l) t) all;
      listed = λ pairs a. subst (AreNotedListed pairs) (sym all) a;
    }

pub loop-i-preserved-then-has_note : goal.loop-i-preserved-then-has_note
loop-i-preserved-then-has_note c =
    let ns = c.loop-i.notes in
    let i = c.loop-i.i in
    let k = c.loop-i.invariant in
    let d : Note = record { x = record { 0 = 0 }; earlier = 0; old = None } in
    let n = get_or ns i d in
    let rest = drop (i + 1) ns in
    let front = take c.loop-i.kept ns in
    let split : drop i ns ≡ n ∷ rest = rw add-one (drop-cons ns i d c.loop-i-test.true) in
    let same = length-set c.loop-i.noted n.x.0 n.earlier in
    let has = c.has_note.ensures.here c.if-has_note.true in
    let split_apart = subst AreApart split k.rest in
    record {
      above = k.above;
      before = omega (arith, k.before);
      within = omega (arith, c.loop-i-test.true);
      same = k.same;
      hints = same ∙ k.hints;
      inside = subst (λ m. AreInside m rest) (sym same) (subst (AreInside (length c.loop-i.noted)) split k.inside).1;
      front = k.front;
      hinted = hinted_without front rest n c.loop-i.noted split_apart.0 (subst (λ (l : List Note). AreHinted 0 front (hints_before l c.loop-i.noted)) split k.hinted);
      apart = k.apart;
      rest = split_apart.1;
      to = λ h le t.
          sym (has_dropped ns c.loop-i.kept rest n c.args.low h t has le)
          ∙ ap (λ (l : List Note). undone (drop h (front ++ l)) t) (sym split)
          ∙ k.to h le t;
      listed = λ pairs a. noted_without pairs front n rest (subst (λ (l : List Note). AreNotedListed pairs (front ++ l)) split (k.listed pairs a));
    }

pub loop-i-preserved : goal.loop-i-preserved
loop-i-preserved c =
    let ns = c.loop-i.notes in
    let i = c.loop-i.i in
    let kept = c.loop-i.kept in
    let k = c.loop-i.invariant in
    let d : Note = record { x = record { 0 = 0 }; earlier = 0; old = None } in
    let n = get_or ns i d in
    let rest = drop (i + 1) ns in
    let split : drop i ns ≡ n ∷ rest = rw add-one (drop-cons ns i d c.loop-i-test.true) in
    let same = length-set c.loop-i.noted n.x.0 kept in
    let long = length-set ns kept n in
    let moved = kept_set ns kept i n k.before c.loop-i-test.true split in
    let above = k.above in
    let before = k.before in
    let low = c.requires.below in
    let test = c.loop-i-test.true in
    let within : kept ≤ length ns = omega (arith, before, test) in
    let lt : kept < length ns = omega (arith, before, test) in
    let known : n.x.0 < length c.loop-i.noted = (subst (AreInside (length c.loop-i.noted)) split k.inside).0 in
    let split_apart = subst AreApart split k.rest in
    let hints = subst (λ (l : List Note). AreHinted 0 (take kept ns) (hints_before l c.loop-i.noted)) split k.hinted in
    let size = length-take-le kept ns within in
    let later = drop-set-lt (i + 1) ns kept n (omega (arith, before)) in
    let more = take_more_set ns kept n lt in
    record {
      above = omega (arith, k.above);
      before = omega (arith, k.before);
      within = omega (arith, long, c.loop-i-test.true);
      same = long ∙ k.same;
      hints = same ∙ k.hints;
      inside =
          subst (λ m. AreInside m (drop (i + 1) (set ns kept n))) (sym same)
          (subst (AreInside (length c.loop-i.noted)) (sym (drop-set-lt (i + 1) ns kept n (omega (arith, k.before)))) (subst (AreInside (length c.loop-i.noted)) split k.inside).1);
      front = take-set-le c.args.height ns kept n above ∙ k.front;
      hinted =
          subst (λ (l : List Note). AreHinted 0 l (hints_before (drop (i + 1) (set ns kept n)) (set c.loop-i.noted n.x.0 kept))) (sym more)
          (subst (λ (l : List Note). AreHinted 0 (take kept ns ++ n ∷ []) (hints_before l (set c.loop-i.noted n.x.0 kept))) (sym later)
          (hinted_kept (take kept ns) rest n c.loop-i.noted kept (sym size) known split_apart.0 hints));
      apart =
          subst (λ (l : List Note). AreApart (drop c.args.low l)) (sym more)
          (apart_kept ns rest n c.loop-i.noted c.args.low kept (omega (arith, low, above)) within known hints (c.has_note.ensures.other c.if-has_note.false) k.apart);
      rest = subst AreApart (sym later) split_apart.1;
      to = λ h le t. ap (λ (l : List Note). undone (drop h l) t) moved ∙ k.to h le t;
      listed = λ pairs a. subst (AreNotedListed pairs) (sym moved) (k.listed pairs a);
    }

pub returns-clause-noted : goal.returns-clause-noted
returns-clause-noted c = λ pairs a. noted_prefix pairs (take c.loop-i.kept c.loop-i.notes) (drop c.loop-i.i c.loop-i.notes) (c.loop-i.invariant.listed pairs a)
