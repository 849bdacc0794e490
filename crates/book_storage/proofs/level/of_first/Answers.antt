use Rattle.std.proofs.Common.{◌≡◌, inl, inr, ◌-◌, ◌*◌, ◌^◌, min, sym, ◌∙◌, ap, arith}
use Rattle.std.proofs.lemmas.Bool.{cases_lt}
use Rattle.std.proofs.lemmas.List.{get_or_past}
use Rattle.book_storage.proofs.level.of_first.Goals as goal

pub returns-clause-first : goal.returns-clause-first
returns-clause-first c = λ w.
    let count = c.args.count in
    let l = c.loop-word in
    elim (cases_lt w l.word) [
      | inl low ↦ l.invariant.made w low
      | inr past ↦
          let none : min (count - w * 64) 64 ≡ 0 = omega (arith, past, c.loop-word-test.false, c.div_ceil-word-end.ensures) in
          get_or_past l.words.items w 0 (omega (arith, past, l.invariant.len)) ∙ sym (ap (λ m. 2 ^ m - 1) none)
    ]
