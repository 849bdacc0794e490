use Rattle.std.proofs.Common.{rules, ℕ, ℤ, Option, None, replicate, subst, sym}
use Rattle.std.proofs.lemmas.List.{length-replicate}
use Rattle.attempt_writes.specs.FarWrites.{AreFar}
use Rattle.attempt_writes.specs.Known.{Known}
use Rattle.attempt_writes.specs.Own.{AreListed}
use Rattle.attempt_writes.proofs.OwnTable.{new_listed}
use Rattle.attempt_writes.proofs.written.Writes.new.Goals as goal

pub invariant_of-result : goal.invariant_of-result
invariant_of-result c = record {
  wide = length-replicate {A = Option ℤ} 256 None;
  hints = length-replicate {A = ℕ} 256 0;
  ascending = search rules;
  known = search rules;
  listed = subst (λ (l : Known). AreListed l (replicate 256 None)) (sym c.new.ensures) (new_listed 256);
  noted = search rules;
  nested = search rules;
  few = search rules;
  hinted = search rules;
  once = search rules;
  floors = search rules;
  far = subst AreFar (sym c.new-5.ensures.numbers) tt;
  far_nested = search rules;
  narrow = λ e. c.new-5.ensures.numbers;
  some = λ e. absurd (cc);
}
