use Rattle.std.proofs.Common.{◌∙◌, ap, sym, arith, length}
use Rattle.attempt_writes.proofs.FarLines.{distinct_none, inside_none, hinted_none}
use Rattle.attempt_writes.proofs.far_writes.FarWrites.clear.Goals as goal

pub invariant_of-self : goal.invariant_of-self
invariant_of-self c = record {
  distinct = distinct_none _ c.clear.ensures;
  each = ap length c.clear-2.ensures.items ∙ sym (ap length c.clear.ensures);
  hints = ap length c.clear-3.ensures.items ∙ sym (ap length c.clear.ensures);
  inside = inside_none _ _ c.clear-4.ensures.items;
  hinted = hinted_none _ _ c.clear-4.ensures.items;
  room = λ some. absurd (omega (arith, some, ap length c.clear.ensures));
  few = omega (arith, ap length c.clear-4.ensures.items);
}
