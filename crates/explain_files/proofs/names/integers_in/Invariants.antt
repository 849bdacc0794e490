use Rattle.std.proofs.Common.{◌≡◌, ◌+◌, ◌≤◌, length}
use Rattle.text_words.specs.Tokens.{tokens}
use Rattle.explain_files.specs.Judging.{integers_in}
use Rattle.explain_files.proofs.names.integers_in.Given as goal

abbrev pub invariant-integers : goal.invariant-integers
invariant-integers l = record {
  counted : l.count + integers_in (tokens l.rest) ≡ integers_in (tokens l.bytes);
  few : l.count + length l.rest ≤ length l.bytes;
}

abbrev pub decreases-integers : goal.decreases-integers
decreases-integers l = length l.rest
