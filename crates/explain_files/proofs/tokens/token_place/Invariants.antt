use Rattle.std.proofs.Common.{◌≡◌, ◌≤◌, ◌-◌, length, take, drop}
use Rattle.text_words.specs.Tokens.{tokens}
use Rattle.explain_files.specs.Tokens.{IsApart}
use Rattle.explain_files.proofs.tokens.token_place.Given as goal

abbrev pub invariant-gaps : goal.invariant-gaps
invariant-gaps l = record {
  bound : l.at ≤ length l.bytes;
  behind : l.from ≤ l.at;
  same : tokens (drop l.at l.bytes) ≡ tokens (drop l.from l.bytes);
  before : tokens (take l.at l.bytes) ≡ tokens (take l.from l.bytes);
  apart : IsApart l.bytes l.at;
}

abbrev pub decreases-gaps : goal.decreases-gaps
decreases-gaps l = length l.bytes - l.at
