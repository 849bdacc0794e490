use Rattle.std.proofs.Common.{◌≡◌, ◌≤◌, length}
use Rattle.text_words.specs.Tokens.{tokens}
use Rattle.text_words.proofs.lexer.token_start.Given as goal

abbrev pub invariant-gaps : goal.invariant-gaps
invariant-gaps l = record { same : tokens l.rest ≡ tokens l.fn.bytes; within : length l.rest ≤ length l.fn.bytes }

abbrev pub decreases-gaps : goal.decreases-gaps
decreases-gaps l = length l.rest
