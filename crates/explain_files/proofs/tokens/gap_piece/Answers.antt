use Rattle.std.proofs.Common.{arith}
use Rattle.std.proofs.lemmas.Grind.{common_steps}
use Rattle.text_words.proofs.Lexing.{tokens-nil}
use Rattle.explain_files.proofs.Gaps.{behind_comment}
use Rattle.explain_files.proofs.Cuts.{comment_apart, comment_nothing}
use Rattle.explain_files.proofs.tokens.gap_piece.Goals as goal

pub returns-in-59-clause-same : goal.returns-in-59-clause-same
returns-in-59-clause-same c = behind_comment c.line_len.result c.args.bytes.now (grind (arith, common_steps)) (grind (arith, common_steps)) (grind (arith, common_steps))

pub returns-in-59-clause-nothing : goal.returns-in-59-clause-nothing
returns-in-59-clause-nothing c = comment_nothing c.line_len.result c.args.bytes.now (grind (arith, common_steps)) (grind (arith, common_steps)) (grind (arith, common_steps))

pub returns-in-59-clause-apart : goal.returns-in-59-clause-apart
returns-in-59-clause-apart c = comment_apart c.line_len.result c.args.bytes.now (grind (arith, common_steps)) (grind (arith, common_steps)) (grind (arith, common_steps))

pub returns-in_default-clause-nothing : goal.returns-in_default-clause-nothing
returns-in_default-clause-nothing c = tokens-nil

pub returns-in_default-2-clause-nothing : goal.returns-in_default-2-clause-nothing
returns-in_default-2-clause-nothing c = tokens-nil
