use Rattle.std.proofs.Common.{sym, ap, ◌∙◌, arith}
use Rattle.std.proofs.lemmas.Grind.{common_steps}
use Rattle.txn_programs.specs.Names.{is_name}
use Rattle.text_words.proofs.Ascii.{name_is_ascii}
use Rattle.text_words.proofs.Fronts.{scanned, not_scanned, no_letter, no_byte}
use Rattle.text_words.proofs.lexer.name_at.Goals as goal

pub returns-in_err-first-clause-none : goal.returns-in_err-first-clause-none
returns-in_err-first-clause-none c = no_byte c.from_residual.result c.args.bytes.now (grind (arith, common_steps))

pub returns-then-not-is_ascii_alphabetic-clause-none : goal.returns-then-not-is_ascii_alphabetic-clause-none
returns-then-not-is_ascii_alphabetic-clause-none c = no_letter c.in_ok-first.first.now c.args.bytes.now c.in_ok-first.inner.now (grind (arith, common_steps)) (grind (arith, common_steps))

pub as_text-requires : goal.as_text-requires
as_text-requires c = name_is_ascii c.split_at.result.0.now (scanned c.in_ok-first.first.now c.name_len.result c.args.bytes.now c.in_ok-first.inner.now c.split_at.result.0.now c.split_at.result.1.now (grind (arith, common_steps)) (grind (arith, common_steps)) c.name_len.ensures.value c.split_at.ensures.front c.split_at.ensures.back (sym c.ends_atom.ensures ∙ c.if-ends_atom.true)).name

pub returns-then-ends_atom-clause-name : goal.returns-then-ends_atom-clause-name
returns-then-ends_atom-clause-name c = ap is_name c.as_text.ensures ∙ (scanned c.in_ok-first.first.now c.name_len.result c.args.bytes.now c.in_ok-first.inner.now c.split_at.result.0.now c.split_at.result.1.now (grind (arith, common_steps)) (grind (arith, common_steps)) c.name_len.ensures.value c.split_at.ensures.front c.split_at.ensures.back (sym c.ends_atom.ensures ∙ c.if-ends_atom.true)).name

pub returns-then-ends_atom-clause-atom : goal.returns-then-ends_atom-clause-atom
returns-then-ends_atom-clause-atom c = c.as_text.ensures ∙ (scanned c.in_ok-first.first.now c.name_len.result c.args.bytes.now c.in_ok-first.inner.now c.split_at.result.0.now c.split_at.result.1.now (grind (arith, common_steps)) (grind (arith, common_steps)) c.name_len.ensures.value c.split_at.ensures.front c.split_at.ensures.back (sym c.ends_atom.ensures ∙ c.if-ends_atom.true)).atom

pub returns-then-ends_atom-clause-rest : goal.returns-then-ends_atom-clause-rest
returns-then-ends_atom-clause-rest c = (scanned c.in_ok-first.first.now c.name_len.result c.args.bytes.now c.in_ok-first.inner.now c.split_at.result.0.now c.split_at.result.1.now (grind (arith, common_steps)) (grind (arith, common_steps)) c.name_len.ensures.value c.split_at.ensures.front c.split_at.ensures.back (sym c.ends_atom.ensures ∙ c.if-ends_atom.true)).behind

pub returns-else-ends_atom-clause-none : goal.returns-else-ends_atom-clause-none
returns-else-ends_atom-clause-none c = not_scanned c.in_ok-first.first.now c.name_len.result c.args.bytes.now c.in_ok-first.inner.now c.split_at.result.1.now (grind (arith, common_steps)) (grind (arith, common_steps)) c.name_len.ensures.value c.split_at.ensures.back (sym c.ends_atom.ensures ∙ c.if-ends_atom.false)
