use Rattle.std.proofs.Common.{sym, ◌∙◌}
use Rattle.text_words.specs.Bytes.{is_int}
use Rattle.text_words.proofs.Ascii.{int_is_ascii}
use Rattle.text_words.proofs.Fronting.{fronted}
use Rattle.text_words.proofs.lexer.int_at.Goals as goal

pub as_text-requires : goal.as_text-requires
as_text-requires c = int_is_ascii c.split_at.result.0.now (fronted is_int c.in_ok-int_len.field-0 c.args.bytes.now c.split_at.result.0.now c.split_at.result.1.now c.in_ok-int_len.ensures.some c.split_at.ensures.front c.split_at.ensures.back (sym c.ends_atom.ensures ∙ c.if-ends_atom.true)).word
