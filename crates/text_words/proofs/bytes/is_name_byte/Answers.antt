use Rattle.std.proofs.Common.{◌<◌, false, arith}
use Rattle.std.proofs.lemmas.List.FromFn.{get_or-map-range_with_len}
use Rattle.txn_programs.specs.Names.{is_name_byte}
use Rattle.text_words.proofs.bytes.is_name_byte.Goals as goal

pub returns : goal.returns
returns c = let here : c.args.b < 256 = omega (arith, c.ranges.b.fits) in get_or-map-range_with_len is_name_byte 0 256 c.args.b c.args.b false here (omega arith)
