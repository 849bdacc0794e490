use Rattle.explain_files.proofs.Prefixes.{first_bad}
use Rattle.explain_files.proofs.allowed.bad_byte_place.Goals as goal

pub returns : goal.returns
returns c = first_bad c.args.bytes.now c.allowed_len.result c.allowed_len.ensures.value c.requires
