use Rattle.commands.proofs.ToLimit.{known_file}
use Rattle.commands.proofs.reading.read_file_up_to.Goals as goal

pub returns : goal.returns
returns g c =
    known_file (g.I.Read.remaining c.args.input) c.new-bytes.result.items c.read_to_end.new.buf.items c.new-bytes.ensures.items c.in_ok-read_to_end.ensures.bytes
