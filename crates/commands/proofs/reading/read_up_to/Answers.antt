use Rattle.std.proofs.Common.{◌≡◌, IfSome, subst}
use Rattle.commands.specs.Files.{read_of}
use Rattle.commands.proofs.Limit.{known_read}
use Rattle.commands.proofs.reading.read_up_to.Goals as goal

pub returns : goal.returns
returns g c =
    let items = c.read_to_end.new.buf.items in
    let inner = known_read (g.I.Read.remaining c.take.result.inner) c.take.result.limit c.args.limit c.new-bytes.result.items items c.take.ensures.limit c.new-bytes.ensures.items c.in_ok-read_to_end.ensures.bytes in
    subst (λ r. IfSome (g.I.Read.remaining r) (λ all. items ≡ read_of c.args.limit all)) c.take.ensures.inner inner
