use Rattle.std.proofs.Common.{◌∙◌, sym, ap, nat_eq}
use Rattle.std.specs.Prelude.{position, bytes_eq}
use Rattle.text_resolver.proofs.Texts.{run_is}
use Rattle.text_resolver.proofs.names.run_known.Goals as goal

pub returns-in-Some : goal.returns-in-Some
returns-in-Some c =
    let run = c.args.run.now in
    let counted = ap (λ n. nat_eq n c.len-in-Some.result) c.len.ensures ∙ ap (nat_eq _) c.len-in-Some.ensures in
    counted ∙ run_is c.args.txs.now run c.in-Some.place c.index-txs-place.result (ap (position (bytes_eq run.name.now)) (sym c.requires.named) ∙ sym c.in-Some.ensures)
