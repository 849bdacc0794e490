use Rattle.std.proofs.Common.{◌≡◌, ℕ, length, ap, sym, ◌∙◌, arith}
use Rattle.std.specs.Prelude.{◌==◌}
use Rattle.text_file_reader.proofs.Calls.{wants}
use Rattle.text_file_reader.proofs.at_once.is_wanted.Goals as goal

pub returns-in-Some : goal.returns-in-Some
returns-in-Some c =
    let there = c.in-Some.ensures.lookup in
    let tx = c.in-Some.tx.now in
    let many : c.len.result ≡ length tx.params.items = omega arith in
    ap (λ (n : ℕ). n == c.len.result) (ap length c.as_slice.ensures.value) ∙ wants c.args.txs.now c.args.call.now tx c.len.result (sym there.0) there.1 many
