use Rattle.std.proofs.Common.{◌≡◌, ◌+◌, ◌*◌, ◌-◌, ℕ, take, drop, ap, arith}
use Rattle.book.proofs.calls.row_of.Goals as goal

pub returns : goal.returns
returns c =
    let start = c.args.row * c.args.width in
    let n = c.args.count in
    let size : (start + n) - start ≡ n = omega arith in
    ap (λ (k : ℕ). take k (drop start c.args.rows.now)) size
