use Rattle.std.proofs.Common.{◌≡◌, ℕ, ◌+◌, ◌-◌, ◌*◌, get_or, ◌∙◌, ap, arith}
use Rattle.book.proofs.Rows.{row_moved}
use Rattle.book.proofs.names.move_row.Goals as goal

pub returns-clause-row : goal.returns-clause-row
returns-clause-row c =
    let a = c.args.from * c.args.width in
    let b = c.args.to * c.args.width in
    let n = c.args.count in
    let was = c.args.names.now.items in
    let now = c.copy_within.new.self.items in
    let size : (a + n) - a ≡ n = omega arith in
    row_moved n a b now was (λ j low.
    let back : (b + j) - b ≡ j = omega arith in
    c.copy_within.ensures.by_index.0 (b + j) 0 (omega arith) (omega (arith, low, size)) ∙ ap (λ (k : ℕ). get_or was (a + k) 0) back)
