use Rattle.std.proofs.Common.{rules, ◌≡◌, ◌∙◌, ◌+◌, ◌++◌, ℕ, List, length, take, drop, sym, ap, subst}
use lib.Seq.{take-append-le}
use Rattle.std.specs.Io.KnownBytes.{Consumes, IsAtEnd}
use Rattle.commands.specs.ToLimit.{count_left}
use Rattle.commands.proofs.ToLimit.{gives}
use Rattle.commands.proofs.reading.ToLimitRead.read.Goals as goal

pub returns-clause-bytes : goal.returns-clause-bytes
returns-clause-bytes g c =
    let read = c.in_ok-count.ensures in
    let count = c.in_ok-count.count in
    let part = c.read.new.buf in
    let rest = drop c.min-most.result c.args.buf.now in
    let old = count_left c.args.self.now in
    let new = count_left c.pass.new.self in
    let remaining = g.I.Read.remaining in
    gives old new (remaining c.args.self.now.inner) (remaining c.pass.new.self.inner) part rest count read.bound.0 (λ some. search rules)
    (λ ys.
    subst (λ (bs : List ℕ). old (bs ++ ys) ≡ length bs + new ys) (take-append-le count part rest read.bound.0) (c.pass.ensures.counted ys)
    ∙ ap (λ (k : ℕ). k + new ys) (sym read.bound.1))
    (subst (λ i. Consumes (remaining c.args.self.now.inner) (remaining i) (take count part)) (sym c.pass.ensures.inner) read.bytes.0)
    (λ none some. subst (λ i. IsAtEnd (remaining i)) (sym c.pass.ensures.inner) (read.bytes.1 none some))
