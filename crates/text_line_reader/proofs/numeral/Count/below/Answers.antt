use Rattle.std.proofs.Common.{◌∙◌, ap, arith}
use Rattle.std.specs.Str.Parse.{digits_value}
use Rattle.text_line_reader.specs.Counts.{below}
use Rattle.text_line_reader.proofs.Numbers.{parsed, unparsed, below_is, below_not}
use Rattle.text_line_reader.proofs.numeral.Count.below.Goals as goal

pub returns-then-n-bound-clause-value : goal.returns-then-n-bound-clause-value
returns-then-n-bound-clause-value c =
    ap (below c.args.bound) (parsed c.args.self.text.now c.parse.result c.in-Ok.n c.args.self.written c.parse.ensures.value.0 c.in-Ok.is) ∙ below_is c.args.bound c.in-Ok.n c.if-n-bound.true

pub returns-else-n-bound-clause-value : goal.returns-else-n-bound-clause-value
returns-else-n-bound-clause-value c =
    ap (below c.args.bound) (parsed c.args.self.text.now c.parse.result c.in-Ok.n c.args.self.written c.parse.ensures.value.0 c.in-Ok.is) ∙ below_not c.args.bound c.in-Ok.n c.if-n-bound.false

pub returns-in-Err-clause-value : goal.returns-in-Err-clause-value
returns-in-Err-clause-value c =
    let high = unparsed c.args.self.text.now c.parse.result _ c.args.self.written c.parse.ensures.value.0 c.in-Err.is in
    below_not c.args.bound (digits_value 10 c.args.self.text.now) (let room = c.ranges.bound in omega (arith, high))
