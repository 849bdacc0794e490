use Rattle.std.proofs.Common.{◌≡◌, ◌≢◌, ◌<◌, ◌*◌, ℕ, ℤ, List, length, take, drop, get_or, arith, ap, sym, ◌∙◌, Some, length-take}
use Rattle.std.proofs.lemmas.List.{get_or_read_under}
use Rattle.book.specs.Calls.{CallsView}
use Rattle.book.specs.declared.calls.Calls.TheInside.{Inside}
use Rattle.book.specs.CallsInside.{calls_view, IsKept}
use Rattle.book.proofs.Given.{length_in, given_in, given_none, row_within}
use Rattle.book.proofs.calls.Calls.arguments.Goals as goal

pub returns-then-self-eq0-clause-value : goal.returns-then-self-eq0-clause-value
returns-then-self-eq0-clause-value c =
    let s = c.self.inside in
    given_in s c.args.self.now c.args.task c.self.view_is c.requires
    ∙ ap Some (given_none s.width s.counts.items s.rows.items c.args.task c.if-self-eq0.true (c.self.invariant.each c.args.task))

-- there is a row for the task
within : (s : Inside) (v : CallsView) (k : ℕ) → IsKept s → calls_view s ≡ v → k < length v.calls → k < s.room
within s v k h view less = omega (arith, less, length_in s v view, h.within)

-- how many arguments it has
count_is : (s : Inside) (k n : ℕ) → IsKept s → s.width ≢ 0 → k < s.room → n ≡ get_or s.counts.items k n → n ≡ get_or s.counts.items k 0
count_is s k n h wide low read = get_or_read_under s.counts.items k s.room n 0 read low (sym (h.counted wide))

pub index-requires : goal.index-requires
index-requires c =
    let s = c.self.inside in
    omega (arith, within s c.args.self.now c.args.task c.self.invariant c.self.view_is c.requires, c.self.invariant.counted c.if-self-eq0.false, s.counts.ok.0)

pub row_of-requires : goal.row_of-requires
row_of-requires c =
    let s = c.self.inside in
    let k = c.self.invariant in
    let wide = c.if-self-eq0.false in
    let low = within s c.args.self.now c.args.task k c.self.view_is c.requires in
    omega (arith, count_is s c.args.task c.index.result.now k wide low c.index.ensures, k.each c.args.task, row_within s k c.args.task wide low, ap length c.deref.ensures.value)

pub returns-clause-value : goal.returns-clause-value
returns-clause-value c =
    let s = c.self.inside in
    let start = c.args.task * s.width in
    let low = within s c.args.self.now c.args.task c.self.invariant c.self.view_is c.requires in
    let count = count_is s c.args.task c.index.result.now c.self.invariant c.if-self-eq0.false low c.index.ensures in
    given_in s c.args.self.now c.args.task c.self.view_is c.requires
    ∙ ap Some (sym (c.row_of.ensures ∙ (ap (λ (xs : List ℤ). take c.index.result.now (drop start xs)) c.deref.ensures.value ∙ ap (λ (n : ℕ). take n (drop start s.rows.items)) count)))

pub returns-clause-few : goal.returns-clause-few
returns-clause-few c =
    let s = c.self.inside in
    let k = c.self.invariant in
    let low = within s c.args.self.now c.args.task k c.self.view_is c.requires in
    let count = count_is s c.args.task c.index.result.now k c.if-self-eq0.false low c.index.ensures in
    omega (arith, ap length c.row_of.ensures, length-take c.index.result.now (drop (c.args.task * s.width) c.deref.result.now), count, k.each c.args.task, k.narrow)
