use Rattle.std.proofs.Common.{◌≡◌, ◌<◌, ◌≤◌, ◌*◌, ◌++◌, [], ◌∷◌, ℕ, List, vec_len, length, take, drop, get_or, refl, arith, ap, sym, subst, ◌∙◌}
use Rattle.std.proofs.lemmas.List.{get_or-set_same, length-set, length_push, nil_from_length}
use Rattle.txn_programs.specs.declared.ast.TxId.{TxId}
use Rattle.book.specs.Calls.{CallsView, with_calls}
use Rattle.book.specs.declared.calls.Calls.TheInside.{Inside}
use Rattle.book.specs.CallsInside.{given, calls_from, calls_view}
use Rattle.book.proofs.Given.{OtherRows, call_of, length_in, given_none, row_within, other_given, counts_fit, added_in}
use Rattle.book.proofs.calls.Calls.add.Goals as goal

-- there is room for a row more
within : (s : Inside) (v : CallsView) (n : ℕ) → calls_view s ≡ v → n ≡ vec_len s.transactions → length v.calls < v.room → n < s.room
within s v n view size less = omega (arith, size, s.transactions.ok.0, less, length_in s v view, ap (λ (x : CallsView). x.room) view)

fitting : (s : Inside) (v : CallsView) (n : ℕ) → calls_view s ≡ v → n ≤ v.width → n ≤ s.width
fitting s v n view few = omega (arith, few, ap (λ (x : CallsView). x.width) view)

longer : (s : Inside) (v : CallsView) (tx : TxId) (txs : List TxId) → calls_view s ≡ v → length v.calls < v.room → txs ≡ s.transactions.items ++ tx ∷ [] → length txs ≤ s.room
longer s v tx txs view less more =
    omega (arith, ap length more, length_push s.transactions.items tx, less, length_in s v view, ap (λ (x : CallsView). x.room) view)

pub note-requires : goal.note-requires
note-requires c = let s = c.self.inside in omega (arith, within s c.args.self.now c.len-task.result c.self.view_is c.len-task.ensures c.requires.room, c.len-task.ensures, c.self.invariant.fits)

pub invariant_of-self : goal.invariant_of-self
invariant_of-self c =
    let k = c.self.invariant in
    record {
      within = longer c.self.inside c.args.self.now c.args.tx c.note.new.transactions.items c.self.view_is c.requires.room c.note.ensures.items;
      few = k.few;
      narrow = k.narrow;
      fits = omega (arith, k.fits, c.note.ensures.capacity);
      counted = k.counted;
      whole = k.whole;
      each = k.each;
    }

pub returns-then-self-eq0 : goal.returns-then-self-eq0
returns-then-self-eq0 c =
    let s = c.self.inside in
    let w = s.width in
    let cs = s.counts.items in
    let rows = s.rows.items in
    let n = length s.transactions.items in
    let none : given w cs rows n ≡ c.args.arguments.now =
    given_none w cs rows n c.if-self-eq0.true (c.self.invariant.each n) ∙ sym (nil_from_length c.args.arguments.now (omega (arith, fitting s c.args.self.now (length c.args.arguments.now) c.self.view_is c.requires.fits, c.if-self-eq0.true))) in
    ap (λ (txs : List TxId). with_calls (calls_view s) (calls_from w cs rows 0 txs)) c.note.ensures.items
    ∙ (ap (with_calls (calls_view s)) (added_in s c.args.self.now c.args.tx c.args.arguments.now cs rows c.self.view_is none (λ u less. refl))
    ∙ ap (λ (v : CallsView). with_calls v (c.args.self.now.calls ++ call_of c.args.tx c.args.arguments.now ∷ [])) c.self.view_is)

pub put_row-requires-clause-counted : goal.put_row-requires-clause-counted
put_row-requires-clause-counted c = omega (arith, within c.self.inside c.args.self.now c.len-task.result c.self.view_is c.len-task.ensures c.requires.room, c.self.invariant.counted c.if-self-eq0.false)

pub put_row-requires-clause-whole : goal.put_row-requires-clause-whole
put_row-requires-clause-whole c = row_within c.self.inside c.self.invariant c.len-task.result c.if-self-eq0.false (within c.self.inside c.args.self.now c.len-task.result c.self.view_is c.len-task.ensures c.requires.room)

pub invariant_of-self-2 : goal.invariant_of-self-2
invariant_of-self-2 c =
    let s = c.self.inside in
    let k = c.self.invariant in
    let n = length c.args.arguments.now in
    record {
      within = longer c.self.inside c.args.self.now c.args.tx c.note.new.transactions.items c.self.view_is c.requires.room c.note.ensures.items;
      few = k.few;
      narrow = k.narrow;
      fits = omega (arith, k.fits, c.note.ensures.capacity);
      counted = λ wide. ap length c.put_row.ensures.counts ∙ (length-set s.counts.items c.len-task.result n ∙ k.counted wide);
      whole = λ wide. c.put_row.ensures.size ∙ k.whole wide;
      each = λ j. subst (λ (cs : List ℕ). get_or cs j 0 ≤ s.width) (sym c.put_row.ensures.counts) (counts_fit s.width c.len-task.result n s.counts.items (fitting s c.args.self.now n c.self.view_is c.requires.fits) k.each j);
    }

pub returns : goal.returns
returns c =
    let s = c.self.inside in
    let v = c.args.self.now in
    let k = c.self.invariant in
    let w = s.width in
    let xs = c.args.arguments.now in
    let cs = c.put_row.new.counts.items in
    let now = c.put_row.new.rows.items in
    let t = c.len-task.result in
    let n = length s.transactions.items in
    let e = c.put_row.ensures in
    let task : t ≡ n = omega (arith, c.len-task.ensures, s.transactions.ok.0) in
    let low = within s v t c.self.view_is c.len-task.ensures c.requires.room in
    let rest : OtherRows w t (length xs) cs s.counts.items now s.rows.items = record { counts = e.counts; size = e.size; before = e.before; after = e.after } in
    let count : get_or cs t 0 ≡ length xs =
    ap (λ (ys : List ℕ). get_or ys t 0) e.counts ∙ get_or-set_same s.counts.items t (length xs) 0 (omega (arith, low, k.counted c.if-self-eq0.false)) in
    let own : given w cs now n ≡ xs = ap (given w cs now) (sym task) ∙ (ap (λ (m : ℕ). take m (drop (t * w) now)) count ∙ e.row) in
    ap (λ (txs : List TxId). with_calls (calls_view s) (calls_from w cs now 0 txs)) c.note.ensures.items
    ∙ (ap (with_calls (calls_view s)) (added_in s v c.args.tx xs cs now c.self.view_is own
    (λ u less. other_given w t (length xs) u s.room cs s.counts.items now s.rows.items rest (k.whole c.if-self-eq0.false) (omega (arith, less, task, low)) (λ same. absurd (omega (arith, less, same, task))) (k.each u)))
    ∙ ap (λ (x : CallsView). with_calls x (v.calls ++ call_of c.args.tx xs ∷ [])) c.self.view_is)
