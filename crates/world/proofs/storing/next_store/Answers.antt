use Rattle.std.proofs.Common.{◌≡◌, ℕ, ◌+◌, ◌-◌, ◌*◌, ◌<◌, Some, get_or, length, sym, ◌∙◌, ap, arith}
use Rattle.std.specs.List.{slice_get}
use Rattle.std.proofs.lemmas.Option.{slice_get-get_or}
use Rattle.txn_words.specs.Stores.{Change, no_change}
use Rattle.world_law.specs.declared.events.Store.TheVariants.{Free}
use Rattle.world_law.specs.World.{stores}
use Rattle.world_law.proofs.Order.{is_free}
use Rattle.world.proofs.Seeing.{read_is}
use Rattle.world.proofs.storing.next_store.Goals as goal

pub returns : goal.returns
returns c =
    let p = c.args.publishing.now in
    let cs = p.changes.items in
    let n : c.len-count.result ≡ length cs = c.len-count.ensures ∙ p.changes.ok.0 in
    let i : ℕ = p.stored - 2 * c.len-count.result - 1 in
    let under : i < length cs = omega (arith, n, c.requires.under, c.if-stored-count-2.false, c.if-stored-count-3.false) in
    let at : p.stored ≡ 2 * length cs + 1 + i = omega (arith, n, c.if-stored-count-2.false, c.if-stored-count-3.false) in
    let same : c.index-2.result.now ≡ get_or cs i no_change = read_is cs i (get_or cs i no_change) c.index-2.result.now (slice_get-get_or cs i no_change under) c.index-2.ensures in
    ap (slice_get (stores cs)) at ∙ (is_free cs i under ∙ ap (λ (q : Change). Some (Free q.0)) (sym same))
