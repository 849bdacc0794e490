use Rattle.std.proofs.Common.{◌≡◌, ◌<◌, false, List, length, ℤ, sym, ap, ◌∙◌, subst, arith}
use Rattle.txn_words.specs.Words.{Commit}
use Rattle.txn_words.specs.Loads.{PassRecord, met}
use Rattle.txn_words.proofs.Words.{seen_shorter}
use Rattle.cells.specs.Sight.{Sight, publishing, commit_of, record_of}
use Rattle.cells.specs.Cells.{CellsId}
use Rattle.cells.specs.Publishing.{published, IsResting}
use Rattle.cells.specs.Passing.{passing, MeetsBy}
use Rattle.cells.proofs.Readers.{still_reading, meets_by}
use Rattle.cells.proofs.writer.Writer.meet.Goals as goal

pub meet-requires-clause-own : goal.meet-requires-clause-own
meet-requires-clause-own c = (
  ap (λ (z : CellsId). z.table) (ap (λ v. v.cells) c.self.view_is ∙ (c.requires.own ∙ sym c.cells.view_is)),
  ap (λ (z : CellsId). z.table) (ap (λ v. v.cells) c.pass.view_is ∙ (c.requires.pass ∙ sym c.cells.view_is)),
)

pub invariant_of-self : goal.invariant_of-self
invariant_of-self c =
    subst (λ (d : Sight). (d ≡ publishing (commit_of d)) × IsResting (commit_of d) c.self.inside.number) (sym c.meet.ensures.publisher.1) c.self.invariant

pub invariant_of-pass : goal.invariant_of-pass
invariant_of-pass c =
    let x0 : PassRecord = record_of c.pass.inside.seat.me.0 in let c0 : Commit = commit_of c.self.inside.seat.me.0 in let told = c.meet.ensures.reader in
    let short = seen_shorter c0.history x0.seen told.2 in let low = c.pass.invariant.2 in let more : c.pass.inside.rv < length c0.history = omega arith in
    still_reading _ (met c0.history x0) c.pass.inside.rv told.1 c.pass.invariant.1 more

pub returns-clause-same : goal.returns-clause-same
returns-clause-same c =
    let place = c.meet.ensures.publisher.0.0 in let seen = c.meet.ensures.publisher.1 in
    (λ i. published (place i) (commit_of (seen i))) ∙ c.self.view_is

pub returns-clause-met : goal.returns-clause-met
returns-clause-met c =
    let x0 : PassRecord = record_of c.pass.inside.seat.me.0 in let c0 : Commit = commit_of c.self.inside.seat.me.0 in let told = c.meet.ensures.reader in
    let own_table = ap (λ (z : CellsId). z.table) (ap (λ v. v.cells) c.self.view_is ∙ (c.requires.own ∙ sym c.cells.view_is)) in
    let pass_table = ap (λ (z : CellsId). z.table) (ap (λ v. v.cells) c.pass.view_is ∙ (c.requires.pass ∙ sym c.cells.view_is)) in
    subst (λ (h : List (List ℤ)). MeetsBy c.args.pass.now (passing c.meet.new.reader.table_id false (record_of c.meet.new.reader.me.0)) h) (ap (λ v. v.history) c.self.view_is)
    (meets_by _ _ _ _ x0 _ c0.history c.pass.view_is (told.0 ∙ (own_table ∙ sym pass_table)) told.1 told.2 told.3)
