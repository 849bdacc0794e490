use Rattle.std.proofs.Common.{refl, ◌∙◌, ap, sym}
use Rattle.std.specs.List.{slice_get}
use Rattle.book.specs.Tasks.{Ready, Running}
use Rattle.book.specs.Table.{TableView}
use Rattle.book.specs.View.{BookView, stands}
use Rattle.book.specs.BookInside.{book_of, with_values}
use Rattle.book.proofs.Lists.{map_get}
use Rattle.book.proofs.Kept.{kept_stand, view_placed}
use Rattle.book.proofs.book.Book.claim.Goals as goal

pub invariant_of-self : goal.invariant_of-self
invariant_of-self c =
    kept_stand c.self.inside c.claim.new.self c.args.task Ready Running c.self.invariant c.claim.ensures c.if-not-is_ready.ensures (λ n e. cc) (λ n e. cc) (λ log e. cc) refl

pub returns-clause-claimed : goal.returns-clause-claimed
returns-clause-claimed c =
    let s = c.self.inside in
    let task = c.args.task in (
      ap (λ (v : BookView). slice_get v.tasks task.0) (sym c.self.view_is) ∙ map_get (with_values s.present.values.items) s.table.tasks task.0 Ready c.if-not-is_ready.ensures,
      ap (λ (x : TableView). book_of (record s { table = x })) c.claim.ensures ∙ (view_placed s task Running ∙ ap (λ (v : BookView). stands v task Running) c.self.view_is),
    )
