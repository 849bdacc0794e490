use Rattle.std.proofs.Common.{◌≡◌, List, [], ◌∷◌, map, refl, sym, ◌∙◌, ap}
use Rattle.std.specs.List.{slice_get}
use Rattle.txn_programs.specs.Meaning.{State}
use Rattle.book.specs.Tasks.{Task, Ready, Running, Parked, Done, GivenUp}
use Rattle.book.specs.declared.standing.Standing.{Standing}
use Rattle.book.specs.Recorded.{told_as}
use Rattle.book.specs.View.{BookView}
use Rattle.book.specs.BookInside.{with_values}
use Rattle.book.proofs.book.Book.standing.Goals as goal

-- what is told of a task does not depend on what its log tells
told_valued : (m : State) (t : Task) → told_as (with_values m t) ≡ told_as t
told_valued m Ready = refl
told_valued m Running = refl
told_valued m (Parked log) = refl
told_valued m (Done n) = refl
told_valued m GivenUp = refl

all_told : (m : State) (ts : List Task) → map told_as (map (with_values m) ts) ≡ map told_as ts
all_told m [] = refl
all_told m (t ∷ ts) =
    ap (λ (x : Standing). x ∷ map told_as (map (with_values m) ts)) (told_valued m t) ∙ ap (λ (xs : List Standing). told_as t ∷ xs) (all_told m ts)

pub returns : goal.returns
returns c =
    let s = c.self.inside in
    ap (λ (b : BookView). slice_get (map told_as b.tasks) c.args.task.0) (sym c.self.view_is)
    ∙ (ap (λ (ts : List Standing). slice_get ts c.args.task.0) (all_told s.present.values.items s.table.tasks) ∙ c.standing.ensures)
