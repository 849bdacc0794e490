use Rattle.std.proofs.Common.{◌≡◌, ℕ, ◌+◌, ◌-◌, length, map, refl, sym, ◌∙◌, ap, arith}
use Rattle.std.specs.Prelude.{min}
use Rattle.txn_programs.specs.Meaning.{State}
use Rattle.txn_programs.specs.Listing.{calls}
use Rattle.txn.specs.Values.{begun}
use Rattle.book.specs.Table.{TableView}
use Rattle.book.specs.Standings.{bare}
use Rattle.book.specs.BookInside.{with_values}
use Rattle.book.specs.View.{BookView}
use Rattle.book.specs.Carrying.{stays, carried, staying}
use Rattle.book.specs.Chapters.{chapter_of, most_entries}
use Rattle.book.proofs.Beginning.{staying_same, carried_same, flags_unlogged, flags_valued}
use Rattle.book.proofs.Kept.{alike}
use Rattle.book.proofs.Begins.{Begins, begins_view, kept_begins, over_fits}
use Rattle.book.proofs.book.Book.begin_chapter.Goals as goal
use Rattle.book.proofs.book.Book.begin_chapter.Goals.{After-clear}

-- as many stay, whatever their logs are
pub begin-requires-clause-count : goal.begin-requires-clause-count
begin-requires-clause-count c =
    let s = c.self.inside in
    let m = s.present.values.items in
    let ts = s.table.tasks in
    c.staying-count.ensures
    ∙ (ap (λ (b : BookView). length (carried b.tasks)) (sym c.self.view_is)
    ∙ carried_same (map (with_values m) ts) (map bare c.standings.result.now) (flags_valued m ts ∙ sym (ap (map stays) c.standings.ensures ∙ flags_unlogged ts)))

pub carry_on-requires : goal.carry_on-requires
carry_on-requires c =
    let s = c.self.inside in
    let m = s.present.values.items in
    let ts = s.table.tasks in
    c.staying-count.ensures
    ∙ (ap (λ (b : BookView). length (carried b.tasks)) (sym c.self.view_is) ∙ carried_same (map (with_values m) ts) ts (flags_valued m ts))

pub overflow_sub-self : goal.overflow_sub-self
overflow_sub-self c =
    let s = c.self.inside in
    omega (arith, over_fits s c.self.invariant, c.reach.ensures, c.len.ensures, ap (λ (x : TableView). length x.tasks) c.carry_on.ensures)

pub start_anew-requires-clause-alike : goal.start_anew-requires-clause-alike
start_anew-requires-clause-alike c = alike c.self.inside c.self.invariant

pub start_anew-requires-clause-since : goal.start_anew-requires-clause-since
start_anew-requires-clause-since c = c.self.invariant.since

parts : (c : After-clear) → Begins c.self.inside c.begin.new.self c.carry_on.new.self c.start_anew.new.base c.start_anew.new.present c.start_anew.new.since c.clear.new.self (c.self.inside.before + c.self.inside.present.number) (c.reach.result - c.len.result)
parts c =
    let s = c.self.inside in
    let m = s.present.values.items in
    let l = s.chapter.listing in
    let flags : map stays (map bare c.standings.result.now) ≡ map stays (map (with_values m) s.table.tasks) = ap (map stays) c.standings.ensures ∙ (flags_unlogged s.table.tasks ∙ sym (flags_valued m s.table.tasks)) in
    record {
      listing = c.begin.ensures.listing
          ∙ (ap (λ (v : State). begun l v (staying (calls l) (map bare c.standings.result.now))) c.deref.ensures.value
          ∙ ap (begun l m) (staying_same (calls l) (map bare c.standings.result.now) (map (with_values m) s.table.tasks) flags));
      room = c.begin.ensures.room;
      carried_is = c.carry_on.ensures;
      base_is = c.start_anew.ensures.base;
      present_is = c.start_anew.ensures.present;
      follows = c.start_anew.ensures.since;
      journal_is = c.clear.ensures.items;
      capacity = omega (arith, c.clear.ensures.capacity);
      before_is = refl;
      spare_is = ap (λ (n : ℕ). n - c.len.result) c.reach.ensures
          ∙ ap (λ (n : ℕ). min s.room (most_entries - (s.before + s.present.number)) - n) (c.len.ensures ∙ ap (λ (x : TableView). length x.tasks) c.carry_on.ensures);
    }

pub invariant_of-self : goal.invariant_of-self
invariant_of-self c = kept_begins c.self.inside _ _ _ _ _ _ _ _ (parts c) c.self.invariant

pub returns : goal.returns
returns c = begins_view c.self.inside _ _ _ _ _ _ _ _ (parts c) ∙ ap chapter_of c.self.view_is
