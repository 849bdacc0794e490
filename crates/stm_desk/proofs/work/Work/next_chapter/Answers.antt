use Rattle.std.proofs.Common.{◌∙◌, length, ap}
use Rattle.std.proofs.Math.Logic.{∥∥₁_map}
use Rattle.txn_programs.specs.Listing.{Listing}
use Rattle.stm_desk.specs.Ending.{BeginsNext}
use Rattle.stm_desk.proofs.Carrying.{next_accounts, next_seated, next_served, next_still}
use Rattle.stm_desk.proofs.work.Work.next_chapter.Goals as goal

pub invariant_of-self : goal.invariant_of-self
invariant_of-self c =
    let s = c.args.self.now in
    let new = c.begin_chapter.new.self in
    let is = c.begin_chapter.ensures in
    let n : BeginsNext s.store new = record { book = is.book; tickets = is.tickets; chapter = is.chapter; catalogue = is.catalogue } in
    record {
      lends = λ none. ap (λ (l : Listing). length l.transactions) is.catalogue ∙ s.lends none;
      counted = s.counted;
      accounts = ∥∥₁_map s.accounts (next_accounts s.first.value s.store new s.history.items n);
      seated = next_seated s.store new s.waiters n s.seated;
      told = s.told;
    }

pub returns-clause-served : goal.returns-clause-served
returns-clause-served c =
    let s = c.args.self.now in
    let is = c.begin_chapter.ensures in
    let n : BeginsNext s.store c.begin_chapter.new.self = record { book = is.book; tickets = is.tickets; chapter = is.chapter; catalogue = is.catalogue } in
    next_served s.store c.begin_chapter.new.self n c.requires.served c.requires.still

pub returns-clause-still : goal.returns-clause-still
returns-clause-still c =
    let is = c.begin_chapter.ensures in
    next_still c.args.self.now.store c.begin_chapter.new.self (record { book = is.book; tickets = is.tickets; chapter = is.chapter; catalogue = is.catalogue })
