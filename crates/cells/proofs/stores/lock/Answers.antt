use Rattle.std.proofs.Common.{◌≡◌, ◌*◌, get_or, sym, ap, ◌∙◌, subst, arith}
use Rattle.txn_words.specs.Stores.{after_lock, MayLock}
use Rattle.cells.specs.Sight.{Sight, publishing, commit_of}
use Rattle.cells.proofs.stores.lock.Goals as goal

pub lock_version-requires-clause-own : goal.lock_version-requires-clause-own
lock_version-requires-clause-own c = c.load_own_version-stamp.ensures.seat.0 ∙ c.requires.own

pub lock_version-requires-clause-publisher : goal.lock_version-requires-clause-publisher
lock_version-requires-clause-publisher c =
    subst (λ (d : Sight). d ≡ publishing (commit_of d)) (sym c.load_own_version-stamp.ensures.same) c.requires.publisher

pub lock_version-requires-clause-may : goal.lock_version-requires-clause-may
lock_version-requires-clause-may c = subst (λ (d : Sight). MayLock (commit_of d) c.args.x) (sym c.load_own_version-stamp.ensures.same) c.requires.may

pub lock_version-requires-clause-stamp : goal.lock_version-requires-clause-stamp
lock_version-requires-clause-stamp c =
    let told = c.load_own_version-stamp.ensures.told in let small = c.requires.version in (
      subst (λ (d : Sight). c.load_own_version-stamp.result ≡ 2 * get_or (commit_of d).versions c.args.x 0) (sym c.load_own_version-stamp.ensures.same) told,
      omega (arith, told, small),
    )

pub returns-clause-seat : goal.returns-clause-seat
returns-clause-seat c =
    (c.lock_version.ensures.seat.0 ∙ c.load_own_version-stamp.ensures.seat.0, c.lock_version.ensures.seat.1 ∙ c.load_own_version-stamp.ensures.seat.1)

pub returns-clause-told : goal.returns-clause-told
returns-clause-told c =
    c.lock_version.ensures.told ∙ ap (λ (d : Sight). publishing (after_lock c.args.x (commit_of d))) c.load_own_version-stamp.ensures.same
