use Rattle.std.proofs.Common.{◌≡◌, ℕ, ◌+◌, ◌*◌, Bool, false, if◌then◌else◌, get_or, sym, ap, ◌∙◌, subst, arith}
use Rattle.txn_words.specs.Words.{Commit}
use Rattle.cells.specs.Sight.{commit_of}
use Rattle.cells.specs.Cells.{CellsId}
use Rattle.cells.proofs.Commits.{own_version_read, half_version}
use Rattle.cells.proofs.board.Board.load_own_version.Goals as goal

pub load-requires : goal.load-requires
load-requires c =
    let table = c.requires.own ∙ sym (ap (λ (z : CellsId). z.table) c.self.view_is) in let wide = c.self.invariant.1 (ap (λ (z : CellsId). z.are_read) c.self.view_is ∙ c.requires.read) in
    let exists = c.requires.exists in let all = ap (λ (z : CellsId). z.variables) (sym c.self.view_is) in
    (table, omega arith, own_version_read _ _ _ (commit_of c.args.seat.now.me.0) c.args.x c.requires.publisher c.requires.may.within)

pub returns-clause-same : goal.returns-clause-same
returns-clause-same c = c.load.ensures.2.0

pub returns-clause-told : goal.returns-clause-told
returns-clause-told c =
    let r : Commit = commit_of c.args.seat.now.me.0 in
    let told : c.load.result ≡ 2 * get_or r.versions c.args.x 0 + (if get_or r.locked c.args.x false then 1 else 0) =
    subst (λ (z : ℕ). c.load.result ≡ 2 * get_or r.versions z 0 + (if get_or r.locked z false then 1 else 0)) (half_version c.args.x) (c.load.ensures.2.1 r c.requires.publisher) in
    let even : c.load.result ≡ 2 * get_or r.versions c.args.x 0 + 0 = told ∙ ap (λ (t : Bool). 2 * get_or r.versions c.args.x 0 + (if t then 1 else 0)) c.requires.may.free in
    omega (arith, even)
