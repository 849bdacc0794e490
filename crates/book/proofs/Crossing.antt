-- A catalogue may be used by many threads at once, and a book may go from one to another: a recursive type of programs has
-- this by its own equation, case by case, and each other type by its fields. Where a type inside gets a case, a field or a
-- struct of its own, the line that names its fields here gets it too.
use denote.RattleType.{RattleType}
use denote.Ref.{NamedLft}
use denote.Param.Send.{IsSend, IsSync, sendable}
use denote.Param.SendFields.{variants_sync, declared_send, declared_sync}
use denote.Hole.FixSend.{fix_sync}
use denote.Hole.FixLaws.{layer_row}
use Rattle.std.proofs.Crossing.{crosses, Box-sync, Vec-sync}
use Rattle.std.proofs.MapsCrossing as maps
use Rattle.txn_programs.specs.contracts.ast.Expr as expr
use Rattle.txn_programs.specs.contracts.ast.Expr.TheKnot as ek
use Rattle.txn_programs.specs.declared.ast.Expr.TheBlock.{member-Expr}
use Rattle.txn_programs.specs.contracts.ast.Cond as cond
use Rattle.txn_programs.specs.contracts.ast.Cond.TheKnot as ck
use Rattle.txn_programs.specs.declared.ast.Cond.TheBlock.{member-Cond}
use Rattle.txn_programs.specs.contracts.ast.Stmt as stmt
use Rattle.txn_programs.specs.contracts.ast.Stmt.TheKnot as sk
use Rattle.txn_programs.specs.declared.ast.Stmt.TheBlock.{member-Stmt}
use Rattle.txn_programs.specs.contracts.ast.Tx as tx
use Rattle.txn_programs.proofs.ast.Span.TheSendSync as span
use Rattle.txn.specs.contracts.catalogue.Catalogue as catalogue
use Rattle.cells.proofs.Crossing.{publisher_send, shared_send}
use Rattle.book.proofs.since.Since.TheSendSync as since
use Rattle.book.proofs.steps.Steps.TheSendSync as steps
use Rattle.book.proofs.stored.Stored.TheSendSync as stored
use Rattle.book.proofs.task.Slot.TheSendSync as slot
use Rattle.book.proofs.table.TaskTable.TheSendSync as table
use Rattle.book_storage.proofs.packed_entry.PackedEntry.TheSendSync as line
use Rattle.txn_programs.proofs.code.Op.TheSendSync as op
use Rattle.txn_programs.proofs.arguments.Call.TheSendSync as call
use Rattle.book.proofs.calls.Calls.TheSendSync as calls
use Rattle.book.specs.contracts.chapter.Chapter as chapter
use Rattle.book.specs.contracts.chapter.Chapter.TheInside as inside
use Rattle.book.specs.contracts.book.Book as book

step_expr : (h : ek.the_members → RattleType) → ((j : ek.the_members) → IsSync (h j)) → IsSync (layer_row ek.ring member-Expr h)
step_expr h all = let b = Box-sync (h member-Expr) (all member-Expr) in variants_sync (let r = h member-Expr in ek.type-Expr r r r r r r r r r r r) (
  (search sendable, tt),
  (
    (search sendable, tt),
    (
      (search sendable, tt),
      (
        (span.the_sync, (b, tt)),
        (
          (span.the_sync, tt),
          (
            (span.the_sync, tt),
            ((span.the_sync, tt), ((b, (b, tt)), ((b, (b, tt)), ((b, (b, tt)), ((b, (b, tt)), ((b, (b, tt)), tt)))))),
          ),
        ),
      ),
    ),
  ),
)

expr_each : (i : ek.the_members) (h : ek.the_members → RattleType) → ((j : ek.the_members) → IsSync (h j)) → IsSync (layer_row ek.ring i h)
expr_each member-Expr = step_expr

expr_hole : IsSync ek.hole-Expr
expr_hole = fix_sync ek.ring (λ i. record { sync = expr_each i }) member-Expr

pub expr_sync : IsSync expr.the_row
expr_sync = let h = expr_hole in search (sendable, crosses) depth 40

step_cond : (h : ck.the_members → RattleType) → ((j : ck.the_members) → IsSync (h j)) → IsSync (layer_row ck.ring member-Cond h)
step_cond h all = let b = Box-sync (h member-Cond) (all member-Cond) in variants_sync (let r = h member-Cond in ck.type-Cond r r r r r) (
  (expr_sync, (expr_sync, tt)),
  ((expr_sync, (expr_sync, tt)), ((expr_sync, (expr_sync, tt)), ((b, tt), ((b, (b, tt)), ((b, (b, tt)), tt))))),
)

cond_each : (i : ck.the_members) (h : ck.the_members → RattleType) → ((j : ck.the_members) → IsSync (h j)) → IsSync (layer_row ck.ring i h)
cond_each member-Cond = step_cond

cond_hole : IsSync ck.hole-Cond
cond_hole = fix_sync ck.ring (λ i. record { sync = cond_each i }) member-Cond

pub cond_sync : IsSync cond.the_row
cond_sync = let b = Box-sync ck.hole-Cond cond_hole in variants_sync cond.enum (
  (expr_sync, (expr_sync, tt)),
  ((expr_sync, (expr_sync, tt)), ((expr_sync, (expr_sync, tt)), ((b, tt), ((b, (b, tt)), ((b, (b, tt)), tt))))),
)

step_stmt : (h : sk.the_members → RattleType) → ((j : sk.the_members) → IsSync (h j)) → IsSync (layer_row sk.ring member-Stmt h)
step_stmt h all = let b = Box-sync (h member-Stmt) (all member-Stmt) in let v = Vec-sync (h member-Stmt) (all member-Stmt) in variants_sync (let r = h member-Stmt in sk.type-Stmt r r r r r r) (
  tt,
  ((search sendable, (expr_sync, tt)), ((span.the_sync, (expr_sync, (expr_sync, tt))), ((v, tt), ((cond_sync, (b, (b, tt))), ((search sendable, (b, tt)), (tt, ((b, (b, tt)), ((expr_sync, tt), tt)))))))),
)

stmt_each : (i : sk.the_members) (h : sk.the_members → RattleType) → ((j : sk.the_members) → IsSync (h j)) → IsSync (layer_row sk.ring i h)
stmt_each member-Stmt = step_stmt

stmt_hole : IsSync sk.hole-Stmt
stmt_hole = fix_sync sk.ring (λ i. record { sync = stmt_each i }) member-Stmt

pub stmt_sync : IsSync stmt.the_row
stmt_sync = let b = Box-sync sk.hole-Stmt stmt_hole in let v = Vec-sync sk.hole-Stmt stmt_hole in variants_sync stmt.enum (
  tt,
  ((search sendable, (expr_sync, tt)), ((span.the_sync, (expr_sync, (expr_sync, tt))), ((v, tt), ((cond_sync, (b, (b, tt))), ((search sendable, (b, tt)), (tt, ((b, (b, tt)), ((expr_sync, tt), tt)))))))),
)

tx_sync : IsSync tx.the_row
tx_sync = declared_sync tx.the_type (search (sendable, crosses) depth 20, (search (sendable, crosses) depth 40, (stmt_sync, (expr_sync, tt))))

pub catalogue_sync : IsSync catalogue.the_row
catalogue_sync = let t = tx_sync in let c = cond_sync in let o = op.the_sync in let a = call.the_sync in search (sendable, crosses, maps.crosses) depth 80 fits 6000

inside_send : (ℓ : NamedLft) → IsSend (inside.the_row ℓ)
inside_send ℓ = let a = catalogue_sync in declared_send (inside.the_type ℓ) (
  search (sendable, crosses) depth 20,
  (search sendable, (search (sendable, crosses) depth 20, (calls.the_send, (steps.the_send, tt)))),
)

chapter_send : (ℓ : NamedLft) → IsSend (chapter.the_row ℓ)
chapter_send ℓ = let i = inside_send ℓ in search (sendable, crosses) depth 20

pub book_send : (ℓ : NamedLft) → IsSend (book.the_row ℓ)
book_send ℓ = let a = chapter_send ℓ in let b = shared_send in let c = publisher_send in let d = stored.the_send in let e = slot.the_send in let f = line.the_send in let h = table.the_send in let i = since.the_send in search (sendable, crosses) depth 60
