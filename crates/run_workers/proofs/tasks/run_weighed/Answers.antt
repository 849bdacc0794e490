use Rattle.std.proofs.Common.{◌≡◌, ℕ, [], Option, IfOk, sym, ◌∙◌, subst}
use Rattle.std.proofs.lemmas.Result.{IfOk-weaker}
use Rattle.book_storage.specs.declared.run_report.RunReport.{RunReport}
use Rattle.book_storage.specs.PackedEntries.{told_run}
use Rattle.txn_programs.specs.Listing.{Listing}
use Rattle.txn_programs.specs.Told.{base_of, now_of}
use Rattle.txn_programs.specs.LawfulReport.{LawfulReport}
use Rattle.txn_programs.specs.Standing.{Upholds}
use Rattle.txn_programs.proofs.Standing.{replays_uphold}
use Rattle.run_workers.specs.GivingUp.{GaveUpForMemory}
use Rattle.run_workers.specs.Drawing.{IsDrawn, KeepsOrder}
use Rattle.run_workers.proofs.Drawing.{any_order}
use Rattle.run_workers.proofs.Sparing.{none_told}
use Rattle.run_workers.proofs.tasks.run_weighed.Goals as goal

-- a lawful report upholds the conditions at both its ends
upheld : (l : Listing) (r : RunReport) → LawfulReport l (told_run r) → Upholds l (base_of (told_run r)).state × Upholds l (now_of (told_run r)).state
upheld l r h = (h.upheld, replays_uphold l (base_of (told_run r)) (told_run r).entries (now_of (told_run r)) h.upheld h.replays)

pub returns-then-are_short-clause-upheld : goal.returns-then-are_short-clause-upheld
returns-then-are_short-clause-upheld g c =
    let l = c.args.catalogue.now in
    IfOk-weaker c.drain_named.result (λ (r : RunReport). LawfulReport l (told_run r)) (λ (r : RunReport). Upholds l (base_of (told_run r)).state × Upholds l (now_of (told_run r)).state) (upheld l) c.drain_named.ensures.lawful

pub returns-clause-upheld : goal.returns-clause-upheld
returns-clause-upheld g c =
    let l = c.args.catalogue.now in
    IfOk-weaker c.run_named.result (λ (r : RunReport). LawfulReport l (told_run r)) (λ (r : RunReport). Upholds l (base_of (told_run r)).state × Upholds l (now_of (told_run r)).state) (upheld l) c.run_named.ensures.lawful

pub returns-in-Some-clause-upheld : goal.returns-in-Some-clause-upheld
returns-in-Some-clause-upheld g c =
    let l = c.args.catalogue.now in
    IfOk-weaker c.run_drawn.result (λ (r : RunReport). LawfulReport l (told_run r)) (λ (r : RunReport). Upholds l (base_of (told_run r)).state × Upholds l (now_of (told_run r)).state) (upheld l) c.run_drawn.ensures.lawful

pub returns-in-Some-clause-kept : goal.returns-in-Some-clause-kept
returns-in-Some-clause-kept g c = λ place.
    let l = c.args.catalogue.now in
    IfOk-weaker c.run_drawn.result (λ (r : RunReport). GaveUpForMemory l (told_run r)) (λ (r : RunReport). (told_run r).memory ≡ []) (λ (r : RunReport). none_told l (told_run r) place) c.run_drawn.ensures.memory

pub returns-in-Some-clause-order : goal.returns-in-Some-clause-order
returns-in-Some-clause-order g c =
    let l = c.args.catalogue.now in
    subst (λ (s : Option ℕ). IfOk c.run_drawn.result (λ (r : RunReport). KeepsOrder l c.args.options.checkpoint s (told_run r))) (sym c.in-Some.is ∙ c.seed.ensures)
    (subst (λ (n : ℕ). IfOk c.run_drawn.result (λ (r : RunReport). IsDrawn l n c.in-Some.seed (told_run r))) c.checkpoint.ensures c.run_drawn.ensures.drawn)

pub returns-then-are_short-clause-order : goal.returns-then-are_short-clause-order
returns-then-are_short-clause-order g c =
    any_order c.args.catalogue.now c.args.options.checkpoint c.args.options.seed (sym c.seed.ensures ∙ c.in_default.is) c.drain_named.result

pub returns-clause-order : goal.returns-clause-order
returns-clause-order g c =
    any_order c.args.catalogue.now c.args.options.checkpoint c.args.options.seed (sym c.seed.ensures ∙ c.in_default.is) c.run_named.result

pub returns-then-are_short-clause-kept : goal.returns-then-are_short-clause-kept
returns-then-are_short-clause-kept g c = λ place.
    let l = c.args.catalogue.now in
    IfOk-weaker c.drain_named.result (λ (r : RunReport). GaveUpForMemory l (told_run r)) (λ (r : RunReport). (told_run r).memory ≡ []) (λ (r : RunReport). none_told l (told_run r) place) c.drain_named.ensures.memory

pub returns-clause-kept : goal.returns-clause-kept
returns-clause-kept g c = λ place.
    let l = c.args.catalogue.now in
    IfOk-weaker c.run_named.result (λ (r : RunReport). GaveUpForMemory l (told_run r)) (λ (r : RunReport). (told_run r).memory ≡ []) (λ (r : RunReport). none_told l (told_run r) place) c.run_named.ensures.memory
