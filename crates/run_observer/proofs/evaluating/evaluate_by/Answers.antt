use Rattle.std.proofs.Common.{rules, ◌≡◌, ◌+◌, ◌∙◌, length, ap, arith}
use Rattle.std.proofs.lemmas.List.{length_push}
use Rattle.txn_programs.specs.Meaning.{value_at}
use Rattle.txn_programs.specs.declared.ast.Outcome.TheVariants.{Returned, Thrown, Retries}
use Rattle.cells.specs.Cells.{CellsId}
use Rattle.cells.specs.Passing.{at}
use Rattle.run_observer.specs.Observing.{IsCutFrom, IsStaleFrom, EvaluatesTo}
use Rattle.run_observer.proofs.Seeing.{at_stays, moving_more, moving_few, cut_stale, going_told, room_for, observes, read_on, evaluates_to, end_needs_none, memory_needs_none, lacks_more, lacks_room}
use Rattle.run_observer.proofs.evaluating.evaluate_by.Goals as goal

pub returns-in-Returned-clause-observes : goal.returns-in-Returned-clause-observes
returns-in-Returned-clause-observes g c =
    let l = c.args.catalogue.now in let p = c.args.pass.now in let q = c.needs.pass in let r = c.advance_on.new.pass in
    let i = c.needs.invariant in let e = c.advance_on.ensures in let b = c.advance_on.new.attempt in
    let on = read_on l c.args.tx c.args.arguments.now p q r c.needs.attempt b e.cells e.stays e.grows e.program e.variables e.agrees e.logged e.apart i.0 i.1 in
    observes l c.args.tx c.args.arguments.now (at r) b p r on.0 on.1 (ap (λ (z : CellsId). z.variables) (on.1.cells ∙ c.requires.own) ∙ c.requires.variables)

pub returns-in-Returned-clause-ended : goal.returns-in-Returned-clause-ended
returns-in-Returned-clause-ended g c =
    let l = c.args.catalogue.now in let p = c.args.pass.now in let q = c.needs.pass in let r = c.advance_on.new.pass in
    let i = c.needs.invariant in let e = c.advance_on.ensures in let b = c.advance_on.new.attempt in
    let on = read_on l c.args.tx c.args.arguments.now p q r c.needs.attempt b e.cells e.stays e.grows e.program e.variables e.agrees e.logged e.apart i.0 i.1 in
    let wide = ap length (at_stays q r e.stays) ∙ (c.law.ensures ∙ (ap (λ (z : CellsId). z.variables) (i.1.cells ∙ c.requires.own) ∙ c.requires.variables)) in
    let ended : EvaluatesTo l c.args.tx c.args.arguments.now (at r) (Returned c.in-Returned.v) b = evaluates_to l c.args.tx c.args.arguments.now (at r) (Returned c.in-Returned.v) c.advance_on.result b c.in-Returned.is e.answers e.frame wide on.0 in
    search rules

pub returns-in-Returned-clause-open : goal.returns-in-Returned-clause-open
returns-in-Returned-clause-open g c = c.advance_on.ensures.open (λ x. end_needs_none (Returned c.in-Returned.v) c.advance_on.result x c.in-Returned.is) c.needs.invariant.2

pub returns-in-Thrown-clause-observes : goal.returns-in-Thrown-clause-observes
returns-in-Thrown-clause-observes g c =
    let l = c.args.catalogue.now in let p = c.args.pass.now in let q = c.needs.pass in let r = c.advance_on.new.pass in
    let i = c.needs.invariant in let e = c.advance_on.ensures in let b = c.advance_on.new.attempt in
    let on = read_on l c.args.tx c.args.arguments.now p q r c.needs.attempt b e.cells e.stays e.grows e.program e.variables e.agrees e.logged e.apart i.0 i.1 in
    observes l c.args.tx c.args.arguments.now (at r) b p r on.0 on.1 (ap (λ (z : CellsId). z.variables) (on.1.cells ∙ c.requires.own) ∙ c.requires.variables)

pub returns-in-Thrown-clause-ended : goal.returns-in-Thrown-clause-ended
returns-in-Thrown-clause-ended g c =
    let l = c.args.catalogue.now in let p = c.args.pass.now in let q = c.needs.pass in let r = c.advance_on.new.pass in
    let i = c.needs.invariant in let e = c.advance_on.ensures in let b = c.advance_on.new.attempt in
    let on = read_on l c.args.tx c.args.arguments.now p q r c.needs.attempt b e.cells e.stays e.grows e.program e.variables e.agrees e.logged e.apart i.0 i.1 in
    let wide = ap length (at_stays q r e.stays) ∙ (c.law.ensures ∙ (ap (λ (z : CellsId). z.variables) (i.1.cells ∙ c.requires.own) ∙ c.requires.variables)) in
    let ended : EvaluatesTo l c.args.tx c.args.arguments.now (at r) (Thrown c.in-Thrown.fault) b = evaluates_to l c.args.tx c.args.arguments.now (at r) (Thrown c.in-Thrown.fault) c.advance_on.result b c.in-Thrown.is e.answers e.frame wide on.0 in
    search rules

pub returns-in-Thrown-clause-open : goal.returns-in-Thrown-clause-open
returns-in-Thrown-clause-open g c = c.advance_on.ensures.open (λ x. end_needs_none (Thrown c.in-Thrown.fault) c.advance_on.result x c.in-Thrown.is) c.needs.invariant.2

pub returns-in-Retry-clause-observes : goal.returns-in-Retry-clause-observes
returns-in-Retry-clause-observes g c =
    let l = c.args.catalogue.now in let p = c.args.pass.now in let q = c.needs.pass in let r = c.advance_on.new.pass in
    let i = c.needs.invariant in let e = c.advance_on.ensures in let b = c.advance_on.new.attempt in
    let on = read_on l c.args.tx c.args.arguments.now p q r c.needs.attempt b e.cells e.stays e.grows e.program e.variables e.agrees e.logged e.apart i.0 i.1 in
    observes l c.args.tx c.args.arguments.now (at r) b p r on.0 on.1 (ap (λ (z : CellsId). z.variables) (on.1.cells ∙ c.requires.own) ∙ c.requires.variables)

pub returns-in-Retry-clause-ended : goal.returns-in-Retry-clause-ended
returns-in-Retry-clause-ended g c =
    let l = c.args.catalogue.now in let p = c.args.pass.now in let q = c.needs.pass in let r = c.advance_on.new.pass in
    let i = c.needs.invariant in let e = c.advance_on.ensures in let b = c.advance_on.new.attempt in
    let on = read_on l c.args.tx c.args.arguments.now p q r c.needs.attempt b e.cells e.stays e.grows e.program e.variables e.agrees e.logged e.apart i.0 i.1 in
    let wide = ap length (at_stays q r e.stays) ∙ (c.law.ensures ∙ (ap (λ (z : CellsId). z.variables) (i.1.cells ∙ c.requires.own) ∙ c.requires.variables)) in
    let ended : EvaluatesTo l c.args.tx c.args.arguments.now (at r) Retries b = evaluates_to l c.args.tx c.args.arguments.now (at r) Retries c.advance_on.result b c.in-Retry.is e.answers e.frame wide on.0 in
    search rules

pub returns-in-Retry-clause-open : goal.returns-in-Retry-clause-open
returns-in-Retry-clause-open g c = c.advance_on.ensures.open (λ x. end_needs_none Retries c.advance_on.result x c.in-Retry.is) c.needs.invariant.2

pub returns-in-Memory-clause-observes : goal.returns-in-Memory-clause-observes
returns-in-Memory-clause-observes g c =
    let l = c.args.catalogue.now in let p = c.args.pass.now in let q = c.needs.pass in let r = c.advance_on.new.pass in
    let i = c.needs.invariant in let e = c.advance_on.ensures in let b = c.advance_on.new.attempt in
    let on = read_on l c.args.tx c.args.arguments.now p q r c.needs.attempt b e.cells e.stays e.grows e.program e.variables e.agrees e.logged e.apart i.0 i.1 in
    observes l c.args.tx c.args.arguments.now (at r) b p r on.0 on.1 (ap (λ (z : CellsId). z.variables) (on.1.cells ∙ c.requires.own) ∙ c.requires.variables)

pub returns-in-Memory-clause-memory : goal.returns-in-Memory-clause-memory
returns-in-Memory-clause-memory g c = λ same.
    let e = c.advance_on.ensures in (
      e.open (λ x. memory_needs_none c.advance_on.result x c.in-Memory.is) c.needs.invariant.2,
      lacks_more c.args.catalogue.now c.args.tx c.args.arguments.now (at c.needs.pass) c.advance_on.result c.needs.attempt c.advance_on.new.attempt c.in-Memory.is e.answers c.needs.invariant.0 c.needs.invariant.3 e.in_place,
    )

pub tell-requires-clause-exists : goal.tell-requires-clause-exists
tell-requires-clause-exists g c =
    let e = c.advance_on.ensures in
    omega (arith, (e.needed c.in-Need.x c.in-Need.is).0, e.variables, c.needs.invariant.0.variables, c.requires.variables)

pub needs-smaller : goal.needs-smaller
needs-smaller g c =
    let l = c.args.catalogue.now in let p = c.args.pass.now in let q = c.needs.pass in let r = c.advance_on.new.pass in
    let i = c.needs.invariant in let e = c.advance_on.ensures in let b = c.advance_on.new.attempt in
    let on = read_on l c.args.tx c.args.arguments.now p q r c.needs.attempt b e.cells e.stays e.grows e.program e.variables e.agrees e.logged e.apart i.0 i.1 in
    let x = c.in-Need.x in let needed = e.needed x c.in-Need.is in
    let room = room_for l c.args.tx c.args.arguments.now (at r) b x on.0 needed.0 needed.1 in
    let more = ap (λ s. length s.log) c.in-Ok.ensures.told in
    omega (arith, room.1, more, length_push b.log (x, value_at (at c.tell.new.pass) x), e.grows)

pub needs-preserved : goal.needs-preserved
needs-preserved g c =
    let l = c.args.catalogue.now in let p = c.args.pass.now in let q = c.needs.pass in let r = c.advance_on.new.pass in
    let i = c.needs.invariant in let e = c.advance_on.ensures in let b = c.advance_on.new.attempt in
    let on = read_on l c.args.tx c.args.arguments.now p q r c.needs.attempt b e.cells e.stays e.grows e.program e.variables e.agrees e.logged e.apart i.0 i.1 in
    let x = c.in-Need.x in let needed = e.needed x c.in-Need.is in
    let room = room_for l c.args.tx c.args.arguments.now (at r) b x on.0 needed.0 needed.1 in
    let told = c.in-Ok.ensures in let t = c.tell.new.pass in let d = c.tell.new.attempt in
    let more : length d.log ≡ length b.log + 1 = ap (λ s. length s.log) told.told ∙ length_push b.log (x, value_at (at t) x) in (
      going_told l c.args.tx c.args.arguments.now (at r) (at t) b d x (value_at (at t) x) room.0 needed.1 told.told told.agrees on.0,
      moving_more p r t (length b.log) (length d.log) b.log on.1 c.tell.ensures.reads more,
      told.open.0,
      ap (λ s. s.stand) told.told,
    )

pub returns-in-Err-Stale-clause-observes : goal.returns-in-Err-Stale-clause-observes
returns-in-Err-Stale-clause-observes g c =
    let l = c.args.catalogue.now in let p = c.args.pass.now in let q = c.needs.pass in let r = c.advance_on.new.pass in
    let i = c.needs.invariant in let e = c.advance_on.ensures in let b = c.advance_on.new.attempt in
    let on = read_on l c.args.tx c.args.arguments.now p q r c.needs.attempt b e.cells e.stays e.grows e.program e.variables e.agrees e.logged e.apart i.0 i.1 in
    let x = c.in-Need.x in let needed = e.needed x c.in-Need.is in
    let room = room_for l c.args.tx c.args.arguments.now (at r) b x on.0 needed.0 needed.1 in
    let t = c.tell.new.pass in let reads = c.tell.ensures.reads in let n = length b.log + 1 in
    let own = ap (λ (z : CellsId). z.variables) (reads.cells ∙ (on.1.cells ∙ c.requires.own)) in
    moving_few p t n (moving_more p r t (length b.log) n b.log on.1 reads (λ _. n)) (omega (arith, room.1, own, c.requires.variables))

pub returns-in-Err-Memory-clause-observes : goal.returns-in-Err-Memory-clause-observes
returns-in-Err-Memory-clause-observes g c =
    let l = c.args.catalogue.now in let p = c.args.pass.now in let q = c.needs.pass in let r = c.advance_on.new.pass in
    let i = c.needs.invariant in let e = c.advance_on.ensures in let b = c.advance_on.new.attempt in
    let on = read_on l c.args.tx c.args.arguments.now p q r c.needs.attempt b e.cells e.stays e.grows e.program e.variables e.agrees e.logged e.apart i.0 i.1 in
    let x = c.in-Need.x in let needed = e.needed x c.in-Need.is in
    let room = room_for l c.args.tx c.args.arguments.now (at r) b x on.0 needed.0 needed.1 in
    let t = c.tell.new.pass in let reads = c.tell.ensures.reads in let n = length b.log + 1 in
    let own = ap (λ (z : CellsId). z.variables) (reads.cells ∙ (on.1.cells ∙ c.requires.own)) in
    moving_few p t n (moving_more p r t (length b.log) n b.log on.1 reads (λ _. n)) (omega (arith, room.1, own, c.requires.variables))

pub returns-in-Err-Memory-clause-memory : goal.returns-in-Err-Memory-clause-memory
returns-in-Err-Memory-clause-memory g c =
    let l = c.args.catalogue.now in let p = c.args.pass.now in let q = c.needs.pass in let r = c.advance_on.new.pass in
    let i = c.needs.invariant in let e = c.advance_on.ensures in let b = c.advance_on.new.attempt in
    let on = read_on l c.args.tx c.args.arguments.now p q r c.needs.attempt b e.cells e.stays e.grows e.program e.variables e.agrees e.logged e.apart i.0 i.1 in
    let lacks = lacks_room l c.args.tx c.args.arguments.now (at r) c.advance_on.result c.in-Need.x b c.tell.new.attempt c.in-Need.is e.answers on.0 (e.needed c.in-Need.x c.in-Need.is) in
    search rules

pub returns-in-Err-Stale-clause-stale : goal.returns-in-Err-Stale-clause-stale
returns-in-Err-Stale-clause-stale g c =
    let l = c.args.catalogue.now in let p = c.args.pass.now in let q = c.needs.pass in let r = c.advance_on.new.pass in
    let i = c.needs.invariant in let e = c.advance_on.ensures in let b = c.advance_on.new.attempt in
    let on = read_on l c.args.tx c.args.arguments.now p q r c.needs.attempt b e.cells e.stays e.grows e.program e.variables e.agrees e.logged e.apart i.0 i.1 in
    let stale : IsCutFrom r c.tell.new.pass b.log → IsStaleFrom p c.tell.new.pass =
    cut_stale p r c.tell.new.pass (length b.log) b.log on.1 on.0.agrees c.tell.ensures.reads in
    search rules
