use Rattle.std.proofs.Common.{◌≡◌, ℕ, ◌+◌, ◌*◌, ◌%◌, ◌≤◌, [], ◌∷◌, length, sym, refl, ap, ◌∙◌, subst, inl, inr, arith}
use Rattle.std.specs.Int.{w64, cast_signed, cast_unsigned}
use Rattle.std.proofs.lemmas.Int.{of_z-to_z}
use Rattle.txn_words.specs.Words.{state_value}
use Rattle.txn_words.specs.Loads.{PassRecord, sampled, loaded, seen_value, ShowsStale}
use Rattle.cells.specs.Sight.{Sight, reading, record_of}
use Rattle.cells.specs.Cells.{CellsId}
use Rattle.cells.specs.Passing.{Passing, at}
use Rattle.cells.specs.Private.{HasVersion, HasValue}
use Rattle.cells.proofs.Readers.{still_reading, still_reader, cells_stay, reads_by}
use Rattle.cells.proofs.pass.Pass.read.Goals.{then-first-ne0-via-then-first-ne0, then-first-ne0-via-else-first-ne0+then-first-self}
use Rattle.cells.proofs.pass.Pass.read.Goals as goal

counted : (n : ℕ) → n + 1 + 1 + 1 ≡ n + 3
counted n = omega arith

stale_by : (d : Sight) (y : PassRecord) → d ≡ reading y → ShowsStale y.rv y.loads → ShowsStale (record_of d).rv (record_of d).loads
stale_by d y is h = subst (λ (d : Sight). ShowsStale (record_of d).rv (record_of d).loads) (sym is) h

pub load_version-first-requires-clause-own : goal.load_version-first-requires-clause-own
load_version-first-requires-clause-own c =
    let own0 = ap (λ v. v.cells) c.self.view_is ∙ (c.requires.own ∙ sym c.cells.view_is) in
    own0

pub load_version-first-requires-clause-exists : goal.load_version-first-requires-clause-exists
load_version-first-requires-clause-exists c =
    let exists = c.requires.exists in let all = ap (λ (z : CellsId). z.variables) (sym c.cells.view_is) in omega arith

pub load_value-value-requires-clause-own : goal.load_value-value-requires-clause-own
load_value-value-requires-clause-own c =
    let x : ℕ = c.args.x.0 in let seat0 = c.self.inside.seat in let r0 : PassRecord = record_of seat0.me.0 in
    let own0 = ap (λ v. v.cells) c.self.view_is ∙ (c.requires.own ∙ sym c.cells.view_is) in
    let seat1 = c.load_version-first.new.seat in let first : ℕ = c.load_version-first.result in let r1 : PassRecord = sampled x first r0 in
    let place1 = c.load_version-first.ensures.seat.0 in let is1 : seat1.me.0 ≡ reading r1 = c.load_version-first.ensures.told in
    cells_stay seat0 seat1 r1 place1 is1 refl refl ∙ own0

pub load_value-value-requires-clause-reader : goal.load_value-value-requires-clause-reader
load_value-value-requires-clause-reader c =
    let x : ℕ = c.args.x.0 in let seat0 = c.self.inside.seat in let r0 : PassRecord = record_of seat0.me.0 in
    let seat1 = c.load_version-first.new.seat in let first : ℕ = c.load_version-first.result in let r1 : PassRecord = sampled x first r0 in
    let place1 = c.load_version-first.ensures.seat.0 in let is1 : seat1.me.0 ≡ reading r1 = c.load_version-first.ensures.told in
    still_reader _ r1 is1

pub load_value-value-requires-clause-exists : goal.load_value-value-requires-clause-exists
load_value-value-requires-clause-exists c =
    let exists = c.requires.exists in let all = ap (λ (z : CellsId). z.variables) (sym c.cells.view_is) in omega arith

pub load_value-value-requires-clause-after : goal.load_value-value-requires-clause-after
load_value-value-requires-clause-after c =
    let x : ℕ = c.args.x.0 in let seat0 = c.self.inside.seat in let r0 : PassRecord = record_of seat0.me.0 in
    let seat1 = c.load_version-first.new.seat in let first : ℕ = c.load_version-first.result in let r1 : PassRecord = sampled x first r0 in
    let place1 = c.load_version-first.ensures.seat.0 in let is1 : seat1.me.0 ≡ reading r1 = c.load_version-first.ensures.told in
    subst (λ (d : Sight). HasVersion (record_of d) x) (sym is1) (refl, (first, refl))

pub load_version_again-second-requires-clause-own : goal.load_version_again-second-requires-clause-own
load_version_again-second-requires-clause-own c =
    let x : ℕ = c.args.x.0 in let seat0 = c.self.inside.seat in let r0 : PassRecord = record_of seat0.me.0 in
    let own0 = ap (λ v. v.cells) c.self.view_is ∙ (c.requires.own ∙ sym c.cells.view_is) in
    let seat1 = c.load_version-first.new.seat in let first : ℕ = c.load_version-first.result in let r1 : PassRecord = sampled x first r0 in
    let place1 = c.load_version-first.ensures.seat.0 in let is1 : seat1.me.0 ≡ reading r1 = c.load_version-first.ensures.told in
    let seat2 = c.load_value-value.new.seat in let value : ℕ = c.load_value-value.result in let r2 : PassRecord = loaded value r1 in
    let place2 = c.load_value-value.ensures.seat.0 ∙ place1 in let is2 : seat2.me.0 ≡ reading r2 = c.load_value-value.ensures.told ∙ ap (λ (d : Sight). reading (loaded value (record_of d))) is1 in
    cells_stay seat0 seat2 r2 place2 is2 refl refl ∙ own0

pub load_version_again-second-requires-clause-reader : goal.load_version_again-second-requires-clause-reader
load_version_again-second-requires-clause-reader c =
    let x : ℕ = c.args.x.0 in let seat0 = c.self.inside.seat in let r0 : PassRecord = record_of seat0.me.0 in
    let seat1 = c.load_version-first.new.seat in let first : ℕ = c.load_version-first.result in let r1 : PassRecord = sampled x first r0 in
    let place1 = c.load_version-first.ensures.seat.0 in let is1 : seat1.me.0 ≡ reading r1 = c.load_version-first.ensures.told in
    let seat2 = c.load_value-value.new.seat in let value : ℕ = c.load_value-value.result in let r2 : PassRecord = loaded value r1 in
    let place2 = c.load_value-value.ensures.seat.0 ∙ place1 in let is2 : seat2.me.0 ≡ reading r2 = c.load_value-value.ensures.told ∙ ap (λ (d : Sight). reading (loaded value (record_of d))) is1 in
    still_reader _ r2 is2

pub load_version_again-second-requires-clause-exists : goal.load_version_again-second-requires-clause-exists
load_version_again-second-requires-clause-exists c =
    let exists = c.requires.exists in let all = ap (λ (z : CellsId). z.variables) (sym c.cells.view_is) in omega arith

pub load_version_again-second-requires-clause-after : goal.load_version_again-second-requires-clause-after
load_version_again-second-requires-clause-after c =
    let x : ℕ = c.args.x.0 in let seat0 = c.self.inside.seat in let r0 : PassRecord = record_of seat0.me.0 in
    let seat1 = c.load_version-first.new.seat in let first : ℕ = c.load_version-first.result in let r1 : PassRecord = sampled x first r0 in
    let place1 = c.load_version-first.ensures.seat.0 in let is1 : seat1.me.0 ≡ reading r1 = c.load_version-first.ensures.told in
    let seat2 = c.load_value-value.new.seat in let value : ℕ = c.load_value-value.result in let r2 : PassRecord = loaded value r1 in
    let place2 = c.load_value-value.ensures.seat.0 ∙ place1 in let is2 : seat2.me.0 ≡ reading r2 = c.load_value-value.ensures.told ∙ ap (λ (d : Sight). reading (loaded value (record_of d))) is1 in
    subst (λ (d : Sight). HasValue (record_of d) x) (sym is2) (refl, (first, value, refl))

pub invariant_of-self : goal.invariant_of-self
invariant_of-self c =
    let x : ℕ = c.args.x.0 in let seat0 = c.self.inside.seat in let r0 : PassRecord = record_of seat0.me.0 in
    let seat1 = c.load_version-first.new.seat in let first : ℕ = c.load_version-first.result in let r1 : PassRecord = sampled x first r0 in
    let place1 = c.load_version-first.ensures.seat.0 in let is1 : seat1.me.0 ≡ reading r1 = c.load_version-first.ensures.told in
    still_reading _ r1 c.self.inside.rv is1 c.self.invariant.1 c.self.invariant.2

pub returns-then-first-ne0-clause-stays : goal.returns-then-first-ne0-clause-stays
returns-then-first-ne0-clause-stays c =
    let x : ℕ = c.args.x.0 in let seat0 = c.self.inside.seat in let r0 : PassRecord = record_of seat0.me.0 in
    let seat1 = c.load_version-first.new.seat in let first : ℕ = c.load_version-first.result in let r1 : PassRecord = sampled x first r0 in
    let place1 = c.load_version-first.ensures.seat.0 in let is1 : seat1.me.0 ≡ reading r1 = c.load_version-first.ensures.told in
    reads_by _ _ _ _ _ r0 r1 _ x c.self.view_is place1 is1 refl refl refl refl refl (omega arith)

pub returns-then-first-ne0-clause-answer : goal.returns-then-first-ne0-clause-answer
returns-then-first-ne0-clause-answer c =
    let x : ℕ = c.args.x.0 in let seat0 = c.self.inside.seat in let r0 : PassRecord = record_of seat0.me.0 in
    let seat1 = c.load_version-first.new.seat in let first : ℕ = c.load_version-first.result in let r1 : PassRecord = sampled x first r0 in
    let place1 = c.load_version-first.ensures.seat.0 in let is1 : seat1.me.0 ≡ reading r1 = c.load_version-first.ensures.told in
    let rv : r0.rv ≡ c.self.inside.rv = c.self.invariant.1 in
    let why : ShowsStale r1.rv r1.loads = elim c.then-first-ne0.branch [
      | then-first-ne0-via-then-first-ne0 w ↦ inl (let odd = w.if-first-ne0.true in omega arith)
      | then-first-ne0-via-else-first-ne0+then-first-self w ↦ inr (inl (let even = w.if-first-ne0.false in let late = w.if-first-self.true in omega arith))
    ] in
    (stale_by _ r1 is1 why, refl)

pub invariant_of-self-then-second-first : goal.invariant_of-self-then-second-first
invariant_of-self-then-second-first c =
    let x : ℕ = c.args.x.0 in let seat0 = c.self.inside.seat in let r0 : PassRecord = record_of seat0.me.0 in
    let seat1 = c.load_version-first.new.seat in let first : ℕ = c.load_version-first.result in let r1 : PassRecord = sampled x first r0 in
    let place1 = c.load_version-first.ensures.seat.0 in let is1 : seat1.me.0 ≡ reading r1 = c.load_version-first.ensures.told in
    let seat2 = c.load_value-value.new.seat in let value : ℕ = c.load_value-value.result in let r2 : PassRecord = loaded value r1 in
    let place2 = c.load_value-value.ensures.seat.0 ∙ place1 in let is2 : seat2.me.0 ≡ reading r2 = c.load_value-value.ensures.told ∙ ap (λ (d : Sight). reading (loaded value (record_of d))) is1 in
    let seat3 = c.load_version_again-second.new.seat in let second : ℕ = c.load_version_again-second.result in let r3 : PassRecord = loaded second r2 in
    let place3 = c.load_version_again-second.ensures.seat.0 ∙ place2 in let is3 : seat3.me.0 ≡ reading r3 = c.load_version_again-second.ensures.told.0 ∙ ap (λ (d : Sight). reading (loaded second (record_of d))) is2 in
    still_reading _ r3 c.self.inside.rv is3 c.self.invariant.1 c.self.invariant.2

pub returns-then-second-first-clause-stays : goal.returns-then-second-first-clause-stays
returns-then-second-first-clause-stays c =
    let x : ℕ = c.args.x.0 in let seat0 = c.self.inside.seat in let r0 : PassRecord = record_of seat0.me.0 in
    let seat1 = c.load_version-first.new.seat in let first : ℕ = c.load_version-first.result in let r1 : PassRecord = sampled x first r0 in
    let place1 = c.load_version-first.ensures.seat.0 in let is1 : seat1.me.0 ≡ reading r1 = c.load_version-first.ensures.told in
    let seat2 = c.load_value-value.new.seat in let value : ℕ = c.load_value-value.result in let r2 : PassRecord = loaded value r1 in
    let place2 = c.load_value-value.ensures.seat.0 ∙ place1 in let is2 : seat2.me.0 ≡ reading r2 = c.load_value-value.ensures.told ∙ ap (λ (d : Sight). reading (loaded value (record_of d))) is1 in
    let seat3 = c.load_version_again-second.new.seat in let second : ℕ = c.load_version_again-second.result in let r3 : PassRecord = loaded second r2 in
    let place3 = c.load_version_again-second.ensures.seat.0 ∙ place2 in let is3 : seat3.me.0 ≡ reading r3 = c.load_version_again-second.ensures.told.0 ∙ ap (λ (d : Sight). reading (loaded second (record_of d))) is2 in
    reads_by _ _ _ _ _ r0 r3 _ x c.self.view_is place3 is3 refl refl (counted r0.word_loads) refl refl (omega arith)

pub returns-then-second-first-clause-answer : goal.returns-then-second-first-clause-answer
returns-then-second-first-clause-answer c =
    let x : ℕ = c.args.x.0 in let seat0 = c.self.inside.seat in let r0 : PassRecord = record_of seat0.me.0 in
    let seat1 = c.load_version-first.new.seat in let first : ℕ = c.load_version-first.result in let r1 : PassRecord = sampled x first r0 in
    let place1 = c.load_version-first.ensures.seat.0 in let is1 : seat1.me.0 ≡ reading r1 = c.load_version-first.ensures.told in
    let seat2 = c.load_value-value.new.seat in let value : ℕ = c.load_value-value.result in let r2 : PassRecord = loaded value r1 in
    let place2 = c.load_value-value.ensures.seat.0 ∙ place1 in let is2 : seat2.me.0 ≡ reading r2 = c.load_value-value.ensures.told ∙ ap (λ (d : Sight). reading (loaded value (record_of d))) is1 in
    let seat3 = c.load_version_again-second.new.seat in let second : ℕ = c.load_version_again-second.result in let r3 : PassRecord = loaded second r2 in
    let place3 = c.load_version_again-second.ensures.seat.0 ∙ place2 in let is3 : seat3.me.0 ≡ reading r3 = c.load_version_again-second.ensures.told.0 ∙ ap (λ (d : Sight). reading (loaded second (record_of d))) is2 in
    (stale_by _ r3 is3 (inr (inr (refl, c.if-second-first.true))), refl)

pub invariant_of-self-2 : goal.invariant_of-self-2
invariant_of-self-2 c =
    let x : ℕ = c.args.x.0 in let seat0 = c.self.inside.seat in let r0 : PassRecord = record_of seat0.me.0 in
    let seat1 = c.load_version-first.new.seat in let first : ℕ = c.load_version-first.result in let r1 : PassRecord = sampled x first r0 in
    let place1 = c.load_version-first.ensures.seat.0 in let is1 : seat1.me.0 ≡ reading r1 = c.load_version-first.ensures.told in
    let seat2 = c.load_value-value.new.seat in let value : ℕ = c.load_value-value.result in let r2 : PassRecord = loaded value r1 in
    let place2 = c.load_value-value.ensures.seat.0 ∙ place1 in let is2 : seat2.me.0 ≡ reading r2 = c.load_value-value.ensures.told ∙ ap (λ (d : Sight). reading (loaded value (record_of d))) is1 in
    let seat3 = c.load_version_again-second.new.seat in let second : ℕ = c.load_version_again-second.result in let r3 : PassRecord = loaded second r2 in
    let place3 = c.load_version_again-second.ensures.seat.0 ∙ place2 in let is3 : seat3.me.0 ≡ reading r3 = c.load_version_again-second.ensures.told.0 ∙ ap (λ (d : Sight). reading (loaded second (record_of d))) is2 in
    still_reading _ r3 c.self.inside.rv is3 c.self.invariant.1 c.self.invariant.2

pub returns-clause-stays : goal.returns-clause-stays
returns-clause-stays c =
    let x : ℕ = c.args.x.0 in let seat0 = c.self.inside.seat in let r0 : PassRecord = record_of seat0.me.0 in
    let seat1 = c.load_version-first.new.seat in let first : ℕ = c.load_version-first.result in let r1 : PassRecord = sampled x first r0 in
    let place1 = c.load_version-first.ensures.seat.0 in let is1 : seat1.me.0 ≡ reading r1 = c.load_version-first.ensures.told in
    let seat2 = c.load_value-value.new.seat in let value : ℕ = c.load_value-value.result in let r2 : PassRecord = loaded value r1 in
    let place2 = c.load_value-value.ensures.seat.0 ∙ place1 in let is2 : seat2.me.0 ≡ reading r2 = c.load_value-value.ensures.told ∙ ap (λ (d : Sight). reading (loaded value (record_of d))) is1 in
    let seat3 = c.load_version_again-second.new.seat in let second : ℕ = c.load_version_again-second.result in let r3 : PassRecord = loaded second r2 in
    let place3 = c.load_version_again-second.ensures.seat.0 ∙ place2 in let is3 : seat3.me.0 ≡ reading r3 = c.load_version_again-second.ensures.told.0 ∙ ap (λ (d : Sight). reading (loaded second (record_of d))) is2 in
    reads_by _ _ _ _ _ r0 r3 _ x c.self.view_is place3 is3 refl refl (counted r0.word_loads) refl refl (omega arith)

pub returns-clause-answer : goal.returns-clause-answer
returns-clause-answer c =
    let x : ℕ = c.args.x.0 in let seat0 = c.self.inside.seat in let r0 : PassRecord = record_of seat0.me.0 in
    let seat1 = c.load_version-first.new.seat in let first : ℕ = c.load_version-first.result in let r1 : PassRecord = sampled x first r0 in
    let place1 = c.load_version-first.ensures.seat.0 in let is1 : seat1.me.0 ≡ reading r1 = c.load_version-first.ensures.told in
    let seat2 = c.load_value-value.new.seat in let value : ℕ = c.load_value-value.result in let r2 : PassRecord = loaded value r1 in
    let place2 = c.load_value-value.ensures.seat.0 ∙ place1 in let is2 : seat2.me.0 ≡ reading r2 = c.load_value-value.ensures.told ∙ ap (λ (d : Sight). reading (loaded value (record_of d))) is1 in
    let seat3 = c.load_version_again-second.new.seat in let second : ℕ = c.load_version_again-second.result in let r3 : PassRecord = loaded second r2 in
    let place3 = c.load_version_again-second.ensures.seat.0 ∙ place2 in let is3 : seat3.me.0 ≡ reading r3 = c.load_version_again-second.ensures.told.0 ∙ ap (λ (d : Sight). reading (loaded second (record_of d))) is2 in
    let rv : r0.rv ≡ c.self.inside.rv = c.self.invariant.1 in let same : second ≡ first = c.if-second-first.false in let even = c.if-first-ne0.false in let early = c.if-first-self.false in
    let tells = subst (λ (d : Sight). (v : ℕ) → (record_of d).loads ≡ second ∷ v ∷ [] → second % 2 ≡ 0 → second ≤ 2 * (record_of d).rv → cast_signed w64 v ≡ seen_value (record_of d) (record_of d).variable) is2 c.load_version_again-second.ensures.told.1 in
    let found : cast_signed w64 value ≡ seen_value r0 x = tells value (λ i. sym same i ∷ value ∷ []) (omega arith) (omega arith) in
    let result : cast_signed w64 (cast_unsigned w64 c.cast_signed.result) ≡ cast_signed w64 value = ap (cast_signed w64) (ap (cast_unsigned w64) c.cast_signed.ensures ∙ of_z-to_z w64 value c.load_value-value.type_inv) in
    let seen_same : seen_value r0 x ≡ state_value (at c.args.self.now) x = ap (λ (p : Passing). state_value (at p) x) c.self.view_is in
    (result ∙ (found ∙ seen_same), subst (λ (d : Sight). length (record_of d).loads ≡ 3) (sym is3) refl, refl)
