-- What is read are the moves of the text, and which fault comes first where there are none.
use Rattle.std.proofs.Common.{◌≡◌, ◌∙◌, ℕ, ◌≤◌, true, false, cond, List, length, Result, Ok, Err, refl, sym, subst, ◌⊎◌, inl, inr}
use Rattle.std.specs.Prelude.{nat_lt, IfOk, IfErr}
use Rattle.std.specs.List.{list_all}
use Rattle.std.proofs.lemmas.Bool.{ltb-true}
use Rattle.txn_programs.specs.declared.moves.Move.{Move}
use Rattle.txn_programs.specs.Listing.{Listing}
use Rattle.txn_programs.proofs.Lawful.{few_tasks}
use Rattle.text_words.specs.Bytes.{is_allowed}
use Rattle.text_words.specs.Answers.{◌>>=◌, Gives, Fails}
use Rattle.text_words.specs.declared.fault.ReadFault.{ReadFault}
use Rattle.text_words.specs.declared.fault.ReadFault.TheVariants as faults
use Rattle.text_words.proofs.Steps.{bind_ok, chosen}
use Rattle.text_line_reader.specs.Lines.{lines}
use Rattle.text_line_reader.proofs.Reading.{Rules, at_most, not_over, failed_in}
use Rattle.text_line_reader.specs.ScheduleRaw.{Raw}
use Rattle.text_line_reader.specs.ScheduleReading.{raws_at}
use Rattle.text_line_reader.specs.ScheduleResolving.{names_known, moves_told, resolved}
use Rattle.text_line_reader.specs.Reports.{knows_cells}
use Rattle.text_line_reader.specs.Schedules.{max_len, IsSchedule, IsWritten, IsFirst, schedule_at}
use Rattle.text_line_reader.proofs.Written.{written_is_read, read_is_written, written_allowed}
use Rattle.text_line_reader.proofs.ScheduleBacks.{told_back}
use Rattle.text_line_reader.proofs.ScheduleAgains.{moves_again, written_moves}
use Rattle.text_line_reader.proofs.ScheduleBlame.{raws_shape, told_limit}

-- a result that is Ok has passed both tests
record Passed (bytes : List ℕ) : Type 0 where
  short : length bytes ≤ max_len
  allowed : list_all is_allowed bytes ≡ true

abbrev rest_at : Listing → List ℕ → Result (List Move) ReadFault
rest_at l bytes = raws_at (knows_cells l) (lines bytes) >>= λ raws. resolved l raws

passed : (l : Listing) (bytes : List ℕ) (moves : List Move) → schedule_at l bytes ≡ Ok moves → Passed bytes × (rest_at l bytes ≡ Ok moves)
unfolding schedule_at
passed l bytes moves e =
    elim (chosen (nat_lt max_len (length bytes)) (Err faults.TooLong) (cond (list_all is_allowed bytes) (rest_at l bytes) (Err faults.BadByte)) (Ok moves) e) [
      | inl p ↦ absurd (let h = p.1 in cc)
      | inr p ↦ elim (chosen (list_all is_allowed bytes) (rest_at l bytes) (Err faults.BadByte) (Ok moves) p.1) [
        | inl q ↦ (record { short = at_most (length bytes) max_len p.0; allowed = q.0 }, q.1)
        | inr q ↦ absurd (let h = q.1 in cc)
      ]
    ]

by_names : (l : Listing) (raws : List Raw) (moves : List Move) → resolved l raws ≡ Ok moves → (names_known l raws ≡ true) × (moves_told l raws ≡ Ok moves)
unfolding resolved
by_names l raws moves e =
    elim (chosen (names_known l raws) (moves_told l raws) (Err faults.Name) (Ok moves) e) [
      | inl p ↦ p
      | inr p ↦ absurd (let h = p.1 in cc)
    ]

schedule_back : (l : Listing) (bytes : List ℕ) (moves : List Move) → Rules l → schedule_at l bytes ≡ Ok moves → IsSchedule l bytes moves
schedule_back l bytes moves rules e =
    let p = passed l bytes moves e in
    let r = bind_ok (raws_at (knows_cells l) (lines bytes)) _ moves p.1 in
    let w = read_is_written l bytes r.0 p.0.short r.1 in
    let n = by_names l r.0 moves r.2 in
    let b = told_back l r.0 moves rules.limits (few_tasks l rules.limits) w.words n.1 in
    record { short = p.0.short; text = w.text ∙ b.text; fits = b.fits }

passes : (l : Listing) (bytes : List ℕ) → length bytes ≤ max_len → list_all is_allowed bytes ≡ true → schedule_at l bytes ≡ rest_at l bytes
unfolding schedule_at
passes l bytes short allowed = rw (not_over (length bytes) max_len short, allowed) refl

schedule_read : (l : Listing) (bytes : List ℕ) (moves : List Move) → Rules l → IsSchedule l bytes moves → schedule_at l bytes ≡ Ok moves
schedule_read l bytes moves rules is =
    let a = moves_again l moves rules.names rules.limits (few_tasks l rules.limits) is.fits in
    let w : IsWritten l bytes (written_moves l moves) = record { short = is.short; text = is.text ∙ a.text; words = a.words } in
    passes l bytes is.short (written_allowed l bytes (written_moves l moves) w) ∙ rw (written_is_read l bytes (written_moves l moves) w) a.told

-- ---- the first fault

in_names : (l : Listing) (raws : List Raw) (e : ReadFault) → resolved l raws ≡ Err e → ((names_known l raws ≡ true) × (e ≡ faults.Limit)) ⊎ ((names_known l raws ≡ false) × (e ≡ faults.Name))
unfolding resolved
in_names l raws e h =
    elim (chosen (names_known l raws) (moves_told l raws) (Err faults.Name) (Err e) h) [
      | inl p ↦ inl (p.0, (told_limit l raws p.0).by e p.1)
      | inr p ↦ inr (p.0, cc)
    ]

no_raws : (l : Listing) (bytes : List ℕ) (e : ReadFault) → raws_at (knows_cells l) (lines bytes) ≡ Err e → (raws : List Raw) → IsWritten l bytes raws → ⊥
no_raws l bytes e h raws w = let k = written_is_read l bytes raws w in absurd cc

no_schedule : (l : Listing) (bytes : List ℕ) (e : ReadFault) → Rules l → schedule_at l bytes ≡ Err e → (moves : List Move) → IsSchedule l bytes moves → ⊥
no_schedule l bytes e rules h moves is = let k = schedule_read l bytes moves rules is in absurd cc

first_is : (l : Listing) (bytes : List ℕ) (e : ReadFault) → Rules l → schedule_at l bytes ≡ Err e → IsFirst l bytes e
unfolding schedule_at
first_is l bytes e rules h =
    elim (chosen (nat_lt max_len (length bytes)) (Err faults.TooLong) (cond (list_all is_allowed bytes) (rest_at l bytes) (Err faults.BadByte)) (Err e) h) [
      | inl p ↦ subst (IsFirst l bytes) (let s : faults.TooLong ≡ e = cc in s) (ltb-true max_len (length bytes) p.0)
      | inr p ↦
          let short = at_most (length bytes) max_len p.0 in
          elim (chosen (list_all is_allowed bytes) (rest_at l bytes) (Err faults.BadByte) (Err e) p.1) [
            | inr q ↦ subst (IsFirst l bytes) (let s : faults.BadByte ≡ e = cc in s) (short, q.0)
            | inl q ↦ elim (failed_in (raws_at (knows_cells l) (lines bytes)) (λ raws. resolved l raws) e q.1) [
              | inl s ↦ subst (IsFirst l bytes) (sym ((raws_shape (knows_cells l) (lines bytes)).by e s)) (short, q.0, no_raws l bytes e s)
              | inr s ↦
                  let w = read_is_written l bytes s.0 short s.1 in
                  elim (in_names l s.0 e s.2) [
                    | inl n ↦ subst (IsFirst l bytes) (sym n.1) (s.0, (w, n.0, no_schedule l bytes e rules h))
                    | inr n ↦ subst (IsFirst l bytes) (sym n.1) (s.0, (w, n.0))
                  ]
            ]
          ]
    ]

-- ---- the clauses

pub is_found : {X : Type 0} (view : X → List Move) (l : Listing) (bytes : List ℕ) (r : Result X ReadFault) → Rules l → Gives view r (schedule_at l bytes) → IfOk r (λ x. IsSchedule l bytes (view x))
is_found view l bytes (Ok x) rules given = schedule_back l bytes (view x) rules given
is_found view l bytes (Err e) rules given = tt

pub is_only : {X : Type 0} (view : X → List Move) (l : Listing) (bytes : List ℕ) (r : Result X ReadFault) (moves : List Move) → Rules l → Gives view r (schedule_at l bytes) → IsSchedule l bytes moves → Gives view r (Ok moves)
is_only view l bytes r moves rules given is = subst (Gives view r) (schedule_read l bytes moves rules is) given

which : (e : ReadFault) (l : Listing) (bytes : List ℕ) → Rules l → Fails e (schedule_at l bytes) → (e ≡ faults.Memory) ⊎ IsFirst l bytes e
which faults.TooLong l bytes rules h = inr (first_is l bytes faults.TooLong rules h)
which faults.BadByte l bytes rules h = inr (first_is l bytes faults.BadByte rules h)
which faults.Shape l bytes rules h = inr (first_is l bytes faults.Shape rules h)
which faults.Name l bytes rules h = inr (first_is l bytes faults.Name rules h)
which faults.Limit l bytes rules h = inr (first_is l bytes faults.Limit rules h)
which faults.Broken l bytes rules h = inr (first_is l bytes faults.Broken rules h)
which faults.Memory l bytes rules h = inl refl

pub is_fault : {X : Type 0} (view : X → List Move) (l : Listing) (bytes : List ℕ) (r : Result X ReadFault) → Rules l → Gives view r (schedule_at l bytes) → IfErr r (λ e. (e ≡ faults.Memory) ⊎ IsFirst l bytes e)
is_fault view l bytes (Ok x) rules given = tt
is_fault view l bytes (Err e) rules given = which e l bytes rules given
