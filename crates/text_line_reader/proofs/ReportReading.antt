-- What is read is the report of the text, and which fault comes first where there is none.
use Rattle.std.proofs.Common.{◌≡◌, ◌∙◌, ℕ, ◌≤◌, true, false, cond, List, length, Result, Ok, Err, refl, sym, subst, ◌⊎◌, inl, inr}
use Rattle.std.specs.Prelude.{nat_lt, All, FitsSigned, IfOk, IfErr, OnOk}
use Rattle.std.specs.Int.{w64}
use Rattle.std.specs.List.{list_all}
use Rattle.std.proofs.lemmas.Bool.{ltb-true}
use Rattle.std.proofs.lemmas.List.Elements.{recursion_from_All}
use Rattle.txn_programs.specs.Listing.{Listing}
use Rattle.txn_programs.specs.Told.{Told}
use Rattle.txn_programs.proofs.Lawful.{few_tasks}
use Rattle.text_words.specs.Bytes.{is_allowed}
use Rattle.text_words.specs.Answers.{◌>>=◌, Gives, Fails}
use Rattle.text_words.specs.declared.fault.ReadFault.{ReadFault}
use Rattle.text_words.specs.declared.fault.ReadFault.TheVariants as faults
use Rattle.text_words.proofs.Steps.{bind_ok, chosen}
use Rattle.text_line_reader.specs.Lines.{lines}
use Rattle.text_line_reader.specs.ReportRaw.{Raw}
use Rattle.text_line_reader.specs.ReportReading.{raw_at}
use Rattle.text_line_reader.specs.ReportResolving.{names_known, told_of, resolved}
use Rattle.text_line_reader.specs.Reports.{max_len, knows_cells, IsReport, IsWritten, IsFirst, report_at}
use Rattle.text_line_reader.proofs.ReportAllowed.{raw_allowed}
use Rattle.text_line_reader.proofs.ReportAgains.{report_again, written_report}
use Rattle.text_line_reader.proofs.ReportBacks.{told_back, cells_initial}
use Rattle.text_line_reader.proofs.ReportBlame.{raw_shape, told_limit}
use Rattle.text_line_reader.proofs.ReportTexts.{written_is_read, read_is_written}
use Rattle.text_line_reader.proofs.Reading.{at_most, not_over, failed_in}
pub use Rattle.text_line_reader.proofs.Reading.{Rules}

-- a result that is Ok has passed both tests
record Passed (l : Listing) (bytes : List ℕ) : Type 0 where
  short : length bytes ≤ max_len l
  allowed : list_all is_allowed bytes ≡ true

abbrev rest_at : Listing → List ℕ → Result Told ReadFault
rest_at l bytes = raw_at (knows_cells l) (length l.names) (lines bytes) >>= λ r. resolved l r

passed : (l : Listing) (bytes : List ℕ) (t : Told) → report_at l bytes ≡ Ok t → Passed l bytes × (rest_at l bytes ≡ Ok t)
unfolding report_at
passed l bytes t e =
    elim (chosen (nat_lt (max_len l) (length bytes)) (Err faults.TooLong) (cond (list_all is_allowed bytes) (rest_at l bytes) (Err faults.BadByte)) (Ok t) e) [
      | inl p ↦ absurd (let h = p.1 in cc)
      | inr p ↦ elim (chosen (list_all is_allowed bytes) (rest_at l bytes) (Err faults.BadByte) (Ok t) p.1) [
        | inl q ↦ (record { short = at_most (length bytes) (max_len l) p.0; allowed = q.0 }, q.1)
        | inr q ↦ absurd (let h = q.1 in cc)
      ]
    ]

by_names : (l : Listing) (r : Raw) (t : Told) → resolved l r ≡ Ok t → (names_known l r ≡ true) × (told_of l r ≡ Ok t)
unfolding resolved
by_names l r t e =
    elim (chosen (names_known l r) (told_of l r) (Err faults.Name) (Ok t) e) [
      | inl p ↦ p
      | inr p ↦ absurd (let h = p.1 in cc)
    ]

report_back : (l : Listing) (bytes : List ℕ) (t : Told) → Rules l → All (FitsSigned w64) (cells_initial l) → report_at l bytes ≡ Ok t → IsReport l bytes t
report_back l bytes t rules fit e =
    let p = passed l bytes t e in
    let r = bind_ok (raw_at (knows_cells l) (length l.names) (lines bytes)) _ t p.1 in
    let w = read_is_written l bytes r.0 p.0.short r.1 in
    let n = by_names l r.0 t r.2 in
    let b = told_back l r.0 t rules.valued rules.limits (recursion_from_All (FitsSigned w64) (cells_initial l) fit) (few_tasks l rules.limits) w.words n.0 n.1 in
    record { short = p.0.short; text = w.text ∙ b.text; fits = b.fits; values = b.values; outside = b.outside }

passes : (l : Listing) (bytes : List ℕ) → length bytes ≤ max_len l → list_all is_allowed bytes ≡ true → report_at l bytes ≡ rest_at l bytes
unfolding report_at
passes l bytes short allowed = rw (not_over (length bytes) (max_len l) short, allowed) refl

pub report_read : (l : Listing) (bytes : List ℕ) (t : Told) → Rules l → IsReport l bytes t → report_at l bytes ≡ Ok t
report_read l bytes t rules is =
    let a = report_again l t rules.valued rules.names rules.limits (few_tasks l rules.limits) is.fits is.values is.outside in
    let w : IsWritten l bytes (written_report l t) = record { short = is.short; text = is.text ∙ a.text; words = a.words } in
    passes l bytes is.short (raw_allowed l bytes (written_report l t) w) ∙ rw (written_is_read l bytes (written_report l t) w) a.told

-- ---- the first fault

in_names : (l : Listing) (r : Raw) (e : ReadFault) → resolved l r ≡ Err e → ((names_known l r ≡ true) × (e ≡ faults.Limit)) ⊎ ((names_known l r ≡ false) × (e ≡ faults.Name))
unfolding resolved
in_names l r e h =
    elim (chosen (names_known l r) (told_of l r) (Err faults.Name) (Err e) h) [
      | inl p ↦ inl (p.0, (told_limit l r p.0).by e p.1)
      | inr p ↦ inr (p.0, cc)
    ]

no_raw : (l : Listing) (bytes : List ℕ) (e : ReadFault) → raw_at (knows_cells l) (length l.names) (lines bytes) ≡ Err e → (r : Raw) → IsWritten l bytes r → ⊥
no_raw l bytes e h r w = let k = written_is_read l bytes r w in absurd cc

no_report : (l : Listing) (bytes : List ℕ) (e : ReadFault) → Rules l → report_at l bytes ≡ Err e → (t : Told) → IsReport l bytes t → ⊥
no_report l bytes e rules h t is = let k = report_read l bytes t rules is in absurd cc

pub first_is : (l : Listing) (bytes : List ℕ) (e : ReadFault) → Rules l → report_at l bytes ≡ Err e → IsFirst l bytes e
unfolding report_at
first_is l bytes e rules h =
    elim (chosen (nat_lt (max_len l) (length bytes)) (Err faults.TooLong) (cond (list_all is_allowed bytes) (rest_at l bytes) (Err faults.BadByte)) (Err e) h) [
      | inl p ↦ subst (IsFirst l bytes) (let s : faults.TooLong ≡ e = cc in s) (ltb-true (max_len l) (length bytes) p.0)
      | inr p ↦
          let short = at_most (length bytes) (max_len l) p.0 in
          elim (chosen (list_all is_allowed bytes) (rest_at l bytes) (Err faults.BadByte) (Err e) p.1) [
            | inr q ↦ subst (IsFirst l bytes) (let s : faults.BadByte ≡ e = cc in s) (short, q.0)
            | inl q ↦ elim (failed_in (raw_at (knows_cells l) (length l.names) (lines bytes)) (λ r. resolved l r) e q.1) [
              | inl s ↦ subst (IsFirst l bytes) (sym ((raw_shape (knows_cells l) (length l.names) (lines bytes)).by e s)) (short, q.0, no_raw l bytes e s)
              | inr s ↦
                  let w = read_is_written l bytes s.0 short s.1 in
                  elim (in_names l s.0 e s.2) [
                    | inl n ↦ subst (IsFirst l bytes) (sym n.1) (s.0, (w, n.0, no_report l bytes e rules h))
                    | inr n ↦ subst (IsFirst l bytes) (sym n.1) (s.0, (w, n.0))
                  ]
            ]
          ]
    ]

-- ---- the clauses

pub is_found : {X : Type 0} (view : X → Told) (l : Listing) (bytes : List ℕ) (r : Result X ReadFault) → Rules l → OnOk r (All (FitsSigned w64) (cells_initial l)) → Gives view r (report_at l bytes) → IfOk r (λ x. IsReport l bytes (view x))
is_found view l bytes (Ok x) rules fit given = report_back l bytes (view x) rules fit given
is_found view l bytes (Err e) rules fit given = tt

pub is_only : {X : Type 0} (view : X → Told) (l : Listing) (bytes : List ℕ) (r : Result X ReadFault) (t : Told) → Rules l → Gives view r (report_at l bytes) → IsReport l bytes t → Gives view r (Ok t)
is_only view l bytes r t rules given is = subst (Gives view r) (report_read l bytes t rules is) given

which : (e : ReadFault) (l : Listing) (bytes : List ℕ) → Rules l → Fails e (report_at l bytes) → (e ≡ faults.Memory) ⊎ IsFirst l bytes e
which faults.TooLong l bytes rules h = inr (first_is l bytes faults.TooLong rules h)
which faults.BadByte l bytes rules h = inr (first_is l bytes faults.BadByte rules h)
which faults.Shape l bytes rules h = inr (first_is l bytes faults.Shape rules h)
which faults.Name l bytes rules h = inr (first_is l bytes faults.Name rules h)
which faults.Limit l bytes rules h = inr (first_is l bytes faults.Limit rules h)
which faults.Broken l bytes rules h = inr (first_is l bytes faults.Broken rules h)
which faults.Memory l bytes rules h = inl refl

pub is_fault : {X : Type 0} (view : X → Told) (l : Listing) (bytes : List ℕ) (r : Result X ReadFault) → Rules l → Gives view r (report_at l bytes) → IfErr r (λ e. (e ≡ faults.Memory) ⊎ IsFirst l bytes e)
is_fault view l bytes (Ok x) rules given = tt
is_fault view l bytes (Err e) rules given = which e l bytes rules given
