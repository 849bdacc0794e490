-- Which faults are left of a text that was printed, and what it is read as.
use Rattle.std.proofs.Common.{◌≡◌, ◌<◌, ◌≤◌, ℕ, ◌⊎◌, List, length, Result, Ok, Err, refl, inl, inr}
use Rattle.std.specs.Prelude.{IfOk, IfErr}
use Rattle.txn_programs.specs.Listing.{Listing}
use Rattle.txn_programs.specs.Told.{Told}
use Rattle.txn_text.specs.Tree.{longest}
use Rattle.txn_text.specs.Answers.{Fails, Gives}
use Rattle.txn_text.specs.fault.ReadFault.{ReadFault}
use Rattle.txn_text.specs.fault.ReadFault.TheVariants.{TooLong, BadByte, Shape, Name, Limit, Memory, Broken}
use Rattle.txn_text.specs.Faults as files
use Rattle.txn_text.specs.Spelling.{Spells}
use Rattle.text_line_reader.specs.Reports as reports

abbrev pub IsLate : ReadFault → ℕ → List ℕ → Type 0
IsLate e limit text = (e ≡ Memory) ⊎ ((e ≡ TooLong) × (limit < length text))

-- what reads any text that is short enough fails by nothing else than running out of memory
never : {A : Type 0} (x : A) (e : ReadFault) → Fails e (Ok x) → e ≡ Memory
never x TooLong h = cc
never x BadByte h = cc
never x Shape h = cc
never x Name h = cc
never x Limit h = cc
never x Memory h = refl
never x Broken h = cc

file_first : (bytes : List ℕ) (l : Listing) (e : ReadFault) → (length bytes ≤ longest bytes → Fails e (Ok l)) → files.IsFirst bytes e → IsLate e (longest bytes) bytes
file_first bytes l TooLong h f = inr (refl, f)
file_first bytes l BadByte h f = inl (never l BadByte (h f.0))
file_first bytes l Shape h f = inl (never l Shape (h f.0))
file_first bytes l Name h f = inl (never l Name (h f.1.0.short))
file_first bytes l Limit h f = inl (never l Limit (h f.1.0.short))
file_first bytes l Memory h f = inl refl
file_first bytes l Broken h f = inl (never l Broken (h f.1.0.spelled.short))

pub file_late : (bytes : List ℕ) (l : Listing) (e : ReadFault) → (length bytes ≤ longest bytes → Fails e (Ok l)) → (e ≡ Memory) ⊎ files.IsFirst bytes e → IsLate e (longest bytes) bytes
file_late bytes l e h k = elim k [ inl m ↦ inl m | inr f ↦ file_first bytes l e h f ]

report_first : (l : Listing) (bytes : List ℕ) (r : Told) (e : ReadFault) → (length bytes ≤ reports.max_len l → Fails e (Ok r)) → reports.IsFirst l bytes e → IsLate e (reports.max_len l) bytes
report_first l bytes r TooLong h f = inr (refl, f)
report_first l bytes r BadByte h f = inl (never r BadByte (h f.0))
report_first l bytes r Shape h f = inl (never r Shape (h f.0))
report_first l bytes r Name h f = inl (never r Name (h f.1.0.short))
report_first l bytes r Limit h f = inl (never r Limit (h f.1.0.short))
report_first l bytes r Memory h f = inl refl
report_first l bytes r Broken h f = absurd f

pub report_late : (l : Listing) (bytes : List ℕ) (r : Told) (e : ReadFault) → (length bytes ≤ reports.max_len l → Fails e (Ok r)) → (e ≡ Memory) ⊎ reports.IsFirst l bytes e → IsLate e (reports.max_len l) bytes
report_late l bytes r e h k = elim k [ inl m ↦ inl m | inr f ↦ report_first l bytes r e h f ]

-- ---- what a reader answers of a text that was printed

pub file_back : (bytes : List ℕ) (l : Listing) (r : Result Listing ReadFault) → (length bytes ≤ longest bytes → Spells bytes l)
    → IfOk r (λ m. Spells bytes m) → ((m : Listing) → Spells bytes m → Gives (λ k. k) r (Ok m)) → IfOk r (λ m. m ≡ l)
file_back bytes l (Ok m) again found only = let e = only l (again found.declared.spelled.short) in cc
file_back bytes l (Err e) again found only = tt

pub file_fails : (bytes : List ℕ) (l : Listing) (r : Result Listing ReadFault) → (length bytes ≤ longest bytes → Spells bytes l)
    → ((m : Listing) → Spells bytes m → Gives (λ k. k) r (Ok m)) → IfErr r (λ e. (e ≡ Memory) ⊎ files.IsFirst bytes e) → IfErr r (λ e. IsLate e (longest bytes) bytes)
file_fails bytes l (Ok m) again only fault = tt
file_fails bytes l (Err e) again only fault = file_late bytes l e (λ short. only l (again short)) fault

pub report_back : {R : Type 0} (view : R → Told) (l : Listing) (bytes : List ℕ) (t : Told) (r : Result R ReadFault) → (length bytes ≤ reports.max_len l → reports.IsReport l bytes t)
    → IfOk r (λ x. reports.IsReport l bytes (view x)) → ((m : Told) → reports.IsReport l bytes m → Gives view r (Ok m)) → IfOk r (λ x. view x ≡ t)
report_back view l bytes t (Ok x) again found only = let e = only t (again found.short) in cc
report_back view l bytes t (Err e) again found only = tt

pub report_fails : {R : Type 0} (view : R → Told) (l : Listing) (bytes : List ℕ) (t : Told) (r : Result R ReadFault) → (length bytes ≤ reports.max_len l → reports.IsReport l bytes t)
    → ((m : Told) → reports.IsReport l bytes m → Gives view r (Ok m)) → IfErr r (λ e. (e ≡ Memory) ⊎ reports.IsFirst l bytes e) → IfErr r (λ e. IsLate e (reports.max_len l) bytes)
report_fails view l bytes t (Ok x) again only fault = tt
report_fails view l bytes t (Err e) again only fault = report_late l bytes t e (λ short. only t (again short)) fault
