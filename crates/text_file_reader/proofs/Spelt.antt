-- What is read is spelled so, and what is spelled so is read.
use Rattle.std.proofs.Common.{◌≡◌, ℕ, true, cond, List, Result, Ok, Err, refl, sym, subst, ◌∙◌, ◌⊎◌, inl, inr}
use Rattle.std.specs.Prelude.{IfOk, IfErr, Some, None}
use Rattle.txn_programs.specs.Listing.{Listing}
use Rattle.txn_programs.specs.Names.{names_hold}
use Rattle.txn_programs.specs.Limits.{limits_hold}
use Rattle.txn_programs.specs.Standing.{upholds}
use Rattle.txn_programs.proofs.Lawful.{limits_parts}
use Rattle.text_grammar.specs.Tree.{File, SpellsTree}
use Rattle.text_words.specs.Answers.{Gives, Fails}
use Rattle.text_grammar.specs.Reading.{tree_of}
use Rattle.text_grammar.specs.Written.{written_in}
use Rattle.text_grammar.specs.Resolving.{resolved}
use Rattle.text_grammar.specs.Spelling.{Declares, Spells, lawful, listing_at, fault_in, first_fault}
use Rattle.text_words.specs.declared.fault.ReadFault.{ReadFault}
use Rattle.text_words.specs.declared.fault.ReadFault.TheVariants as faults
use Rattle.text_words.proofs.Steps.{bind_ok, ok_is, done, chosen}
use Rattle.text_grammar.proofs.Files.{tree_takes, tree_again}
use Rattle.text_file_reader.proofs.Declared.{resolved_is}
use Rattle.text_file_reader.proofs.Back.{kept, converted_parts, converted_back}
use Rattle.text_file_reader.proofs.Again.{resolved_again}

-- the listing, where its conditions are true of its initial values
abbrev pub upheld : Listing → Result Listing ReadFault
upheld l = cond (upholds l l.initial) (Ok l) (Err faults.Broken)

lawful_is : (l c : Listing) → lawful l ≡ Ok c → (l ≡ c) × (names_hold l ≡ true) × (limits_hold l ≡ true) × (upholds l l.initial ≡ true)
lawful_is l c e =
    elim (chosen (names_hold l) (cond (limits_hold l) (upheld l) (Err faults.Limit)) (Err faults.Name) (Ok c) e) [
      | inl p ↦ elim (chosen (limits_hold l) (upheld l) (Err faults.Limit) (Ok c) p.1) [
        | inl q ↦ elim (chosen (upholds l l.initial) (done l) (Err faults.Broken) (Ok c) q.1) [
          | inl u ↦ (ok_is l c u.1, p.0, q.0, u.0)
          | inr u ↦ absurd (let h = u.1 in cc)
        ]
        | inr q ↦ absurd (let h = q.1 in cc)
      ]
      | inr p ↦ absurd (let h = p.1 in cc)
    ]

-- a listing that a file is resolved to is declared by its bytes
pub resolved_declares : (bytes : List ℕ) (file : File) (l : Listing) → tree_of bytes ≡ Ok file → resolved file ≡ Ok l → names_hold l ≡ true → limits_hold l ≡ true → Declares bytes l
resolved_declares bytes file l read r names limits =
    let c = converted_parts file l (resolved_is file l r).is_converted in
    let w = converted_back file l (limits_parts l limits).each_table c in
    record {
      form = file.form;
      tables = file.tables;
      spelled = subst (SpellsTree bytes) (sym w.same) (tree_takes bytes file read);
      tabled = w.tabled;
      valued = (kept file l c).valued;
      names = names;
      limits = limits;
      integers = w.integers;
    }

pub listing_spells : (bytes : List ℕ) (c : Listing) → listing_at bytes ≡ Ok c → Spells bytes c
unfolding listing_at
listing_spells bytes c e =
    let t = bind_ok (tree_of bytes) _ c e in
    let r = bind_ok (resolved t.0) _ c t.2 in
    let p = lawful_is r.0 c r.2 in
    subst (Spells bytes) p.0 (record { declared = resolved_declares bytes t.0 r.0 t.1 r.1 p.1 p.2; upheld = p.3 })

-- what is declared is read, if its conditions are true
pub declared_listing : (bytes : List ℕ) (l : Listing) → Declares bytes l → listing_at bytes ≡ upheld l
unfolding listing_at
declared_listing bytes l d = rw (tree_again bytes (written_in d.form d.tables l) d.spelled, resolved_again d.form d.tables l d.tabled d.valued d.names d.limits d.integers, d.names, d.limits) refl

pub spelled_listing : (bytes : List ℕ) (l : Listing) → Spells bytes l → listing_at bytes ≡ Ok l
spelled_listing bytes l s = declared_listing bytes l s.declared ∙ rw s.upheld refl

-- so no limit is in its way
pub none_declared : (bytes : List ℕ) → listing_at bytes ≡ Err faults.Limit → (l : Listing) → Declares bytes l → ⊥
none_declared bytes h l d =
    elim (chosen (upholds l l.initial) (done l) (Err faults.Broken) (Err faults.Limit) (sym (declared_listing bytes l d) ∙ h)) [
      | inl p ↦ let e = p.1 in cc
      | inr p ↦ let e = p.1 in cc
    ]

-- ---- for the reader

pub is_found : {X : Type 0} (view : X → Listing) (bytes : List ℕ) (r : Result X ReadFault) → Gives view r (listing_at bytes) → IfOk r (λ c. Spells bytes (view c))
is_found view bytes (Ok c) given = listing_spells bytes (view c) given
is_found view bytes (Err e) given = tt

which : (e : ReadFault) (bytes : List ℕ) → Fails e (listing_at bytes) → (e ≡ faults.Memory) ⊎ (first_fault bytes ≡ Some e)
which faults.TooLong bytes h = inr (rw h refl)
which faults.BadByte bytes h = inr (rw h refl)
which faults.Shape bytes h = inr (rw h refl)
which faults.Name bytes h = inr (rw h refl)
which faults.Limit bytes h = inr (rw h refl)
which faults.Memory bytes h = inl refl
which faults.Broken bytes h = inr (rw h refl)

pub is_fault : {X : Type 0} (view : X → Listing) (bytes : List ℕ) (r : Result X ReadFault) → Gives view r (listing_at bytes) → IfErr r (λ e. (e ≡ faults.Memory) ⊎ (first_fault bytes ≡ Some e))
is_fault view bytes (Ok c) given = tt
is_fault view bytes (Err e) given = which e bytes given

no_fault : (bytes : List ℕ) (r : Result Listing ReadFault) → listing_at bytes ≡ r → fault_in r ≡ None → (l : Listing) × Spells bytes l
no_fault bytes (Ok l) is h = (l, listing_spells bytes l is)
no_fault bytes (Err e) is h = absurd cc

pub faultless_is : (bytes : List ℕ) → first_fault bytes ≡ None → (l : Listing) × Spells bytes l
faultless_is bytes h = no_fault bytes (listing_at bytes) refl h
