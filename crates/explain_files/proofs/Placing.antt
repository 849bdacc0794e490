-- Each kind of fault has a place: some name or number is wrong there, or some declaration.
use Rattle.std.proofs.Common.{◌≡◌, ℕ, zero, suc, true, false, List, [], ◌∷◌, ◌++◌, length, map, Some, Result, Ok, refl, sym, ap, subst, ◌∙◌, inl, inr}
use Rattle.std.specs.List.{slice_get, flat_map}
use Rattle.std.specs.Option.{option_map}
use Rattle.std.proofs.lemmas.Option.{slice_get-map}
use Rattle.txn_programs.specs.Tree.{Condition, Transaction}
use Rattle.txn_programs.specs.Listing.{Listing, values, conditions, always_names}
use Rattle.txn_programs.specs.Limits.{limits_hold}
use Rattle.txn_programs.specs.Names.{names_hold}
use Rattle.txn_programs.specs.Scope.{ConditionsKnown}
use Rattle.txn_programs.proofs.Lawful.{standing_known}
use Rattle.txn_programs.specs.Standing.{upholds}
use Rattle.text_words.specs.Tokens.{Lexeme, tokens}
use Rattle.text_words.specs.Tokens as token
use Rattle.text_words.specs.Answers.{Fails}
use Rattle.text_words.specs.declared.fault.ReadFault.{ReadFault}
use Rattle.text_words.specs.declared.fault.ReadFault.TheVariants as faults
use Rattle.text_words.proofs.Steps.{bind_ok, ok_is}
use Rattle.text_grammar.specs.Tree.{Always, Declaration, File, SpellsTree, always_tokens, tx_tokens, file_tokens}
use Rattle.text_grammar.specs.Reading.{tree_of}
use Rattle.text_grammar.specs.Written.{written_in}
use Rattle.text_grammar.specs.Resolving.{condition_name, tx_name, resolved}
use Rattle.text_grammar.specs.Spelling.{Declares, lawful, listing_at, fault_in, first_fault}
use Rattle.text_grammar.proofs.Files.{tree_takes, tree_again}
use Rattle.text_file_reader.specs.Faults.{IsFirst}
use Rattle.text_file_reader.proofs.Back.{IsKept}
use Rattle.text_file_reader.proofs.Again.{resolved_again}
use Rattle.text_file_reader.proofs.FirstFault.{first_fault_is}
use Rattle.explain_files.specs.declared.wanted.NameUse.{NameUse}
use Rattle.explain_files.specs.declared.wanted.NameUse.TheVariants as name
use Rattle.explain_files.specs.declared.wanted.Role.TheVariants as role
use Rattle.text_grammar.specs.declared.file.FileForm.{FileForm}
use Rattle.explain_files.specs.Roles.{form_of}
use Rattle.explain_files.specs.Judging.{AllTokens, IsRight}
use Rattle.explain_files.specs.Limiting.{limit_fault_at}
use Rattle.explain_files.specs.Declarations.{declared_by, IsListed, DoesNotDeclare, IsCostly, CostsHold, IsUntrue, IsFalse}
use Rattle.explain_files.proofs.Announced.{form_spelled}
use Rattle.explain_files.proofs.Passed.{Seen, Fact, Along, all_along, with_condition, with_transaction, onward, in_always, in_tx, behind_always, behind_tx, InFile, at_always, at_txs, in_file}
use Rattle.explain_files.proofs.Named.{bool_cases}
use Rattle.explain_files.proofs.Fitting.{LimitRight, names_of, names_of_txs, Fits, file_fits}

-- ---- a declaration of a listing is one of the tokens

-- no token declares this name
abbrev Undeclared : NameUse → List ℕ → Fact
Undeclared declared text s used t behind = used ≡ role.Name declared → t ≡ token.Name text → ⊥

condition_there : (announced : FileForm) (text : List ℕ) (all : List Always) (s : Seen) (ts : List Lexeme) (i : ℕ) → Along (Undeclared name.Condition text) announced s role.Value (flat_map always_tokens all ++ ts)
    → slice_get (map condition_name all) i ≡ Some text → ⊥
condition_there announced text [] s ts i h e = absurd cc
condition_there announced text (a ∷ all) s ts zero h e =
    let o = onward (Undeclared name.Condition text) announced s always_tokens a all ts h in
    let same : a.name ≡ text = cc in
    (in_always (Undeclared name.Condition text) announced s a (flat_map always_tokens all ++ ts) o).0 refl (ap token.Name same)
condition_there announced text (a ∷ all) s ts (suc i) h e =
    let o = onward (Undeclared name.Condition text) announced s always_tokens a all ts h in
    condition_there announced text all (with_condition s a.name) ts i (behind_always (Undeclared name.Condition text) announced s a (flat_map always_tokens all ++ ts) o) e

transaction_there : (announced : FileForm) (text : List ℕ) (all : List Declaration) (s : Seen) (ts : List Lexeme) (i : ℕ) → Along (Undeclared name.Transaction text) announced s role.Value (flat_map (tx_tokens announced) all ++ ts)
    → slice_get (map tx_name all) i ≡ Some text → ⊥
transaction_there announced text [] s ts i h e = absurd cc
transaction_there announced text (t ∷ all) s ts zero h e =
    let o = onward (Undeclared name.Transaction text) announced s (tx_tokens announced) t all ts h in
    let same : t.name ≡ text = cc in
    (in_tx (Undeclared name.Transaction text) announced s t (flat_map (tx_tokens announced) all ++ ts) o).named refl (ap token.Name same)
transaction_there announced text (t ∷ all) s ts (suc i) h e =
    let o = onward (Undeclared name.Transaction text) announced s (tx_tokens announced) t all ts h in
    transaction_there announced text all (with_transaction announced s t) ts i (behind_tx (Undeclared name.Transaction text) announced s t (flat_map (tx_tokens announced) all ++ ts) o) e

-- the file that a listing is of
record FileOf (bytes : List ℕ) (l : Listing) : Type 0 where
  file : File
  spelled : SpellsTree bytes file
  named : IsKept file l

file_of : (bytes : List ℕ) (l : Listing) → declared_by bytes ≡ Ok l → FileOf bytes l
file_of bytes l d =
    let b = bind_ok (tree_of bytes) _ l d in
    record { file = b.0; spelled = tree_takes bytes b.0 b.1; named = names_of b.0 l b.2 }

-- none of its tokens declares the name
none_declares : (bytes : List ℕ) (file : File) (used : NameUse) (text : List ℕ) → SpellsTree bytes file → AllTokens (DoesNotDeclare (form_of (tokens bytes)) used text) bytes
    → InFile (Undeclared used text) file
none_declares bytes file used text spelled all =
    let own : AllTokens (DoesNotDeclare file.form used text) bytes = subst (λ (announced : FileForm). AllTokens (DoesNotDeclare announced used text) bytes) (form_spelled bytes file spelled) all in
    in_file (Undeclared used text) file (all_along (Undeclared used text) file.form bytes (file_tokens file) spelled.spelled own)

condition_declared : (bytes : List ℕ) (l : Listing) (i : ℕ) (text : List ℕ) (c : Condition) → declared_by bytes ≡ Ok l → slice_get l.always i ≡ Some (text, c)
    → AllTokens (DoesNotDeclare (form_of (tokens bytes)) name.Condition text) bytes → ⊥
condition_declared bytes l i text c d e all =
    let of = file_of bytes l d in
    let named : slice_get (always_names l) i ≡ Some text = slice_get-map (λ (a : List ℕ × Condition). a.0) l.always i ∙ ap (option_map (λ (a : List ℕ × Condition). a.0)) e in
    let there = none_declares bytes of.file name.Condition text of.spelled all in
    condition_there of.file.form text of.file.always (at_always of.file) _ i there.always (sym (ap (λ (ns : List (List ℕ)). slice_get ns i) of.named.always) ∙ named)

transaction_declared : (bytes : List ℕ) (l : Listing) (i : ℕ) (text : List ℕ) (x : Transaction) → declared_by bytes ≡ Ok l → slice_get l.transactions i ≡ Some x → x.name ≡ text
    → AllTokens (DoesNotDeclare (form_of (tokens bytes)) name.Transaction text) bytes → ⊥
transaction_declared bytes l i text x d e n all =
    let of = file_of bytes l d in
    let named : slice_get (map (λ (y : Transaction). y.name) l.transactions) i ≡ Some text =
    slice_get-map (λ (y : Transaction). y.name) l.transactions i ∙ ap (option_map (λ (y : Transaction). y.name)) e ∙ ap (λ (u : List ℕ). Some u) n in
    let there = none_declares bytes of.file name.Transaction text of.spelled all in
    transaction_there of.file.form text of.file.txs (at_txs of.file) _ i there.txs (sym (ap (λ (ns : List (List ℕ)). slice_get ns i) (names_of_txs of.file l of.named)) ∙ named)

pub costly_declared : (bytes : List ℕ) (l : Listing) (used : NameUse) (text : List ℕ) → declared_by bytes ≡ Ok l → IsCostly l used text → AllTokens (DoesNotDeclare (form_of (tokens bytes)) used text) bytes → ⊥
costly_declared bytes l name.Condition text d c all = condition_declared bytes l c.number text c.condition d c.stands all
costly_declared bytes l name.Transaction text d c all = transaction_declared bytes l c.1.number text c.1.transaction d c.1.stands c.1.named all
costly_declared bytes l name.Variable text d c all = c
costly_declared bytes l name.Table text d c all = c
costly_declared bytes l name.Parameter text d c all = c
costly_declared bytes l name.Target text d c all = c
costly_declared bytes l name.Cells text d c all = c
costly_declared bytes l name.Called text d c all = c

pub false_declared : (bytes : List ℕ) (l : Listing) (text : List ℕ) → declared_by bytes ≡ Ok l → IsFalse l.always l.initial text → AllTokens (DoesNotDeclare (form_of (tokens bytes)) name.Condition text) bytes → ⊥
false_declared bytes l text d u all = condition_declared bytes l u.number text u.condition d u.stands all

-- ---- a file that declares something

fails_not : (e : ReadFault) (r : Result Listing ReadFault) (l : Listing) → r ≡ Ok l → Fails e r → e ≡ faults.Memory
fails_not faults.TooLong r l ok h = absurd cc
fails_not faults.BadByte r l ok h = absurd cc
fails_not faults.Shape r l ok h = absurd cc
fails_not faults.Name r l ok h = absurd cc
fails_not faults.Limit r l ok h = absurd cc
fails_not faults.Memory r l ok h = refl
fails_not faults.Broken r l ok h = absurd cc

pub only_memory : (bytes : List ℕ) (e : ReadFault) → IsListed bytes → Fails e (declared_by bytes) → e ≡ faults.Memory
only_memory bytes e listed h = fails_not e (declared_by bytes) listed.0 listed.1 h

-- ---- limits

-- the file whose first fault is a limit, though no name and no number goes over one
record LimitFile (bytes : List ℕ) : Type 0 where
  file : File
  read : tree_of bytes ≡ Ok file
  fits : Fits file

limit_file : (bytes : List ℕ) → first_fault bytes ≡ Some faults.Limit → AllTokens (IsRight (limit_fault_at (form_of (tokens bytes)))) bytes → LimitFile bytes
limit_file bytes h all =
    let first : IsFirst bytes faults.Limit = first_fault_is bytes faults.Limit h in
    let spelled : SpellsTree bytes first.0 = first.1.0 in
    let right : AllTokens (IsRight (limit_fault_at first.0.form)) bytes = subst (λ (announced : FileForm). AllTokens (IsRight (limit_fault_at announced)) bytes) (form_spelled bytes first.0 spelled) all in
    record {
      file = first.0;
      read = tree_again bytes first.0 spelled;
      fits = file_fits first.0 spelled.formed spelled.parts first.1.1 (in_file LimitRight first.0 (all_along LimitRight first.0.form bytes (file_tokens first.0) spelled.spelled right));
    }

pub limit_listed : (bytes : List ℕ) → first_fault bytes ≡ Some faults.Limit → AllTokens (IsRight (limit_fault_at (form_of (tokens bytes)))) bytes → IsListed bytes
limit_listed bytes h all = let p = limit_file bytes h all in let read = p.read in (p.fits.listing, rw read p.fits.is)

lawful_limit : (l : Listing) → limits_hold l ≡ true → fault_in (lawful l) ≡ Some faults.Limit → ⊥
lawful_limit l limits h =
    let g = rw limits at h in
    elim (bool_cases (names_hold l)) [
      | inl n ↦ let g1 = rw n at g in elim (bool_cases (upholds l l.initial)) [
        | inl u ↦ let g2 = rw u at g1 in absurd cc
        | inr u ↦ let g2 = rw u at g1 in absurd cc
      ]
      | inr n ↦ let g1 = rw n at g in absurd cc
    ]

pub costs_do_not_hold : (bytes : List ℕ) (l : Listing) → first_fault bytes ≡ Some faults.Limit → AllTokens (IsRight (limit_fault_at (form_of (tokens bytes)))) bytes → declared_by bytes ≡ Ok l → CostsHold l → ⊥
unfolding listing_at
costs_do_not_hold bytes l h all d costs =
    let p = limit_file bytes h all in
    let b = bind_ok (tree_of bytes) _ l d in
    let file : p.file ≡ b.0 = ok_is_file p.file b.0 (sym p.read ∙ b.1) in
    let same : p.fits.listing ≡ l = ok_is p.fits.listing l (sym p.fits.is ∙ ap resolved file ∙ b.2) in
    let holds : limits_hold l ≡ true = subst (λ (k : Listing). CostsHold k → limits_hold k ≡ true) same p.fits.holds costs in
    let read = b.1 in
    let is = b.2 in
    let at : listing_at bytes ≡ lawful l = rw (read, is) refl in
    lawful_limit l holds (sym (ap fault_in at) ∙ h)
  where
    ok_is_file : (x y : File) → (let r : Result File ReadFault = Ok x in r) ≡ Ok y → x ≡ y
    ok_is_file x y e = cc

-- ---- conditions that are not true

broken_is : (bytes : List ℕ) (l : Listing) → Declares bytes l → declared_by bytes ≡ Ok l
broken_is bytes l d =
    let read = tree_again bytes (written_in d.form d.tables l) d.spelled in
    rw read (resolved_again d.form d.tables l d.tabled d.valued d.names d.limits d.integers)

pub broken_listed : (bytes : List ℕ) → IsFirst bytes faults.Broken → IsListed bytes
broken_listed bytes first = (first.0, broken_is bytes first.0 first.1.0)

untrue_in : (bytes : List ℕ) (l : Listing) → Declares bytes l → upholds l l.initial ≡ false → IsUntrue l
untrue_in bytes l d u =
    let valued : values l ≡ length l.initial = sym d.valued in
    record { known = subst (λ (n : ℕ). ConditionsKnown n (conditions l)) valued (standing_known l d.names); untrue = u }

pub broken_untrue : (bytes : List ℕ) (l : Listing) → IsFirst bytes faults.Broken → declared_by bytes ≡ Ok l → IsUntrue l
broken_untrue bytes l first d =
    let same : first.0 ≡ l = ok_is first.0 l (sym (broken_is bytes first.0 first.1.0) ∙ d) in
    subst IsUntrue same (untrue_in bytes first.0 first.1.0 first.1.1)
