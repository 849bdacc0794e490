use Rattle.std.proofs.Common.{◌≡◌, ◌∙◌, ◌≤◌, ℕ, Bool, true, List, [], ◌∷◌, ◌++◌, drop, length, refl, ap, sym, subst, string_bytes}
use Rattle.std.specs.List.{list_all}
use Rattle.std.proofs.lemmas.Bool.{and_from}
use Rattle.txn_programs.specs.Meaning.{State, truth}
use Rattle.txn_programs.specs.Tree.{Condition}
use Rattle.txn_programs.specs.Limits.{limits_hold}
use Rattle.txn_programs.specs.Listing.{Listing, conditions, values}
use Rattle.txn_programs.specs.Names.{names_hold}
use Rattle.txn_programs.specs.Standing.{AllTrue, is_true}
use Rattle.text_grammar.specs.declared.file.FileForm.{FileForm}
use Rattle.text_grammar.specs.declared.file.FileForm.TheVariants.{Three}
use Rattle.text_grammar.specs.Written.{form_for, written_tables, written}
use Rattle.text_grammar.specs.Spelling.{Spells}
use Rattle.text_grammar.specs.Tree.{file_tokens, longest}
use Rattle.text_file_printer.specs.Canonical.{text_in, is_short_enough, form_told}
use Rattle.text_file_printer.specs.Fits.{FileFits}
use Rattle.text_file_printer.specs.Layout.{laid_out}
use Rattle.text_file_printer.proofs.Integers.{integers_of}
use Rattle.text_file_printer.proofs.LaidOut.{text_is_laid_out}
use Rattle.text_file_printer.proofs.Printed.{HasRoom, first_has_room, three_has_room, printed_spells}
use Rattle.text_file_printer.proofs.Tables.{tables_declared}
use Rattle.text_file_printer.proofs.Told.{told_first, told_three}
use Rattle.text_file_printer.proofs.file.print_file.Goals as goal

-- conditions that are true pass the test
true_upholds : (cs : List Condition) (m : State) → AllTrue cs m → list_all (λ c. is_true (truth c m)) cs ≡ true
true_upholds [] m h = refl
true_upholds (c ∷ cs) m h = and_from _ _ (ap is_true h.0) (true_upholds cs m h.1)

-- the text in a form that has room, laid out and read again
laid : (form : FileForm) (l : Listing) (bytes : List ℕ) → bytes ≡ text_in form l → form_told l ≡ form → bytes ≡ laid_out (file_tokens (written (form_told l) l))
laid form l bytes e told = subst (λ (f : FileForm). bytes ≡ laid_out (file_tokens (written f l))) (sym told) (e ∙ text_is_laid_out (written form l))

spells : (form : FileForm) (l : Listing) (bytes : List ℕ) → bytes ≡ text_in form l → HasRoom form l → FileFits (written form l) → names_hold l ≡ true → limits_hold l ≡ true
    → values l ≡ length l.initial → AllTrue (conditions l) l.initial → length bytes ≤ longest bytes → Spells bytes l
spells form l bytes e room fits names limits valued upheld short =
    subst (λ (bs : List ℕ). Spells bs l) (sym e)
    (record {
      declared =
          record {
            form = form;
            tables = written_tables l.tables (drop (length l.names) l.initial);
            spelled = printed_spells form l room names limits fits (subst (λ (bs : List ℕ). length bs ≤ longest bs) e short);
            tabled = tables_declared l limits valued;
            valued = sym valued;
            names = names;
            limits = limits;
            integers = integers_of form l limits valued fits;
          };
      upheld = true_upholds (conditions l) l.initial upheld;
    })

-- from how long the text in the first form is, which form is told
short_first : (l : Listing) (form : FileForm) (bytes : List ℕ) (b : Bool) → bytes ≡ text_in form l → form ≡ form_for l → b ≡ is_short_enough bytes → is_short_enough (text_in (form_for l) l) ≡ b
short_first l form bytes b e first tested = ap is_short_enough (sym (e ∙ ap (λ (f : FileForm). text_in f l) first)) ∙ sym tested

first_text : (c : goal.Then-is_short_enough) → string_bytes c.put_file.new.out ≡ text_in c.form_of-form.result c.args.catalogue.now
first_text c = c.in_ok-put_file.ensures.text ∙ ap (λ (bs : List ℕ). bs ++ text_in c.form_of-form.result c.args.catalogue.now) c.new-out.ensures.bytes

first_told : (c : goal.Then-is_short_enough) → form_told c.args.catalogue.now ≡ c.form_of-form.result
first_told c =
    let l = c.args.catalogue.now in
    let tested = c.is_short_enough.ensures ∙ ap is_short_enough c.as_str.ensures.value in
    let short = short_first l c.form_of-form.result (string_bytes c.put_file.new.out) c.is_short_enough.result (first_text c) c.form_of-form.ensures tested in
    told_first l (short ∙ c.if-is_short_enough.true) ∙ sym c.form_of-form.ensures

pub returns-then-is_short_enough-clause-text : goal.returns-then-is_short_enough-clause-text
returns-then-is_short_enough-clause-text c = first_text c ∙ ap (λ (f : FileForm). text_in f c.args.catalogue.now) (sym (first_told c))

pub returns-then-is_short_enough-clause-layout : goal.returns-then-is_short_enough-clause-layout
returns-then-is_short_enough-clause-layout c = laid c.form_of-form.result c.args.catalogue.now (string_bytes c.put_file.new.out) (first_text c) (first_told c)

pub returns-then-is_short_enough-clause-again : goal.returns-then-is_short_enough-clause-again
returns-then-is_short_enough-clause-again c =
    let l = c.args.catalogue.now in
    let named = c.rules.ensures.names in
    let room = subst (λ (f : FileForm). HasRoom f l) (sym c.form_of-form.ensures) (first_has_room l named) in
    spells c.form_of-form.result l (string_bytes c.put_file.new.out) (first_text c) room c.in_ok-put_file.ensures.fits named c.rules.ensures.limits c.rules.ensures.valued c.rules.ensures.upheld

-- the text in form 3
second_text : (c : goal.In_ok-put_file-2) → string_bytes c.put_file-2.new.out ≡ text_in Three c.args.catalogue.now
second_text c = c.in_ok-put_file-2.ensures.text ∙ ap (λ (bs : List ℕ). bs ++ text_in Three c.args.catalogue.now) c.clear.ensures.bytes

second_told : (c : goal.In_ok-put_file-2) → form_told c.args.catalogue.now ≡ Three
second_told c =
    let l = c.args.catalogue.now in
    let form = c.form_of-form.result in
    let e : string_bytes c.put_file.new.out ≡ text_in form l = c.in_ok-put_file.ensures.text ∙ ap (λ (bs : List ℕ). bs ++ text_in form l) c.new-out.ensures.bytes in
    let tested = c.is_short_enough.ensures ∙ ap is_short_enough c.as_str.ensures.value in
    let long = short_first l form (string_bytes c.put_file.new.out) c.is_short_enough.result e c.form_of-form.ensures tested in
    told_three l (long ∙ c.if-is_short_enough.false)

pub returns-clause-text : goal.returns-clause-text
returns-clause-text c = second_text c ∙ ap (λ (f : FileForm). text_in f c.args.catalogue.now) (sym (second_told c))

pub returns-clause-layout : goal.returns-clause-layout
returns-clause-layout c = laid Three c.args.catalogue.now (string_bytes c.put_file-2.new.out) (second_text c) (second_told c)

pub returns-clause-again : goal.returns-clause-again
returns-clause-again c =
    let l = c.args.catalogue.now in
    spells Three l (string_bytes c.put_file-2.new.out) (second_text c) (three_has_room l) c.in_ok-put_file-2.ensures.fits c.rules.ensures.names c.rules.ensures.limits c.rules.ensures.valued c.rules.ensures.upheld
