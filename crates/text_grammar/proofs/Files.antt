-- A file that is read is spelled so, and what is spelled so is read.
use Rattle.std.proofs.Common.{◌≡◌, ℕ, true, false, cond, ltb, inl, inr, List, [], ◌∷◌, ◌++◌, length, Result, Ok, Err, refl, sym, ap, subst, ◌∙◌, map, append_assoc, arith, length-append}
use Rattle.std.specs.Prelude.{ℤ, pos, codes, IfOk}
use Rattle.std.specs.Ordering.{int_eq}
use Rattle.std.proofs.lemmas.Bool.Decides.{Decides-int_eq}
use Rattle.std.proofs.lemmas.Bool.{ltb-false, le-ltb}
use Rattle.std.specs.Str.{bytes_eq}
use Rattle.std.specs.List.{flat_map, AllByRecursion, list_all}
use Rattle.std.proofs.lemmas.List.Concat.{flat_map-cons}
use Rattle.std.proofs.lemmas.List.{append-nil}
use Rattle.text_words.specs.Tokens.{Lexeme, Opens, Closes, tokens}
use Rattle.text_words.specs.Bytes.{is_allowed}
use Rattle.text_words.specs.Tokens as token
use Rattle.text_grammar.specs.Tree.{expr_tokens, cond_tokens, stmt_tokens, Pair, Table, Always, Declaration, Run, File, pair_tokens, table_tokens, always_tokens, list_tokens, tx_tokens, run_tokens, heading_tokens, file_tokens, IsOfForm, IsAlways, IsTx, HasParts, SpellsTree, longest}
use Rattle.text_grammar.specs.Tree as tree
use Rattle.text_words.specs.declared.fault.ReadFault.{ReadFault}
use Rattle.text_words.specs.declared.fault.ReadFault.TheVariants.{TooLong, BadByte, Shape}
use Rattle.text_grammar.specs.declared.file.FileForm.{FileForm}
use Rattle.text_grammar.specs.declared.file.FileForm.TheVariants.{One, Two, Three}
use Rattle.text_grammar.specs.declared.file.RawFile.{RawFile}
use Rattle.text_grammar.specs.View.{view_file}
use Rattle.text_words.specs.TokenReading.{name_at, int_at, is_int, close_at, open_at, word_at, form_at, begins, all_of}
use Rattle.text_grammar.specs.Reading.{expr_at, cond_at, stmt_at, pair_at, table_at, tables_at, always_at, conditions_at, parameters_at, tx_at, arguments_at, run_at, end_at, form_numbered, announced_at, heading_at, file_of, tree_of}
use Rattle.text_words.specs.Answers.{Gives}
use Rattle.text_words.proofs.Steps.{bind_ok, ok_is, done, chosen, name_takes, name_again, int_takes, int_again, close_takes, close_again, form_takes, form_again, form_other}
use Rattle.text_grammar.proofs.Exprs.{expr_takes, expr_again}
use Rattle.text_grammar.proofs.Conds.{cond_takes, cond_again}
use Rattle.text_grammar.proofs.Stmts.{stmt_takes, stmt_again}
use Rattle.text_grammar.proofs.Lists.{everywhere, Any, any, HasRoom, parameters_take, parameters_again, arguments_take, arguments_again, ints_take, ints_again, ints_stop}
use Rattle.text_words.proofs.Many.{Shortens, Takes, TakesAll, Taking, all_takes, all_again}

pub pair_takes : (word : List ℕ) → Taking (pair_tokens word) Any (pair_at word)
unfolding pair_at
pair_takes word ts x e =
    let o = bind_ok (form_at word ts) _ x e in
    let n = bind_ok (name_at o.0) _ x o.2 in
    let d = bind_ok (int_at n.0.1) _ x n.2 in
    let c = bind_ok (close_at d.0.1) _ x d.2 in
    let made : Pair × List Lexeme = (record { name = n.0.0; value = d.0.0 }, c.0) in
    let tail : o.0 ≡ token.Name n.0.0 ∷ token.Int d.0.0 ∷ Closes ∷ c.0 = name_takes o.0 n.0 n.1 ∙ ap (λ (us : List Lexeme). token.Name n.0.0 ∷ us) (int_takes n.0.1 d.0 d.1 ∙ ap (λ (us : List Lexeme). token.Int d.0.0 ∷ us) (close_takes d.0.1 c.0 c.1)) in
    subst (Takes (pair_tokens word) Any ts) (ok_is made x c.2) (record { parts = form_takes word ts o.0 o.1 ∙ ap (λ (us : List Lexeme). Opens ∷ token.Name word ∷ us) tail; fits = tt })

pub pair_again : (word : List ℕ) (p : Pair) (rest : List Lexeme) → pair_at word (pair_tokens word p ++ rest) ≡ Ok (p, rest)
unfolding pair_at
pair_again word p rest =
    rw (form_again word (token.Name p.name ∷ token.Int p.value ∷ Closes ∷ rest), name_again p.name (token.Int p.value ∷ Closes ∷ rest), int_again p.value (Closes ∷ rest), close_again rest) refl

pub pair_shortens : (word : List ℕ) → Shortens (pair_at word)
pair_shortens word = record { by = λ ts x e. let parts = (pair_takes word ts x e).parts in rw parts (omega arith) }

pub table_takes : Taking table_tokens Any table_at
unfolding table_at
table_takes ts x e =
    let o = bind_ok (form_at (codes "table") ts) _ x e in
    let n = bind_ok (name_at o.0) _ x o.2 in
    let d = bind_ok (int_at n.0.1) _ x n.2 in
    let f = bind_ok (int_at d.0.1) _ x d.2 in
    let r = bind_ok (all_of is_int int_at f.0.1) _ x f.2 in
    let c = bind_ok (close_at r.0.1) _ x r.2 in
    let made : Table × List Lexeme = (record { name = n.0.0; count = d.0.0; first = f.0.0; others = r.0.0 }, c.0) in
    let from_others : f.0.1 ≡ map token.Int r.0.0 ++ (Closes ∷ c.0) = ints_take f.0.1 r.0 r.1 ∙ ap (λ (us : List Lexeme). map token.Int r.0.0 ++ us) (close_takes r.0.1 c.0 c.1) in
    let from_first : d.0.1 ≡ token.Int f.0.0 ∷ (map token.Int r.0.0 ++ (Closes ∷ c.0)) = int_takes d.0.1 f.0 f.1 ∙ ap (λ (us : List Lexeme). token.Int f.0.0 ∷ us) from_others in
    let tail : o.0 ≡ token.Name n.0.0 ∷ token.Int d.0.0 ∷ token.Int f.0.0 ∷ (map token.Int r.0.0 ++ (Closes ∷ c.0)) = name_takes o.0 n.0 n.1 ∙ ap (λ (us : List Lexeme). token.Name n.0.0 ∷ us) (int_takes n.0.1 d.0 d.1 ∙ ap (λ (us : List Lexeme). token.Int d.0.0 ∷ us) from_first) in
    subst (Takes table_tokens Any ts) (ok_is made x c.2) (record { parts = form_takes (codes "table") ts o.0 o.1 ∙ ap (λ (us : List Lexeme). Opens ∷ token.Name (codes "table") ∷ us) (tail ∙ sym (simp append_assoc)); fits = tt })

table_again : (t : Table) (rest : List Lexeme) → Any t → table_at (table_tokens t ++ rest) ≡ Ok (t, rest)
unfolding table_at
table_again t rest fits =
    let behind : List Lexeme = map token.Int t.others ++ (Closes ∷ rest) in
    let regrouped : (map token.Int t.others ++ (Closes ∷ [])) ++ rest ≡ behind = simp append_assoc in
    rw (
      regrouped,
      form_again (codes "table") (token.Name t.name ∷ token.Int t.count ∷ token.Int t.first ∷ behind),
      name_again t.name (token.Int t.count ∷ token.Int t.first ∷ behind),
      int_again t.count (token.Int t.first ∷ behind),
      int_again t.first behind,
      ints_again t.others (Closes ∷ rest) (ints_stop rest),
      close_again rest,
    ) refl

pub table_shortens : Shortens table_at
table_shortens = record { by = λ ts x e. let parts = (table_takes ts x e).parts in rw parts (omega (arith, length-append (map token.Int x.0.others ++ (Closes ∷ [])) x.1)) }

pub always_takes : (form : FileForm) → Taking always_tokens (IsAlways form) (always_at form)
unfolding always_at
always_takes form ts x e =
    let o = bind_ok (form_at (codes "always") ts) _ x e in
    let n = bind_ok (name_at o.0) _ x o.2 in
    let d = bind_ok (cond_at form 31 n.0.1) _ x n.2 in
    let c = bind_ok (close_at d.0.1) _ x d.2 in
    let made : Always × List Lexeme = (record { name = n.0.0; condition = d.0.0 }, c.0) in
    let condition = cond_takes form 31 n.0.1 d.0 d.1 in
    let tail : o.0 ≡ token.Name n.0.0 ∷ (cond_tokens d.0.0 ++ (Closes ∷ c.0)) = name_takes o.0 n.0 n.1 ∙ ap (λ (us : List Lexeme). token.Name n.0.0 ∷ us) (condition.parts ∙ ap (λ (us : List Lexeme). cond_tokens d.0.0 ++ us) (close_takes d.0.1 c.0 c.1)) in
    subst (Takes always_tokens (IsAlways form) ts) (ok_is made x c.2) (record { parts = form_takes (codes "always") ts o.0 o.1 ∙ ap (λ (us : List Lexeme). Opens ∷ token.Name (codes "always") ∷ us) (tail ∙ sym (simp append_assoc)); fits = condition.fits })

always_again : (form : FileForm) (a : Always) (rest : List Lexeme) → IsAlways form a → always_at form (always_tokens a ++ rest) ≡ Ok (a, rest)
unfolding always_at
always_again form a rest fits =
    let regrouped : (cond_tokens a.condition ++ (Closes ∷ [])) ++ rest ≡ cond_tokens a.condition ++ (Closes ∷ rest) = simp append_assoc in
    rw (
      regrouped,
      form_again (codes "always") (token.Name a.name ∷ (cond_tokens a.condition ++ (Closes ∷ rest))),
      name_again a.name (cond_tokens a.condition ++ (Closes ∷ rest)),
      cond_again form 31 a.condition (Closes ∷ rest) fits,
      close_again rest,
    ) refl

pub always_shortens : (form : FileForm) → Shortens (always_at form)
always_shortens form = record { by = λ ts x e. let parts = (always_takes form ts x e).parts in rw parts (omega (arith, length-append (cond_tokens x.0.condition ++ (Closes ∷ [])) x.1)) }

-- a transaction is one of the form, and has parameters only in form 3
abbrev pub FitsTx : FileForm → Declaration → Type 0
FitsTx form t = IsTx form t × HasRoom form t.parameters

-- three pieces and a closing parenthesis, one behind the other
in_order : (parameters body value rest : List Lexeme) → ((parameters ++ (body ++ value)) ++ (Closes ∷ [])) ++ rest ≡ parameters ++ (body ++ (value ++ (Closes ∷ rest)))
in_order parameters body value rest = simp append_assoc

pub tx_takes : (form : FileForm) → Taking (tx_tokens form) (FitsTx form) (tx_at form)
unfolding tx_at
tx_takes form ts x e =
    let o = bind_ok (form_at (codes "tx") ts) _ x e in
    let n = bind_ok (name_at o.0) _ x o.2 in
    let p = bind_ok (parameters_at form n.0.1) _ x n.2 in
    let b = bind_ok (stmt_at form 31 p.0.1) _ x p.2 in
    let v = bind_ok (expr_at form 31 b.0.1) _ x b.2 in
    let c = bind_ok (close_at v.0.1) _ x v.2 in
    let made : Declaration × List Lexeme = (record { name = n.0.0; parameters = p.0.0; body = b.0.0; value = v.0.0 }, c.0) in
    let parameters = parameters_take form n.0.1 p.0 p.1 in
    let body = stmt_takes form 31 p.0.1 b.0 b.1 in
    let value = expr_takes form 31 b.0.1 v.0 v.1 in
    let from_body : p.0.1 ≡ stmt_tokens b.0.0 ++ (expr_tokens v.0.0 ++ (Closes ∷ c.0)) = body.parts ∙ ap (λ (us : List Lexeme). stmt_tokens b.0.0 ++ us) (value.parts ∙ ap (λ (us : List Lexeme). expr_tokens v.0.0 ++ us) (close_takes v.0.1 c.0 c.1)) in
    let tail : o.0 ≡ token.Name n.0.0 ∷ (list_tokens form p.0.0 ++ (stmt_tokens b.0.0 ++ (expr_tokens v.0.0 ++ (Closes ∷ c.0)))) = name_takes o.0 n.0 n.1 ∙ ap (λ (us : List Lexeme). token.Name n.0.0 ∷ us) (parameters.parts ∙ ap (λ (us : List Lexeme). list_tokens form p.0.0 ++ us) from_body) in
    subst (Takes (tx_tokens form) (FitsTx form) ts) (ok_is made x c.2) (record { parts = form_takes (codes "tx") ts o.0 o.1 ∙ ap (λ (us : List Lexeme). Opens ∷ token.Name (codes "tx") ∷ us) (tail ∙ ap (λ (us : List Lexeme). token.Name n.0.0 ∷ us) (sym (in_order (list_tokens form p.0.0) (stmt_tokens b.0.0) (expr_tokens v.0.0) c.0))); fits = ((body.fits, value.fits), parameters.fits) })

pub tx_again : (form : FileForm) (t : Declaration) (rest : List Lexeme) → FitsTx form t → tx_at form (tx_tokens form t ++ rest) ≡ Ok (t, rest)
unfolding tx_at
tx_again form t rest fits =
    let behind : List Lexeme = stmt_tokens t.body ++ (expr_tokens t.value ++ (Closes ∷ rest)) in
    let regrouped : ((list_tokens form t.parameters ++ (stmt_tokens t.body ++ expr_tokens t.value)) ++ (Closes ∷ [])) ++ rest ≡ list_tokens form t.parameters ++ behind = in_order (list_tokens form t.parameters) (stmt_tokens t.body) (expr_tokens t.value) rest in
    rw (
      regrouped,
      form_again (codes "tx") (token.Name t.name ∷ (list_tokens form t.parameters ++ behind)),
      name_again t.name (list_tokens form t.parameters ++ behind),
      parameters_again form t.parameters behind fits.1,
      stmt_again form 31 t.body (expr_tokens t.value ++ (Closes ∷ rest)) fits.0.0,
      expr_again form 31 t.value (Closes ∷ rest) fits.0.1,
      close_again rest,
    ) refl

pub tx_shortens : (form : FileForm) → Shortens (tx_at form)
tx_shortens form = record {
  by = λ ts x e.
      let parts = (tx_takes form ts x e).parts in
      rw parts (omega (arith, length-append ((list_tokens form x.0.parameters ++ (stmt_tokens x.0.body ++ expr_tokens x.0.value)) ++ (Closes ∷ [])) x.1));
}

-- a run has arguments only in form 3
abbrev pub FitsRun : FileForm → Run → Type 0
FitsRun form r = HasRoom form r.arguments

pub run_takes : (form : FileForm) → Taking run_tokens (FitsRun form) (run_at form)
unfolding run_at
run_takes form ts x e =
    let o = bind_ok (form_at (codes "run") ts) _ x e in
    let n = bind_ok (name_at o.0) _ x o.2 in
    let d = bind_ok (int_at n.0.1) _ x n.2 in
    let a = bind_ok (arguments_at form d.0.1) _ x d.2 in
    let c = bind_ok (close_at a.0.1) _ x a.2 in
    let made : Run × List Lexeme = (record { name = n.0.0; count = d.0.0; arguments = a.0.0 }, c.0) in
    let arguments = arguments_take form d.0.1 a.0 a.1 in
    let from_arguments : d.0.1 ≡ map token.Int a.0.0 ++ (Closes ∷ c.0) = arguments.parts ∙ ap (λ (us : List Lexeme). map token.Int a.0.0 ++ us) (close_takes a.0.1 c.0 c.1) in
    let tail : o.0 ≡ token.Name n.0.0 ∷ token.Int d.0.0 ∷ (map token.Int a.0.0 ++ (Closes ∷ c.0)) = name_takes o.0 n.0 n.1 ∙ ap (λ (us : List Lexeme). token.Name n.0.0 ∷ us) (int_takes n.0.1 d.0 d.1 ∙ ap (λ (us : List Lexeme). token.Int d.0.0 ∷ us) from_arguments) in
    subst (Takes run_tokens (FitsRun form) ts) (ok_is made x c.2) (record { parts = form_takes (codes "run") ts o.0 o.1 ∙ ap (λ (us : List Lexeme). Opens ∷ token.Name (codes "run") ∷ us) (tail ∙ sym (simp append_assoc)); fits = arguments.fits })

pub run_again : (form : FileForm) (r : Run) (rest : List Lexeme) → FitsRun form r → run_at form (run_tokens r ++ rest) ≡ Ok (r, rest)
unfolding run_at
run_again form r rest fits =
    let behind : List Lexeme = map token.Int r.arguments ++ (Closes ∷ rest) in
    let regrouped : (map token.Int r.arguments ++ (Closes ∷ [])) ++ rest ≡ behind = simp append_assoc in
    rw (
      regrouped,
      form_again (codes "run") (token.Name r.name ∷ token.Int r.count ∷ behind),
      name_again r.name (token.Int r.count ∷ behind),
      int_again r.count behind,
      arguments_again form r.arguments (Closes ∷ rest) fits (ints_stop rest),
      close_again rest,
    ) refl

pub run_shortens : (form : FileForm) → Shortens (run_at form)
run_shortens form = record {
  by = λ ts x e.
      let parts = (run_takes form ts x e).parts in
      rw parts (omega (arith, length-append (map token.Int x.0.arguments ++ (Closes ∷ [])) x.1));
}

-- ---- files

end_takes : (ts : List Lexeme) (u : Unit {0}) → end_at ts ≡ Ok u → ts ≡ []
unfolding end_at
end_takes [] u e = refl
end_takes (t ∷ ts) u e = absurd cc

abbrev announces : ℤ → List Lexeme
announces number = tree.form (codes "stm") (token.Int number ∷ [])

-- a form is announced by its number
form_is : (number : ℤ) (form : FileForm) → form_numbered number ≡ Ok form → announces number ≡ heading_tokens form
form_is number form e =
    elim (chosen (int_eq number (pos 2)) (done Two) (cond (int_eq number (pos 3)) (done Three) (Err Shape)) (Ok form) e) [
      | inl p ↦ ap announces ((Decides-int_eq number (pos 2)).0 p.0) ∙ ap heading_tokens (ok_is Two form p.1)
      | inr p ↦ elim (chosen (int_eq number (pos 3)) (done Three) (Err Shape) (Ok form) p.1) [
        | inl q ↦ ap announces ((Decides-int_eq number (pos 3)).0 q.0) ∙ ap heading_tokens (ok_is Three form q.1)
        | inr q ↦ absurd (let h = q.1 in cc)
      ]
    ]

abbrev Heads : List Lexeme → FileForm × List Lexeme → Type 0
Heads ts x = ts ≡ heading_tokens x.0 ++ x.1

announced_takes : (ts : List Lexeme) (x : FileForm × List Lexeme) → announced_at ts ≡ Ok x → Heads ts x
unfolding announced_at
announced_takes ts x e =
    let o = bind_ok (form_at (codes "stm") ts) _ x e in
    let n = bind_ok (int_at o.0) _ x o.2 in
    let f = bind_ok (form_numbered n.0.0) _ x n.2 in
    let c = bind_ok (close_at n.0.1) _ x f.2 in
    let made : FileForm × List Lexeme = (f.0, c.0) in
    let inside : o.0 ≡ token.Int n.0.0 ∷ Closes ∷ c.0 = int_takes o.0 n.0 n.1 ∙ ap (λ (us : List Lexeme). token.Int n.0.0 ∷ us) (close_takes n.0.1 c.0 c.1) in
    let whole : ts ≡ announces n.0.0 ++ c.0 = form_takes (codes "stm") ts o.0 o.1 ∙ ap (λ (us : List Lexeme). Opens ∷ token.Name (codes "stm") ∷ us) inside in
    subst (Heads ts) (ok_is made x c.2) (whole ∙ ap (λ (us : List Lexeme). us ++ c.0) (form_is n.0.0 f.0 f.1))

heading_takes : (ts : List Lexeme) (x : FileForm × List Lexeme) → heading_at ts ≡ Ok x → Heads ts x
unfolding heading_at
heading_takes ts x e =
    elim (chosen (begins (codes "stm") ts) (announced_at ts) (done (One, ts)) (Ok x) e) [
      | inl p ↦ announced_takes ts x p.1
      | inr p ↦ subst (Heads ts) (ok_is (One, ts) x p.1) refl
    ]

-- form 1 has no conditions
abbrev HasConditions : FileForm → List Always → Type 0
HasConditions One always = always ≡ []
HasConditions Two always = Unit {0}
HasConditions Three always = Unit {0}

record TakesConditions (form : FileForm) (ts : List Lexeme) (x : List Always × List Lexeme) : Type 0 where
  all : TakesAll always_tokens (IsAlways form) ts x
  formed : HasConditions form x.0

conditions_takes : (form : FileForm) (ts : List Lexeme) (x : List Always × List Lexeme) → conditions_at form ts ≡ Ok x → TakesConditions form ts x
unfolding conditions_at
conditions_takes One ts x e = subst (TakesConditions One ts) (ok_is ([], ts) x e) (record { all = record { parts = refl; fits = tt }; formed = refl })
conditions_takes Two ts x e = record { all = all_takes always_tokens (IsAlways Two) (begins (codes "always")) (always_at Two) (always_takes Two) ts x e; formed = tt }
conditions_takes Three ts x e = record { all = all_takes always_tokens (IsAlways Three) (begins (codes "always")) (always_at Three) (always_takes Three) ts x e; formed = tt }

-- tables, which only form 3 has
tables_take : (form : FileForm) → Taking (flat_map table_tokens) (HasRoom form) (tables_at form)
unfolding tables_at
tables_take One ts x e = subst (Takes (flat_map table_tokens) (HasRoom One) ts) (ok_is ([], ts) x e) (record { parts = refl; fits = refl })
tables_take Two ts x e = subst (Takes (flat_map table_tokens) (HasRoom Two) ts) (ok_is ([], ts) x e) (record { parts = refl; fits = refl })
tables_take Three ts x e = record { parts = (all_takes table_tokens Any (begins (codes "table")) table_at table_takes ts x e).parts; fits = tt }

-- ---- a form, part by part

txs_fit : (form : FileForm) (txs : List Declaration) → AllByRecursion (IsTx form) txs → AllByRecursion (λ (t : Declaration). HasRoom form t.parameters) txs → AllByRecursion (FitsTx form) txs
txs_fit form [] formed room = tt
txs_fit form (t ∷ txs) formed room = ((formed.0, room.0), txs_fit form txs formed.1 room.1)

txs_formed : (form : FileForm) (txs : List Declaration) → AllByRecursion (FitsTx form) txs → AllByRecursion (IsTx form) txs
txs_formed form [] fits = tt
txs_formed form (t ∷ txs) fits = (fits.0.0, txs_formed form txs fits.1)

txs_room : (form : FileForm) (txs : List Declaration) → AllByRecursion (FitsTx form) txs → AllByRecursion (λ (t : Declaration). HasRoom form t.parameters) txs
txs_room form [] fits = tt
txs_room form (t ∷ txs) fits = (fits.0.1, txs_room form txs fits.1)

record PartsOfForm (form : FileForm) (f : File) : Type 0 where
  tables : HasRoom form f.tables
  conditions : HasConditions form f.always
  parameters : AllByRecursion (λ (t : Declaration). HasRoom form t.parameters) f.txs
  arguments : AllByRecursion (FitsRun form) f.runs

of_form : (form : FileForm) (f : File) → PartsOfForm form f → IsOfForm form f
of_form One f h = (h.conditions, (h.tables, h.parameters, h.arguments))
of_form Two f h = (h.tables, h.parameters, h.arguments)
of_form Three f h = tt

parts_of : (form : FileForm) (f : File) → IsOfForm form f → PartsOfForm form f
parts_of One f h = record { tables = h.1.0; conditions = h.0; parameters = h.1.1; arguments = h.1.2 }
parts_of Two f h = record { tables = h.0; conditions = tt; parameters = h.1; arguments = h.2 }
parts_of Three f h = record {
  tables = tt;
  conditions = tt;
  parameters = everywhere (λ (t : Declaration). HasRoom Three t.parameters) (λ t. tt) f.txs;
  arguments = everywhere (FitsRun Three) (λ r. tt) f.runs;
}

-- ---- a whole file

-- the tokens are those of the file, which is formed as it should
pub record TakesFile (ts : List Lexeme) (f : File) : Type 0 where
  pub spelled : ts ≡ file_tokens f
  pub formed : IsOfForm f.form f
  pub parts : HasParts f

pub file_takes : (ts : List Lexeme) (f : File) → file_of ts ≡ Ok f → TakesFile ts f
unfolding file_of
file_takes ts f e =
    let h = bind_ok (heading_at ts) _ f e in
    let v = bind_ok (all_of (begins (codes "var")) (pair_at (codes "var")) h.0.1) _ f h.2 in
    let b = bind_ok (tables_at h.0.0 v.0.1) _ f v.2 in
    let a = bind_ok (conditions_at h.0.0 b.0.1) _ f b.2 in
    let t = bind_ok (all_of (begins (codes "tx")) (tx_at h.0.0) a.0.1) _ f a.2 in
    let r = bind_ok (all_of (begins (codes "run")) (run_at h.0.0) t.0.1) _ f t.2 in
    let n = bind_ok (end_at r.0.1) _ f r.2 in
    let heading = heading_takes ts h.0 h.1 in
    let vars = all_takes (pair_tokens (codes "var")) Any (begins (codes "var")) (pair_at (codes "var")) (pair_takes (codes "var")) h.0.1 v.0 v.1 in
    let tables = tables_take h.0.0 v.0.1 b.0 b.1 in
    let conditions = conditions_takes h.0.0 b.0.1 a.0 a.1 in
    let txs = all_takes (tx_tokens h.0.0) (FitsTx h.0.0) (begins (codes "tx")) (tx_at h.0.0) (tx_takes h.0.0) a.0.1 t.0 t.1 in
    let runs = all_takes run_tokens (FitsRun h.0.0) (begins (codes "run")) (run_at h.0.0) (run_takes h.0.0) t.0.1 r.0 r.1 in
    let made : File = record { form = h.0.0; vars = v.0.0; tables = b.0.0; always = a.0.0; txs = t.0.0; runs = r.0.0 } in
    let nothing : r.0.1 ≡ [] = end_takes r.0.1 n.0 n.1 in
    let last : t.0.1 ≡ flat_map run_tokens r.0.0 = runs.parts ∙ ap (λ (us : List Lexeme). flat_map run_tokens r.0.0 ++ us) nothing ∙ append-nil (flat_map run_tokens r.0.0) in
    let from_txs : a.0.1 ≡ flat_map (tx_tokens h.0.0) t.0.0 ++ flat_map run_tokens r.0.0 = txs.parts ∙ ap (λ (us : List Lexeme). flat_map (tx_tokens h.0.0) t.0.0 ++ us) last in
    let from_tables = tables.parts ∙ ap (λ (us : List Lexeme). flat_map table_tokens b.0.0 ++ us) (conditions.all.parts ∙ ap (λ (us : List Lexeme). flat_map always_tokens a.0.0 ++ us) from_txs) in
    let from_vars = vars.parts ∙ ap (λ (us : List Lexeme). flat_map (pair_tokens (codes "var")) v.0.0 ++ us) from_tables in
    let whole : ts ≡ file_tokens made = heading ∙ ap (λ (us : List Lexeme). heading_tokens h.0.0 ++ us) from_vars in
    subst (TakesFile ts) (ok_is made f n.2) (record {
      spelled = whole;
      formed = of_form h.0.0 made (record { tables = tables.fits; conditions = conditions.formed; parameters = txs_room h.0.0 t.0.0 txs.fits; arguments = runs.fits });
      parts = (conditions.all.fits, txs_formed h.0.0 t.0.0 txs.fits);
    })

begins_itself : (word : List ℕ) (rest : List Lexeme) → begins word (Opens ∷ token.Name word ∷ rest) ≡ true
unfolding begins
begins_itself word rest = rw (form_again word rest) refl

begins_other : (word other : List ℕ) (rest : List Lexeme) → bytes_eq other word ≡ false → begins word (Opens ∷ token.Name other ∷ rest) ≡ false
unfolding begins
begins_other word other rest h = rw (form_other word other rest h) refl

begins_nothing : (word : List ℕ) → begins word [] ≡ false
unfolding begins form_at word_at open_at
begins_nothing word = refl

-- no form of a word stands next, where none of the items begins with it and none stands behind them
none_begins : {A : Type 0} (word : List ℕ) (spell : A → List Lexeme) → ((x : A) (more : List Lexeme) → begins word (spell x ++ more) ≡ false) → (xs : List A) (rest : List Lexeme) → begins word rest ≡ false
    → begins word (flat_map spell xs ++ rest) ≡ false
none_begins word spell other [] rest stop = stop
none_begins word spell other (x ∷ xs) rest stop =
    let first : flat_map spell (x ∷ xs) ++ rest ≡ spell x ++ (flat_map spell xs ++ rest) = ap (λ (us : List Lexeme). us ++ rest) (flat_map-cons spell x xs) ∙ append_assoc (spell x) (flat_map spell xs) rest in
    ap (begins word) first ∙ other x (flat_map spell xs ++ rest)

-- ---- the parts of a file, each with those behind it

abbrev run_part : List Run → List Lexeme
run_part runs = flat_map run_tokens runs ++ []

abbrev tx_part : FileForm → List Declaration → List Run → List Lexeme
tx_part form txs runs = flat_map (tx_tokens form) txs ++ run_part runs

abbrev always_part : FileForm → List Always → List Declaration → List Run → List Lexeme
always_part form always txs runs = flat_map always_tokens always ++ tx_part form txs runs

abbrev table_part : FileForm → List Table → List Always → List Declaration → List Run → List Lexeme
table_part form tables always txs runs = flat_map table_tokens tables ++ always_part form always txs runs

abbrev var_part : FileForm → List Pair → List Table → List Always → List Declaration → List Run → List Lexeme
var_part form vars tables always txs runs = flat_map (pair_tokens (codes "var")) vars ++ table_part form tables always txs runs

run_part_begins : (word : List ℕ) (runs : List Run) → bytes_eq (codes "run") word ≡ false → begins word (run_part runs) ≡ false
run_part_begins word runs h = none_begins word run_tokens (λ r more. begins_other word (codes "run") _ h) runs [] (begins_nothing word)

tx_part_begins : (word : List ℕ) (form : FileForm) (txs : List Declaration) (runs : List Run) → bytes_eq (codes "run") word ≡ false → bytes_eq (codes "tx") word ≡ false → begins word (tx_part form txs runs) ≡ false
tx_part_begins word form txs runs h k = none_begins word (tx_tokens form) (λ t more. begins_other word (codes "tx") _ k) txs (run_part runs) (run_part_begins word runs h)

always_part_begins : (word : List ℕ) (form : FileForm) (always : List Always) (txs : List Declaration) (runs : List Run) → bytes_eq (codes "run") word ≡ false → bytes_eq (codes "tx") word ≡ false → bytes_eq (codes "always") word ≡ false
    → begins word (always_part form always txs runs) ≡ false
always_part_begins word form always txs runs h k g = none_begins word always_tokens (λ a more. begins_other word (codes "always") _ g) always (tx_part form txs runs) (tx_part_begins word form txs runs h k)

table_part_begins : (word : List ℕ) (form : FileForm) (tables : List Table) (always : List Always) (txs : List Declaration) (runs : List Run)
    → bytes_eq (codes "run") word ≡ false → bytes_eq (codes "tx") word ≡ false → bytes_eq (codes "always") word ≡ false → bytes_eq (codes "table") word ≡ false → begins word (table_part form tables always txs runs) ≡ false
table_part_begins word form tables always txs runs h k g b = none_begins word table_tokens (λ t more. begins_other word (codes "table") _ b) tables (always_part form always txs runs) (always_part_begins word form always txs runs h k g)

var_part_begins : (word : List ℕ) (form : FileForm) (vars : List Pair) (tables : List Table) (always : List Always) (txs : List Declaration) (runs : List Run)
    → bytes_eq (codes "run") word ≡ false → bytes_eq (codes "tx") word ≡ false → bytes_eq (codes "always") word ≡ false → bytes_eq (codes "table") word ≡ false → bytes_eq (codes "var") word ≡ false → begins word (var_part form vars tables always txs runs) ≡ false
var_part_begins word form vars tables always txs runs h k g b v = none_begins word (pair_tokens (codes "var")) (λ p more. begins_other word (codes "var") _ v) vars (table_part form tables always txs runs) (table_part_begins word form tables always txs runs h k g b)

heading_again : (form : FileForm) (rest : List Lexeme) → begins (codes "stm") rest ≡ false → heading_at (heading_tokens form ++ rest) ≡ Ok (form, rest)
unfolding heading_at announced_at
heading_again One rest stop = rw stop refl
heading_again Two rest stop =
    rw (
      begins_itself (codes "stm") (token.Int (pos 2) ∷ Closes ∷ rest),
      form_again (codes "stm") (token.Int (pos 2) ∷ Closes ∷ rest),
      int_again (pos 2) (Closes ∷ rest),
      close_again rest,
    ) refl
heading_again Three rest stop =
    rw (
      begins_itself (codes "stm") (token.Int (pos 3) ∷ Closes ∷ rest),
      form_again (codes "stm") (token.Int (pos 3) ∷ Closes ∷ rest),
      int_again (pos 3) (Closes ∷ rest),
      close_again rest,
    ) refl

tables_again : (form : FileForm) (tables : List Table) (rest : List Lexeme) → HasRoom form tables → begins (codes "table") rest ≡ false → tables_at form (flat_map table_tokens tables ++ rest) ≡ Ok (tables, rest)
unfolding tables_at
tables_again One tables rest none stop = rw none refl
tables_again Two tables rest none stop = rw none refl
tables_again Three tables rest none stop =
    all_again table_tokens Any (begins (codes "table")) table_at table_shortens table_again (λ t more. begins_itself (codes "table") _) tables rest (any tables) stop

conditions_again : (form : FileForm) (always : List Always) (rest : List Lexeme) → HasConditions form always → AllByRecursion (IsAlways form) always → begins (codes "always") rest ≡ false
    → conditions_at form (flat_map always_tokens always ++ rest) ≡ Ok (always, rest)
unfolding conditions_at
conditions_again One always rest formed fits stop = rw formed refl
conditions_again Two always rest formed fits stop =
    all_again always_tokens (IsAlways Two) (begins (codes "always")) (always_at Two) (always_shortens Two) (always_again Two) (λ a more. begins_itself (codes "always") _) always rest fits stop
conditions_again Three always rest formed fits stop =
    all_again always_tokens (IsAlways Three) (begins (codes "always")) (always_at Three) (always_shortens Three) (always_again Three) (λ a more. begins_itself (codes "always") _) always rest fits stop

last : end_at [] ≡ Ok tt
unfolding end_at
last = refl

pub file_again : (f : File) → IsOfForm f.form f → HasParts f → file_of (file_tokens f) ≡ Ok f
unfolding file_of
file_again f formed fits =
    let parts = parts_of f.form f formed in
    let padded : file_tokens f ≡ heading_tokens f.form ++ var_part f.form f.vars f.tables f.always f.txs f.runs =
    ap (λ (us : List Lexeme). heading_tokens f.form ++ (flat_map (pair_tokens (codes "var")) f.vars ++ (flat_map table_tokens f.tables ++ (flat_map always_tokens f.always ++ (flat_map (tx_tokens f.form) f.txs ++ us))))) (sym (append-nil (flat_map run_tokens f.runs))) in
    let heading = heading_again f.form (var_part f.form f.vars f.tables f.always f.txs f.runs) (var_part_begins (codes "stm") f.form f.vars f.tables f.always f.txs f.runs refl refl refl refl refl) in
    let vars = all_again (pair_tokens (codes "var")) Any (begins (codes "var")) (pair_at (codes "var")) (pair_shortens (codes "var")) (λ p rest h. pair_again (codes "var") p rest) (λ p rest. begins_itself (codes "var") _) f.vars (table_part f.form f.tables f.always f.txs f.runs) (any f.vars) (table_part_begins (codes "var") f.form f.tables f.always f.txs f.runs refl refl refl refl) in
    let tables = tables_again f.form f.tables (always_part f.form f.always f.txs f.runs) parts.tables (always_part_begins (codes "table") f.form f.always f.txs f.runs refl refl refl) in
    let conditions = conditions_again f.form f.always (tx_part f.form f.txs f.runs) parts.conditions fits.0 (tx_part_begins (codes "always") f.form f.txs f.runs refl refl) in
    let txs = all_again (tx_tokens f.form) (FitsTx f.form) (begins (codes "tx")) (tx_at f.form) (tx_shortens f.form) (tx_again f.form) (λ t rest. begins_itself (codes "tx") _) f.txs (run_part f.runs) (txs_fit f.form f.txs fits.1 parts.parameters) (run_part_begins (codes "tx") f.runs refl) in
    let runs = all_again run_tokens (FitsRun f.form) (begins (codes "run")) (run_at f.form) (run_shortens f.form) (run_again f.form) (λ r rest. begins_itself (codes "run") _) f.runs [] parts.arguments (begins_nothing (codes "run")) in
    ap file_of padded ∙ rw (heading, vars, tables, conditions, txs, runs, last) refl

pub tree_takes : (bytes : List ℕ) (f : File) → tree_of bytes ≡ Ok f → SpellsTree bytes f
unfolding tree_of
tree_takes bytes f e =
    elim (chosen (ltb (longest bytes) (length bytes)) (Err TooLong) (cond (list_all is_allowed bytes) (file_of (tokens bytes)) (Err BadByte)) (Ok f) e) [
      | inl p ↦ absurd (let h = p.1 in cc)
      | inr p ↦ elim (chosen (list_all is_allowed bytes) (file_of (tokens bytes)) (Err BadByte) (Ok f) p.1) [
        | inl q ↦ let t = file_takes (tokens bytes) f q.1 in record { short = ltb-false _ _ p.0; allowed = q.0; spelled = t.spelled; formed = t.formed; parts = t.parts }
        | inr q ↦ absurd (let h = q.1 in cc)
      ]
    ]

pub tree_again : (bytes : List ℕ) (f : File) → SpellsTree bytes f → tree_of bytes ≡ Ok f
unfolding tree_of
tree_again bytes f s = rw (le-ltb _ _ s.short, s.allowed, s.spelled) (file_again f s.formed s.parts)

pub is_found : (bytes : List ℕ) (r : Result RawFile ReadFault) → Gives view_file r (tree_of bytes) → IfOk r (λ f. SpellsTree bytes (view_file f))
is_found bytes (Ok v) given = tree_takes bytes (view_file v) given
is_found bytes (Err e) given = tt
