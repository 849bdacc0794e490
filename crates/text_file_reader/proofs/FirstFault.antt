-- Each fault is the first that applies.
use Rattle.std.proofs.Common.{◌≡◌, ℕ, zero, suc, ◌+◌, Bool, true, false, ◌&&◌, cond, List, [], ◌∷◌, ◌++◌, length, map, Option, Some, None, Result, Ok, Err, refl, sym, ap, subst, ◌∙◌, ◌⊎◌, inl, inr, ltb}
use Rattle.std.specs.Prelude.{ℤ, pos, negsuc, codes, is_some, position, bytes_eq, nat_lt, nat_le, ◌^◌, ◌==◌}
use Rattle.std.specs.List.{list_all, list_any, flat_map, AllByRecursion}
use Rattle.std.proofs.lemmas.Bool.{ltb-true, ltb-false}
use Rattle.std.proofs.lemmas.List.Folds.{list_all-map}
use Rattle.std.proofs.lemmas.List.Concat.{flat_map-cons}
use Rattle.txn_programs.specs.declared.ast.Span.{Span}
use Rattle.txn_programs.specs.Arithmetic.{fits}
use Rattle.txn_programs.specs.Tree.{Transaction}
use Rattle.txn_programs.specs.Tree as t
use Rattle.txn_programs.specs.Listing.{Listing, spans, conditions, table_names, always_names}
use Rattle.txn_programs.specs.Names.{is_name, are_new, are_distinct, are_formed, has_own_parameters, knows_standing, knows_transaction, is_well_formed, names_hold}
use Rattle.txn_programs.specs.Limits.{most_parameters, limits_hold}
use Rattle.txn_programs.specs.Standing.{upholds}
use Rattle.txn.specs.Ids.{ids_hold}
use Rattle.text_words.specs.Bytes.{is_atom_byte, is_in_line, is_int, is_allowed}
use Rattle.text_words.specs.Tokens.{Lexeme, Opens, Closes, atom, after, tokens_within, tokens}
use Rattle.text_words.specs.Tokens as token
use Rattle.text_grammar.specs.Tree.{Expr, Cond, Stmt, Stmts, NoStmts, MoreStmts, Pair, Table, Always, Declaration, Run, File, stmt_tokens, expr_tokens, pair_tokens, table_tokens, always_tokens, list_tokens, tx_tokens, heading_tokens, file_tokens, IsOfForm, SpellsTree, longest}
use Rattle.text_grammar.specs.Tree as f
use Rattle.text_grammar.specs.Scope.{Scope, standing, inside}
use Rattle.text_grammar.specs.declared.file.FileForm.{FileForm}
use Rattle.text_grammar.specs.declared.file.FileForm.TheVariants.{One, Two, Three}
use Rattle.text_words.specs.declared.fault.ReadFault.{ReadFault}
use Rattle.text_words.specs.declared.fault.ReadFault.TheVariants as faults
use Rattle.text_words.specs.Answers.{◌>>=◌}
use Rattle.text_grammar.specs.Reading.{file_of, tree_of}
use Rattle.text_words.specs.Numbers.{number_of, count_of}
use Rattle.text_grammar.specs.Resolving.{placed, place_in, span_at, table_in, span_behind, spans_in, variable_in, parameter_in, is_known, expr_known, cond_known, stmt_known, stmts_known, always_known, tx_known, has_parameters, run_known, declared_one, declared_after, binary, compare, connect, expression_in, condition_in, statement_in, statements_in, each, variable_of, numbers_in, table_of, always_in, transaction_in, arguments_in, run_in, uses_known, converted, pair_name, table_name, condition_name, tx_name, resolved}
use Rattle.text_grammar.specs.Spelling.{lawful, listing_at, fault_in, first_fault}
use Rattle.text_file_reader.specs.Faults.{names_known, IsFirst}
use Rattle.text_words.proofs.Steps.{done, chosen}
use Rattle.text_file_reader.proofs.Declared.{both, declared_is, declared_new, resolved_is}
use Rattle.text_file_reader.proofs.Spans.{names_alone}
use Rattle.text_file_reader.proofs.Back.{both_true, Head, head_of, declared_head, by_heads, kept, converted_parts}
use Rattle.text_file_reader.proofs.Ids.{resolved_holds}
use Rattle.text_grammar.proofs.Lists.{HasRoom, everywhere}
use Rattle.text_grammar.proofs.Files.{tree_takes, tree_again}
use Rattle.text_file_reader.proofs.Spelt.{upheld, none_declared, resolved_declares}
use Rattle.text_file_reader.proofs.Blame.{Only, only_ok, only_err, only_bind, only_cond, file_shape}

bool_cases : (b : Bool) → (b ≡ true) ⊎ (b ≡ false)
bool_cases true = inl refl
bool_cases false = inr refl

-- what did not go well failed before or behind
bind_err : {A B : Type 0} (r : Result A ReadFault) (g : A → Result B ReadFault) (e : ReadFault) → (r >>= g) ≡ Err e → (r ≡ Err e) ⊎ ((x : A) × (r ≡ Ok x) × (g x ≡ Err e))
bind_err (Ok x) g e h = inr (x, refl, h)
bind_err (Err d) g e h = inl (let s : d ≡ e = cc in ap Err s)

-- ---- where the names are known, only a limit is in the way

abbrev IsLimit : {A : Type 0} → Result A ReadFault → Type 0
IsLimit r = Only faults.Limit r

ok : {A : Type 0} (x : A) → IsLimit (done x)
ok x = only_ok faults.Limit x

bind : {A B : Type 0} (r : Result A ReadFault) (g : A → Result B ReadFault) → IsLimit r → ((x : A) → IsLimit (g x)) → IsLimit (r >>= g)
bind r g p q = only_bind faults.Limit r g p q

number_limit : (z : ℤ) → IsLimit (number_of z)
unfolding number_of
number_limit z = only_cond faults.Limit (fits z) (done z) (Err faults.Limit) (ok z) (only_err faults.Limit)

count_limit : (z : ℤ) → IsLimit (count_of z)
unfolding count_of
count_limit (pos n) = only_cond faults.Limit (nat_lt n (2 ^ 32)) (done n) (Err faults.Limit) (ok n) (only_err faults.Limit)
count_limit (negsuc n) = only_err faults.Limit

placed_limit : (o : Option ℕ) → is_some o ≡ true → IsLimit (placed o)
placed_limit None h = absurd cc
placed_limit (Some n) h = only_cond faults.Limit (nat_lt n (2 ^ 32)) (done n) (Err faults.Limit) (ok n) (only_err faults.Limit)

place_limit : (names : List (List ℕ)) (name : List ℕ) → is_known names name ≡ true → IsLimit (place_in names name)
unfolding place_in
place_limit names name h = placed_limit (position (bytes_eq name) names) h

variable_limit : (names : List (List ℕ)) (name : List ℕ) → is_known names name ≡ true → IsLimit (variable_in names name)
unfolding variable_in
variable_limit names name h = bind (place_in names name) _ (place_limit names name h) (λ place. ok _)

parameter_limit : (names : List (List ℕ)) (name : List ℕ) → is_known names name ≡ true → IsLimit (parameter_in names name)
unfolding parameter_in
parameter_limit names name h = bind (place_in names name) _ (place_limit names name h) (λ place. ok _)

span_limit : (spans : List Span) (o : Option ℕ) → is_some o ≡ true → IsLimit (span_at spans o)
span_limit spans None h = absurd cc
span_limit spans (Some place) h = ok _

table_limit : (scope : Scope) (name : List ℕ) → is_known scope.tables name ≡ true → IsLimit (table_in scope name)
unfolding table_in
table_limit scope name h = span_limit scope.spans (position (bytes_eq name) scope.tables) h

expression_limit : (scope : Scope) (e : Expr) → expr_known (names_alone scope) e ≡ true → IsLimit (expression_in scope e)
expression_limit scope (f.Int value) h = bind (number_of value) _ (number_limit value) (λ n. ok (t.Int n))
expression_limit scope (f.Name name) h =
    elim (bool_cases (is_known scope.parameters name)) [
      | inl p ↦ rw p (bind (parameter_in scope.parameters name) _ (parameter_limit scope.parameters name p) (λ x. ok (t.Param x)))
      | inr p ↦ let g = rw p at h in rw p (bind (variable_in scope.variables name) _ (variable_limit scope.variables name g) (λ x. ok (t.Var x)))
    ]
expression_limit scope (f.At table index) h =
    let p = both _ _ h in
    bind (table_in scope table) _ (table_limit scope table p.0) (λ u. bind (expression_in scope index) _ (expression_limit scope index p.1) (λ a. ok (t.Cell u a)))
expression_limit scope (f.OfAll fold table) h = bind (table_in scope table) _ (table_limit scope table h) (λ u. ok (t.OfAll fold u))
expression_limit scope (f.Binary op left right) h =
    let p = both _ _ h in
    bind (expression_in scope left) _ (expression_limit scope left p.0) (λ a. bind (expression_in scope right) _ (expression_limit scope right p.1) (λ b. ok (binary op a b)))

condition_limit : (scope : Scope) (c : Cond) → cond_known (names_alone scope) c ≡ true → IsLimit (condition_in scope c)
condition_limit scope (f.Compare op left right) h =
    let p = both _ _ h in
    bind (expression_in scope left) _ (expression_limit scope left p.0) (λ a. bind (expression_in scope right) _ (expression_limit scope right p.1) (λ b. ok (compare op a b)))
condition_limit scope (f.Not inner) h = bind (condition_in scope inner) _ (condition_limit scope inner h) (λ c. ok (t.Not c))
condition_limit scope (f.Connect op left right) h =
    let p = both _ _ h in
    bind (condition_in scope left) _ (condition_limit scope left p.0) (λ a. bind (condition_in scope right) _ (condition_limit scope right p.1) (λ b. ok (connect op a b)))

mutual
  statement_limit : (scope : Scope) (s : Stmt) → stmt_known (names_alone scope) s ≡ true → IsLimit (statement_in scope s)
  statement_limit scope f.Skip h = ok t.Skip
  statement_limit scope (f.Set name value) h =
      let p = both _ _ h in
      bind (variable_in scope.variables name) _ (variable_limit scope.variables name p.0) (λ x. bind (expression_in scope value) _ (expression_limit scope value p.1) (λ a. ok (t.Set x a)))
  statement_limit scope (f.Put table index value) h =
      let p = both _ _ h in let q = both _ _ p.1 in
      bind (table_in scope table) _ (table_limit scope table p.0) (λ u. bind (expression_in scope index) _ (expression_limit scope index q.0) (λ a. bind (expression_in scope value) _ (expression_limit scope value q.1) (λ b. ok (t.Put u a b))))
  statement_limit scope (f.Seq parts) h = bind (statements_in scope parts) _ (statements_limit scope parts h) (λ ps. ok (t.Seq ps))
  statement_limit scope (f.If test first second) h =
      let p = both _ _ h in let q = both _ _ p.1 in
      bind (condition_in scope test) _ (condition_limit scope test p.0) (λ c. bind (statement_in scope first) _ (statement_limit scope first q.0) (λ a. bind (statement_in scope second) _ (statement_limit scope second q.1) (λ b. ok (t.If c a b))))
  statement_limit scope (f.Repeat count body) h = bind (count_of count) _ (count_limit count) (λ n. bind (statement_in scope body) _ (statement_limit scope body h) (λ p. ok (t.Repeat n p)))
  statement_limit scope f.Retry h = ok t.Retry
  statement_limit scope (f.OrElse first second) h =
      let p = both _ _ h in
      bind (statement_in scope first) _ (statement_limit scope first p.0) (λ a. bind (statement_in scope second) _ (statement_limit scope second p.1) (λ b. ok (t.OrElse a b)))
  statement_limit scope (f.Throw value) h = bind (expression_in scope value) _ (expression_limit scope value h) (λ a. ok (t.Throw a))
  statement_limit scope (f.Call name arguments) h = only_err faults.Limit

  statements_limit : (scope : Scope) (ss : Stmts) → stmts_known (names_alone scope) ss ≡ true → IsLimit (statements_in scope ss)
  statements_limit scope NoStmts h = ok t.End
  statements_limit scope (MoreStmts first others) h =
      let p = both _ _ h in
      bind (statement_in scope first) _ (statement_limit scope first p.0) (λ a. bind (statements_in scope others) _ (statements_limit scope others p.1) (λ b. ok (t.More a b)))

each_limit : {A B : Type 0} (one : A → Result B ReadFault) (good : A → Bool) → ((x : A) → good x ≡ true → IsLimit (one x)) → (xs : List A) → list_all good xs ≡ true → IsLimit (each one xs)
each_limit one good h [] g = ok []
each_limit one good h (x ∷ xs) g = let p = both _ _ g in bind (one x) _ (h x p.0) (λ y. bind (each one xs) _ (each_limit one good h xs p.1) (λ ys. ok (y ∷ ys)))

variables_limit : (ps : List Pair) → IsLimit (each variable_of ps)
variables_limit [] = ok []
variables_limit (p ∷ ps) = bind (variable_of p) _ (bind (number_of p.value) _ (number_limit p.value) (λ n. ok (p.name, n))) (λ y. bind (each variable_of ps) _ (variables_limit ps) (λ ys. ok (y ∷ ys)))

always_limit : (s : Scope) (a : Always) → always_known (names_alone s) a ≡ true → IsLimit (always_in s a)
always_limit s a h = bind (condition_in s a.condition) _ (condition_limit s a.condition h) (λ c. ok (a.name, c))

transaction_limit : (outer : Scope) (d : Declaration) → tx_known (names_alone outer) d ≡ true → IsLimit (transaction_in outer d)
transaction_limit outer d h =
    let s = inside outer d.parameters in
    let p = both _ _ (both (are_new outer.variables d.parameters) _ h).1 in
    bind (statement_in s d.body) _ (statement_limit s d.body p.0) (λ a. bind (expression_in s d.value) _ (expression_limit s d.value p.1) (λ b. ok _))

numbers_limit : (zs : List ℤ) → IsLimit (each number_of zs)
numbers_limit [] = ok []
numbers_limit (z ∷ zs) = bind (number_of z) _ (number_limit z) (λ n. bind (each number_of zs) _ (numbers_limit zs) (λ ns. ok (n ∷ ns)))

cells_limit : (n : ℕ) (first : ℤ) (others : List ℤ) → IsLimit (numbers_in n first others)
cells_limit n first [] = bind (number_of first) _ (number_limit first) (λ v. ok _)
cells_limit n first (second ∷ others) =
    bind (each number_of (first ∷ second ∷ others)) _ (numbers_limit (first ∷ second ∷ others)) (λ vs. only_cond faults.Limit (length vs == n) (done vs) (Err faults.Limit) (ok vs) (only_err faults.Limit))

tables_limit : (ts : List Table) → IsLimit (each table_of ts)
tables_limit [] = ok []
tables_limit (t ∷ ts) =
    bind (table_of t) _ (bind (count_of t.count) _ (count_limit t.count) (λ n. bind (numbers_in n t.first t.others) _ (cells_limit n t.first t.others) (λ vs. ok _)))
    (λ y. bind (each table_of ts) _ (tables_limit ts) (λ ys. ok (y ∷ ys)))

spans_limit : (first : ℕ) (ts : List (List ℕ × ℕ)) → IsLimit (spans_in first ts)
spans_limit first [] = ok []
spans_limit first (t ∷ ts) =
    bind (span_behind first t.1) _ (only_cond faults.Limit (nat_lt (first + t.1) (2 ^ 32)) (done _) (Err faults.Limit) (ok _) (only_err faults.Limit))
    (λ u. bind (spans_in (first + t.1) ts) _ (spans_limit (first + t.1) ts) (λ us. ok (u ∷ us)))

arguments_limit : (given : List ℤ) → IsLimit (arguments_in given)
arguments_limit given = only_cond faults.Limit (nat_le (length given) most_parameters) (each number_of given) (Err faults.Limit) (numbers_limit given) (only_err faults.Limit)

has_place : (txs : List Declaration) (n : ℕ) (o : Option ℕ) → has_parameters txs n o ≡ true → is_some o ≡ true
has_place txs n None h = absurd cc
has_place txs n (Some place) h = refl

run_limit : (txs : List Declaration) (r : Run) → run_known txs r ≡ true → IsLimit (run_in (map tx_name txs) r)
run_limit txs r h =
    let names = map tx_name txs in
    let declared = has_place txs (length r.arguments) (position (bytes_eq r.name) names) h in
    bind (place_in names r.name) _ (place_limit names r.name declared) (λ place. bind (count_of r.count) _ (count_limit r.count) (λ n. bind (arguments_in r.arguments) _ (arguments_limit r.arguments) (λ given. ok _)))

converted_limit : (vars names : List (List ℕ)) (file : File) → uses_known (standing vars names []) file ≡ true → IsLimit (converted vars names (map tx_name file.txs) file)
unfolding converted uses_known
converted_limit vars names file h =
    let txs = map tx_name file.txs in
    let p = both _ _ h in
    let q = both _ _ p.1 in
    bind (each variable_of file.vars) _ (variables_limit file.vars)
    (λ v. bind (each table_of file.tables) _ (tables_limit file.tables)
    (λ n. bind (spans_in (length vars) (map (λ (t : (List ℕ × ℕ) × List ℤ). t.0) n)) _ (spans_limit (length vars) (map (λ (t : (List ℕ × ℕ) × List ℤ). t.0) n))
    (λ spans. let s = standing vars names spans in
    bind (each (always_in s) file.always) _ (each_limit (always_in s) (always_known (names_alone s)) (always_limit s) file.always p.0)
    (λ a. bind (each (transaction_in s) file.txs) _ (each_limit (transaction_in s) (tx_known (names_alone s)) (transaction_limit s) file.txs q.0)
    (λ x. bind (each (run_in txs) file.runs) _ (each_limit (run_in txs) (run_known file.txs) (run_limit file.txs) file.runs q.1) (λ r. ok _))))))

-- ---- names

declared_fault : (earlier names : List (List ℕ)) (e : ReadFault) → declared_after earlier names ≡ Err e → (e ≡ faults.Name) × (are_new earlier names ≡ false)
unfolding declared_one
declared_fault earlier [] e h = absurd cc
declared_fault earlier (name ∷ rest) e h =
    elim (bool_cases (list_any (bytes_eq name) earlier)) [
      | inl p ↦ let g = rw p at h in let s : e ≡ faults.Name = cc in (s, rw p refl)
      | inr p ↦ let g = rw p at h in let ih = declared_fault (earlier ++ name ∷ []) rest e g in (ih.0, rw p ih.1)
    ]

-- what a file resolves to, or why not
resolved_fault : (file : File) (e : ReadFault) → resolved file ≡ Err e → ((e ≡ faults.Name) × (names_known file ≡ false)) ⊎ ((e ≡ faults.Limit) × (names_known file ≡ true))
unfolding resolved
resolved_fault file e h =
    let vars = map pair_name file.vars in
    let tables = map table_name file.tables in
    let always = map condition_name file.always in
    let txs = map tx_name file.txs in
    elim (bind_err (declared_after [] vars) _ e h) [
      | inl p ↦ let d = declared_fault [] vars e p in inl (d.0, rw d.1 refl)
      | inr p ↦ elim (bind_err (declared_after [] tables) _ e p.2) [
        | inl n ↦ let d = declared_fault [] tables e n in inl (d.0, rw (declared_new [] vars p.0 p.1, d.1) refl)
        | inr n ↦ elim (bind_err (declared_after [] always) _ e n.2) [
          | inl a ↦ let d = declared_fault [] always e a in inl (d.0, rw (declared_new [] vars p.0 p.1, declared_new [] tables n.0 n.1, d.1) refl)
          | inr a ↦ elim (bind_err (declared_after [] txs) _ e a.2) [
            | inl q ↦ let d = declared_fault [] txs e q in inl (d.0, rw (declared_new [] vars p.0 p.1, declared_new [] tables n.0 n.1, declared_new [] always a.0 a.1, d.1) refl)
            | inr q ↦
                let known = rw (declared_is [] vars p.0 p.1, declared_is [] tables n.0 n.1, declared_is [] txs q.0 q.1) at q.2 in
                let v = declared_new [] vars p.0 p.1 in
                let t = declared_new [] tables n.0 n.1 in
                let c = declared_new [] always a.0 a.1 in
                let x = declared_new [] txs q.0 q.1 in
                elim (bool_cases (uses_known (standing vars tables []) file)) [
                  | inl u ↦ let g = rw u at known in inr ((converted_limit vars tables file u).by e g, rw (v, t, c, x, u) refl)
                  | inr u ↦ let g = rw u at known in let s : e ≡ faults.Name = cc in inl (s, rw (v, t, c, x, u) refl)
                ]
          ]
        ]
      ]
    ]

-- ---- each name of the tokens has the form of one

abbrev named : Lexeme → Bool
named Opens = true
named Closes = true
named (token.Name text) = is_name text
named (token.Int value) = true
named token.Other = true

atom_named : (text : List ℕ) → named (atom text) ≡ true
unfolding atom
atom_named text =
    elim (bool_cases (is_name text)) [
      | inl p ↦ rw p p
      | inr p ↦ elim (bool_cases (is_int text)) [
        | inl q ↦ rw (p, q) refl
        | inr q ↦ rw (p, q) refl
      ]
    ]

tokens_named : (n : ℕ) (bytes : List ℕ) → list_all named (tokens_within n bytes) ≡ true
unfolding tokens_within
tokens_named zero bytes = refl
tokens_named (suc n) [] = refl
tokens_named (suc n) (b ∷ bytes) =
    elim (bool_cases (is_atom_byte b)) [
      | inl p ↦ rw p (both_true _ _ (atom_named _) (tokens_named n (after is_atom_byte bytes)))
      | inr p ↦ elim (bool_cases (b == 40)) [
        | inl q ↦ rw (p, q) (tokens_named n bytes)
        | inr q ↦ elim (bool_cases (b == 41)) [
          | inl r ↦ rw (p, q, r) (tokens_named n bytes)
          | inr r ↦ elim (bool_cases (b == 59)) [
            | inl s ↦ rw (p, q, r, s) (tokens_named n (after is_in_line bytes))
            | inr s ↦ rw (p, q, r, s) (tokens_named n bytes)
          ]
        ]
      ]
    ]

all_parts : (p : Lexeme → Bool) (xs ys : List Lexeme) → list_all p (xs ++ ys) ≡ true → (list_all p xs ≡ true) × (list_all p ys ≡ true)
all_parts p [] ys h = (refl, h)
all_parts p (x ∷ xs) ys h = let a = both _ _ h in let b = all_parts p xs ys a.1 in (both_true _ _ a.0 b.0, b.1)

pairs_named : (word : List ℕ) (ps : List Pair) → list_all named (flat_map (pair_tokens word) ps) ≡ true → list_all is_name (map pair_name ps) ≡ true
pairs_named word [] h = refl
pairs_named word (p ∷ ps) h =
    let a = all_parts named (pair_tokens word p) (flat_map (pair_tokens word) ps) (sym (ap (list_all named) (flat_map-cons (pair_tokens word) p ps)) ∙ h) in
    both_true _ _ (both _ _ (both _ _ a.0).1).0 (pairs_named word ps a.1)

tables_named : (ts : List Table) → list_all named (flat_map table_tokens ts) ≡ true → list_all is_name (map table_name ts) ≡ true
tables_named [] h = refl
tables_named (t ∷ ts) h =
    let a = all_parts named (table_tokens t) (flat_map table_tokens ts) (sym (ap (list_all named) (flat_map-cons table_tokens t ts)) ∙ h) in
    both_true _ _ (both _ _ (both _ _ a.0).1).0 (tables_named ts a.1)

-- the parameters are the names of a list, for which only form 3 has room
parameters_named : (announced : FileForm) (names : List (List ℕ)) (more : List Lexeme) → HasRoom announced names → list_all named (list_tokens announced names ++ more) ≡ true → list_all is_name names ≡ true
parameters_named One names more none h = rw none refl
parameters_named Two names more none h = rw none refl
parameters_named Three names more room h =
    let a = all_parts named (map token.Name names ++ (Closes ∷ [])) more h in
    let b = all_parts named (map token.Name names) (Closes ∷ []) a.0 in
    sym (list_all-map named token.Name names) ∙ b.0

abbrev is_formed : Declaration → Bool
is_formed d = is_name d.name && list_all is_name d.parameters

txs_named : (announced : FileForm) (ds : List Declaration) → AllByRecursion (λ (d : Declaration). HasRoom announced d.parameters) ds → list_all named (flat_map (tx_tokens announced) ds) ≡ true → list_all is_formed ds ≡ true
txs_named announced [] room h = refl
txs_named announced (d ∷ ds) room h =
    let a = all_parts named (tx_tokens announced d) (flat_map (tx_tokens announced) ds) (sym (ap (list_all named) (flat_map-cons (tx_tokens announced) d ds)) ∙ h) in
    let inner = both (is_name d.name) _ (both (is_name (codes "tx")) _ a.0).1 in
    let rest = stmt_tokens d.body ++ expr_tokens d.value in
    let lists = all_parts named (list_tokens announced d.parameters ++ rest) (Closes ∷ []) inner.1 in
    both_true _ _ (both_true _ _ inner.0 (parameters_named announced d.parameters rest room.0 lists.0)) (txs_named announced ds room.1 a.1)

always_named : (all : List Always) → list_all named (flat_map always_tokens all) ≡ true → list_all is_name (map condition_name all) ≡ true
always_named [] h = refl
always_named (x ∷ xs) h =
    let a = all_parts named (always_tokens x) (flat_map always_tokens xs) (sym (ap (list_all named) (flat_map-cons always_tokens x xs)) ∙ h) in
    both_true _ _ (both _ _ (both _ _ a.0).1).0 (always_named xs a.1)

tx_room : (announced : FileForm) (file : File) → IsOfForm announced file → AllByRecursion (λ (d : Declaration). HasRoom announced d.parameters) file.txs
tx_room One file formed = formed.1.1
tx_room Two file formed = formed.1
tx_room Three file formed = everywhere (λ (d : Declaration). HasRoom Three d.parameters) (λ d. tt) file.txs

-- each declared name has the form of one
record AreNames (file : File) : Type 0 where
  vars : list_all is_name (map pair_name file.vars) ≡ true
  tables : list_all is_name (map table_name file.tables) ≡ true
  always : list_all is_name (map condition_name file.always) ≡ true
  txs : list_all is_formed file.txs ≡ true

file_named : (bytes : List ℕ) (file : File) → IsOfForm file.form file → tokens bytes ≡ file_tokens file → AreNames file
unfolding tokens
file_named bytes file formed e =
    let all : list_all named (file_tokens file) ≡ true = sym (ap (list_all named) e) ∙ tokens_named (length bytes) bytes in
    let h = all_parts named (heading_tokens file.form) _ all in
    let v = all_parts named (flat_map (pair_tokens (codes "var")) file.vars) _ h.1 in
    let n = all_parts named (flat_map table_tokens file.tables) _ v.1 in
    let a = all_parts named (flat_map always_tokens file.always) _ n.1 in
    let x = all_parts named (flat_map (tx_tokens file.form) file.txs) _ a.1 in
    record { vars = pairs_named (codes "var") file.vars v.0; tables = tables_named file.tables n.0; always = always_named file.always a.0; txs = txs_named file.form file.txs (tx_room file.form file formed) x.0 }

abbrev bad_file : ReadFault → Result File ReadFault
bad_file e = Err e

no_tree : (bytes : List ℕ) (e : ReadFault) → tree_of bytes ≡ Err e → (g : File) → SpellsTree bytes g → ⊥
no_tree bytes e h g s = let again = tree_again bytes g s in cc

-- ---- the names of a resolved file hold

abbrev is_own : List (List ℕ) → Declaration → Bool
is_own vars d = are_new vars d.parameters

known_own : (s : Scope) (ds : List Declaration) → list_all (tx_known s) ds ≡ true → list_all (is_own s.variables) ds ≡ true
known_own s [] h = refl
known_own s (d ∷ ds) h = let p = both _ _ h in both_true _ _ (both (is_own s.variables d) _ p.0).0 (known_own s ds p.1)

own_used : (s : Scope) (file : File) → uses_known s file ≡ true → list_all (is_own s.variables) file.txs ≡ true
unfolding uses_known
own_used s file h = known_own s file.txs (both _ _ (both _ _ h).1).0

-- what passes at the heads of declarations passes at those of their transactions
heads_pass : (p : Head → Bool) (ts : List Transaction) (ds : List Declaration) → map head_of ts ≡ map declared_head ds → list_all (λ d. p (declared_head d)) ds ≡ true → list_all (λ t. p (head_of t)) ts ≡ true
heads_pass p ts ds same h = sym (list_all-map p head_of ts) ∙ ap (list_all p) same ∙ list_all-map p declared_head ds ∙ h

resolved_names : (bytes : List ℕ) (file : File) (l : Listing) → SpellsTree bytes file → resolved file ≡ Ok l → names_hold l ≡ true
unfolding names_hold is_well_formed ids_hold
resolved_names bytes file l spelled h =
    let r = resolved_is file l h in
    let k = kept file l (converted_parts file l r.is_converted) in
    let n = file_named bytes file spelled.formed spelled.spelled in
    let txs : map (λ t. t.name) l.transactions ≡ map tx_name file.txs = by_heads (λ (g : Head). g.0) l.transactions file.txs k.heads in
    let f0 : list_all is_name l.names ≡ true = ap (list_all is_name) k.names ∙ n.vars in
    let f1 : list_all is_name (table_names l) ≡ true = ap (list_all is_name) k.tables ∙ n.tables in
    let f2 : list_all is_name (always_names l) ≡ true = ap (list_all is_name) k.always ∙ n.always in
    let f3 : list_all are_formed l.transactions ≡ true = heads_pass (λ (g : Head). is_name g.0 && list_all is_name g.1) l.transactions file.txs k.heads n.txs in
    let ids = both (list_all (knows_standing (length l.names) (spans l)) (conditions l)) _ (resolved_holds file l h) in
    let ids1 = both (list_all (knows_transaction (length l.names) (spans l)) l.transactions) _ ids.1 in
    let u0 : are_distinct l.names ≡ true = ap are_distinct k.names ∙ r.vars_new in
    let u1 : are_distinct (table_names l) ≡ true = ap are_distinct k.tables ∙ r.tables_new in
    let u2 : are_distinct (always_names l) ≡ true = ap are_distinct k.always ∙ r.always_new in
    let u3 : are_distinct (map (λ t. t.name) l.transactions) ≡ true = ap are_distinct txs ∙ r.txs_new in
    let own : list_all (is_own l.names) file.txs ≡ true = ap (λ (ns : List (List ℕ)). list_all (is_own ns) file.txs) k.names ∙ own_used (standing (map pair_name file.vars) (map table_name file.tables) []) file r.used in
    let u4 : list_all (has_own_parameters l.names) l.transactions ≡ true = heads_pass (λ (g : Head). are_new l.names g.1) l.transactions file.txs k.heads own in
    rw (f0, f1, f2, f3, ids.0, ids1.0, ids1.1, u0, u1, u2, u3, u4) refl

names_are_known : (file : File) (l : Listing) → resolved file ≡ Ok l → names_known file ≡ true
names_are_known file l h = let k = resolved_is file l h in rw (k.vars_new, k.tables_new, k.always_new, k.txs_new, k.used) refl

-- ---- the first fault

tree_fault : (bytes : List ℕ) (e : ReadFault) → tree_of bytes ≡ Err e → IsFirst bytes e
unfolding tree_of
tree_fault bytes e h =
    elim (chosen (ltb (longest bytes) (length bytes)) (bad_file faults.TooLong) (cond (list_all is_allowed bytes) (file_of (tokens bytes)) (Err faults.BadByte)) (Err e) h) [
      | inl p ↦ let s : faults.TooLong ≡ e = let q = p.1 in cc in subst (IsFirst bytes) s (ltb-true (longest bytes) (length bytes) p.0)
      | inr p ↦ elim (chosen (list_all is_allowed bytes) (file_of (tokens bytes)) (Err faults.BadByte) (Err e) p.1) [
        | inl q ↦ subst (IsFirst bytes) (sym ((file_shape (tokens bytes)).by e q.1)) (ltb-false (longest bytes) (length bytes) p.0, q.0, λ g s. no_tree bytes e h g s)
        | inr q ↦ let s : faults.BadByte ≡ e = let g = q.1 in cc in subst (IsFirst bytes) s (ltb-false (longest bytes) (length bytes) p.0, q.0)
      ]
    ]

-- why a listing whose names hold is not lawful
lawful_fault : (l : Listing) (e : ReadFault) → names_hold l ≡ true → lawful l ≡ Err e → (e ≡ faults.Limit) ⊎ ((e ≡ faults.Broken) × (limits_hold l ≡ true) × (upholds l l.initial ≡ false))
lawful_fault l e n h =
    let g = rw n at h in
    elim (chosen (limits_hold l) (upheld l) (Err faults.Limit) (Err e) g) [
      | inl p ↦ elim (chosen (upholds l l.initial) (done l) (Err faults.Broken) (Err e) p.1) [
        | inl u ↦ absurd (let q = u.1 in cc)
        | inr u ↦ let s : e ≡ faults.Broken = let q = u.1 in cc in inr (s, p.0, u.0)
      ]
      | inr p ↦ let s : e ≡ faults.Limit = let q = p.1 in cc in inl s
    ]

-- a tree whose names are known, and a limit in the way
limit_first : (bytes : List ℕ) (e : ReadFault) (file : File) → listing_at bytes ≡ Err e → e ≡ faults.Limit → SpellsTree bytes file → names_known file ≡ true → IsFirst bytes e
limit_first bytes e file h is spelled known =
    let g : listing_at bytes ≡ Err faults.Limit = rw is at h in
    subst (IsFirst bytes) (sym is) (file, (spelled, known, none_declared bytes g))

is_first : (bytes : List ℕ) (e : ReadFault) → listing_at bytes ≡ Err e → IsFirst bytes e
unfolding listing_at
is_first bytes e h =
    elim (bind_err (tree_of bytes) _ e h) [
      | inl p ↦ tree_fault bytes e p
      | inr p ↦
          let spelled = tree_takes bytes p.0 p.1 in
          elim (bind_err (resolved p.0) _ e p.2) [
            | inl q ↦ elim (resolved_fault p.0 e q) [
              | inl n ↦ subst (IsFirst bytes) (sym n.0) (p.0, (spelled, n.1))
              | inr n ↦ limit_first bytes e p.0 h n.0 spelled n.1
            ]
            | inr q ↦
                let hold = resolved_names bytes p.0 q.0 spelled q.1 in
                elim (lawful_fault q.0 e hold q.2) [
                  | inl n ↦ limit_first bytes e p.0 h n spelled (names_are_known p.0 q.0 q.1)
                  | inr n ↦ subst (IsFirst bytes) (sym n.0) (q.0, (resolved_declares bytes p.0 q.0 p.1 q.1 hold n.1, n.2))
                ]
          ]
    ]

first_of_result : (bytes : List ℕ) (e : ReadFault) (r : Result Listing ReadFault) → listing_at bytes ≡ r → fault_in r ≡ Some e → IsFirst bytes e
first_of_result bytes e (Ok l) is h = absurd cc
first_of_result bytes e (Err d) is h = let s : d ≡ e = cc in subst (IsFirst bytes) s (is_first bytes d is)

pub first_fault_is : (bytes : List ℕ) (e : ReadFault) → first_fault bytes ≡ Some e → IsFirst bytes e
first_fault_is bytes e h = first_of_result bytes e (listing_at bytes) refl h
