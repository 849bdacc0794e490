-- Items that are resolved as they are read are those of the whole tree.
use Rattle.std.proofs.Common.{◌≡◌, ◌<◌, ◌≤◌, ℕ, suc, ℤ, arith, Bool, true, false, List, [], ◌∷◌, ◌++◌, map, length, Result, Ok, Err, refl, sym, ap, ◌∙◌}
use Rattle.std.specs.Prelude.{codes}
use Rattle.std.specs.List.{list_all}
use Rattle.std.proofs.lemmas.Bool.{le-leb}
use Rattle.std.proofs.lemmas.List.{map_push}
use Rattle.txn_programs.specs.declared.arguments.Call.{Call}
use Rattle.txn_programs.specs.Tree.{Condition, Transaction}
use Rattle.txn_programs.specs.declared.ast.Span.{Span}
use Rattle.txn_programs.specs.Listing.{Listing}
use Rattle.text_words.specs.Tokens.{Lexeme}
use Rattle.text_words.specs.TokenReading.{Read, form_at, begins, all_of}
use Rattle.text_words.specs.Numbers.{number_of}
use Rattle.text_words.specs.Answers.{◌>>=◌}
use Rattle.text_words.specs.declared.fault.ReadFault.{ReadFault}
use Rattle.text_words.proofs.Steps.{bind_ok, ok_is, done}
use Rattle.text_words.proofs.Many.{Shortens, with_front, goes_on, is_done}
use Rattle.text_grammar.specs.declared.file.FileForm.{FileForm}
use Rattle.text_grammar.specs.Tree.{Pair, Table, Always, Declaration, Run, File}
use Rattle.text_grammar.specs.Scope.{standing}
use Rattle.text_grammar.specs.Reading.{pair_at, tables_at, conditions_at, tx_at, run_at, run_behind, heading_at, end_at, file_of, tree_of}
use Rattle.text_grammar.specs.Resolving.{each, declared_one, declared_after, pair_name, table_name, condition_name, tx_name, variable_of, table_of, spans_in, always_in, run_in, arguments_in, listing, resolved}
use Rattle.text_grammar.specs.Spelling.{lawful, listing_at}
use Rattle.text_resolver.proofs.Parts.{converted_is}
use Rattle.text_file_reader.specs.Resolved.{Makes, MakesBehind, MakesNamed, Resolves, own_transaction_in, parameters_of, is_wanted}
use Rattle.text_file_reader.proofs.Known.{own_transactions, uses_are_known}
use Rattle.text_file_reader.proofs.Declared.{declared_is}

-- ---- one more item

pub each_push : {A B : Type 0} (one : A → Result B ReadFault) (xs : List A) (ys : List B) (x : A) (y : B) → each one xs ≡ Ok ys → one x ≡ Ok y → each one (xs ++ x ∷ []) ≡ Ok (ys ++ y ∷ [])
each_push {A} {B} one [] ys x y h is = rw is (ap (λ (zs : List B). done (zs ++ y ∷ [])) (ok_is [] ys h))
each_push {A} {B} one (first ∷ xs) ys x y h is =
    let a = bind_ok (one first) _ ys h in
    let b = bind_ok (each one xs) _ ys a.2 in
    rw (a.1, each_push one xs b.0 x y b.1 is) (ap (λ (zs : List B). done (zs ++ y ∷ [])) (ok_is (a.0 ∷ b.0) ys b.2))

pub declared_push : (earlier xs names more : List (List ℕ)) (name : List ℕ) → declared_after earlier xs ≡ Ok names → declared_one names name ≡ Ok more → declared_after earlier (xs ++ name ∷ []) ≡ Ok more
declared_push earlier [] names more name h is = rw (ok_is earlier names h, is) refl
declared_push earlier (first ∷ xs) names more name h is =
    let a = bind_ok (declared_one earlier first) _ names h in
    rw a.1 (declared_push a.0 xs names more name a.2 is)

-- ---- the loop

-- these items were read so far and are made into these, and the whole is that and what is read of the rest
pub record GoesOn {A B : Type 0} (goes : List Lexeme → Bool) (item_at : List Lexeme → Read A) (one : A → Result B ReadFault) (total : Read (List A)) (items : List A) (made : List B) (rest : List Lexeme) : Type 0 where
  pub are_read : with_front items (all_of goes item_at rest) ≡ total
  pub are_made : each one items ≡ Ok made

nothing_before : {A : Type 0} (read : Read (List A)) → with_front [] read ≡ read
nothing_before (Ok x) = refl
nothing_before (Err e) = refl

pub begun : {A B : Type 0} (goes : List Lexeme → Bool) (item_at : List Lexeme → Read A) (one : A → Result B ReadFault) (ts : List Lexeme) → GoesOn goes item_at one (all_of goes item_at ts) [] [] ts
begun goes item_at one ts = record { are_read = nothing_before (all_of goes item_at ts); are_made = refl }

pub one_more_item : {A B : Type 0} (goes : List Lexeme → Bool) (item_at : List Lexeme → Read A) (one : A → Result B ReadFault) → Shortens item_at
    → (total : Read (List A)) (items : List A) (made : List B) (rest after : List Lexeme) (x : A) (y : B) → GoesOn goes item_at one total items made rest
    → goes rest ≡ true → item_at rest ≡ Ok (x, after) → one x ≡ Ok y → GoesOn goes item_at one total (items ++ x ∷ []) (made ++ y ∷ []) after
one_more_item goes item_at one shortens total items made rest after x y so_far going is_read is_made =
    record {
      are_read = goes_on goes item_at shortens items rest (x, after) total going is_read so_far.are_read;
      are_made = each_push one items made x y so_far.are_made is_made;
    }

-- such items with the names that they declare
pub record SoFar {A B : Type 0} (word : List ℕ) (item_at : List Lexeme → Read A) (one : A → Result B ReadFault) (name : A → List ℕ) (total : Read (List A)) (made : List B) (names : List (List ℕ)) (rest : List Lexeme) : Type 0 where
  pub items : List A
  pub goes_on : GoesOn (begins word) item_at one total items made rest
  pub are_declared : declared_after [] (map name items) ≡ Ok names

pub none_yet : {A B : Type 0} (word : List ℕ) (item_at : List Lexeme → Read A) (one : A → Result B ReadFault) (name : A → List ℕ) (ts : List Lexeme) → SoFar word item_at one name (all_of (begins word) item_at ts) [] [] ts
none_yet word item_at one name ts = record { items = []; goes_on = begun (begins word) item_at one ts; are_declared = refl }

pub one_more : {A B : Type 0} (word : List ℕ) (item_at : List Lexeme → Read A) (one : A → Result B ReadFault) (name : A → List ℕ) → Shortens item_at
    → (total : Read (List A)) (made : List B) (names more : List (List ℕ)) (rest after : List Lexeme) (y : B) (called : List ℕ) → SoFar word item_at one name total made names rest
    → begins word rest ≡ true → MakesNamed (item_at rest) one name y called after → declared_one names called ≡ Ok more → SoFar word item_at one name total (made ++ y ∷ []) more after
one_more word item_at one name shortens total made names more rest after y called so_far going makes is_declared =
    let x = makes.item in
    let declared : declared_one names (name x) ≡ Ok more = rw makes.is_named is_declared in
    record {
      items = so_far.items ++ x ∷ [];
      goes_on = one_more_item (begins word) item_at one shortens total so_far.items made rest after x y so_far.goes_on going makes.is_read makes.is_made;
      are_declared = ap (declared_after []) (map_push name so_far.items x) ∙ declared_push [] (map name so_far.items) names more (name x) so_far.are_declared declared;
    }

pub no_more : {A B : Type 0} (word : List ℕ) (item_at : List Lexeme → Read A) (one : A → Result B ReadFault) (name : A → List ℕ) (total : Read (List A)) (made : List B) (names : List (List ℕ)) (rest : List Lexeme)
    → SoFar word item_at one name total made names rest → begins word rest ≡ false → Resolves total one name made names rest
no_more word item_at one name total made names rest so_far stop =
    record {
      items = so_far.items;
      are_read = is_done (begins word) item_at so_far.items rest total stop so_far.goes_on.are_read;
      are_made = so_far.goes_on.are_made;
      are_declared = so_far.are_declared;
    }

-- such items, whatever they are
pub record MadeSoFar {A B : Type 0} (goes : List Lexeme → Bool) (item_at : List Lexeme → Read A) (one : A → Result B ReadFault) (total : Read (List A)) (made : List B) (rest : List Lexeme) : Type 0 where
  pub items : List A
  pub goes_on : GoesOn goes item_at one total items made rest

pub none_made : {A B : Type 0} (goes : List Lexeme → Bool) (item_at : List Lexeme → Read A) (one : A → Result B ReadFault) (ts : List Lexeme) → MadeSoFar goes item_at one (all_of goes item_at ts) [] ts
none_made goes item_at one ts = record { items = []; goes_on = begun goes item_at one ts }

pub one_made : {A B : Type 0} (goes : List Lexeme → Bool) (item_at : List Lexeme → Read A) (one : A → Result B ReadFault) → Shortens item_at
    → (total : Read (List A)) (made : List B) (rest after : List Lexeme) (y : B) → MadeSoFar goes item_at one total made rest
    → goes rest ≡ true → Makes (item_at rest) one y after → MadeSoFar goes item_at one total (made ++ y ∷ []) after
one_made goes item_at one shortens total made rest after y so_far going makes =
    record {
      items = so_far.items ++ makes.item ∷ [];
      goes_on = one_more_item goes item_at one shortens total so_far.items made rest after makes.item y so_far.goes_on going makes.is_read makes.is_made;
    }

pub all_made : {A B : Type 0} (goes : List Lexeme → Bool) (item_at : List Lexeme → Read A) (one : A → Result B ReadFault) (total : Read (List A)) (made : List B) (rest : List Lexeme)
    → MadeSoFar goes item_at one total made rest → goes rest ≡ false → Makes total (each one) made rest
all_made goes item_at one total made rest so_far stop =
    record {
      item = so_far.items;
      is_read = is_done goes item_at so_far.items rest total stop so_far.goes_on.are_read;
      is_made = so_far.goes_on.are_made;
    }

pub each_length : {A B : Type 0} (one : A → Result B ReadFault) (xs : List A) (ys : List B) → each one xs ≡ Ok ys → length xs ≡ length ys
each_length {A} {B} one [] ys h = ap length (ok_is [] ys h)
each_length {A} {B} one (x ∷ xs) ys h =
    let a = bind_ok (one x) _ ys h in
    let b = bind_ok (each one xs) _ ys a.2 in
    ap suc (each_length one xs b.0 b.1) ∙ ap length (ok_is (a.0 ∷ b.0) ys b.2)

-- as many arguments as a call may have, and no more
pub all_given : (total : Read (List ℤ)) (made : List ℤ) (rest : List Lexeme) → length made ≤ 8 → Makes total (each number_of) made rest → Makes total arguments_in made rest
all_given total made rest few makes =
    let short : length makes.item ≤ 8 = omega (arith, few, each_length number_of makes.item made makes.is_made) in
    record {
      item = makes.item;
      is_read = makes.is_read;
      is_made = rw (le-leb (length makes.item) 8 short) makes.is_made;
    }

-- a run is what stands behind its parenthesis and its word
pub behind_word : (form : FileForm) (one : Run → Result (Call × ℕ) ReadFault) (ts inside after : List Lexeme) (made : Call × ℕ) → form_at (codes "run") ts ≡ Ok inside → Makes (run_behind form inside) one made after → Makes (run_at form ts) one made after
unfolding run_at
behind_word form one ts inside after made e makes = record { item = makes.item; is_read = rw e makes.is_read; is_made = makes.is_made }

-- an item takes a token at least
pub takes_one : {A B : Type 0} (item_at : List Lexeme → Read A) (one : A → Result B ReadFault) (name : A → List ℕ) → Shortens item_at → (rest after : List Lexeme) (y : B) (called : List ℕ) → MakesNamed (item_at rest) one name y called after → length after < length rest
takes_one item_at one name shortens rest after y called makes = shortens.by rest (makes.item, after) makes.is_read

-- ---- the whole file

abbrev var_items : List Lexeme → Read (List Pair)
var_items ts = all_of (begins (codes "var")) (pair_at (codes "var")) ts

abbrev tx_items : FileForm → List Lexeme → Read (List Declaration)
tx_items form ts = all_of (begins (codes "tx")) (tx_at form) ts

abbrev run_items : FileForm → List Lexeme → Read (List Run)
run_items form ts = all_of (begins (codes "run")) (run_at form) ts

file_is : (ts behind_heading behind_vars behind_tables behind_always behind_txs behind_runs : List Lexeme) (form : FileForm) (vars : List Pair) (tables : List Table) (always : List Always) (txs : List Declaration) (runs : List Run)
    → heading_at ts ≡ Ok (form, behind_heading) → var_items behind_heading ≡ Ok (vars, behind_vars) → tables_at form behind_vars ≡ Ok (tables, behind_tables) → conditions_at form behind_tables ≡ Ok (always, behind_always)
    → tx_items form behind_always ≡ Ok (txs, behind_txs) → run_items form behind_txs ≡ Ok (runs, behind_runs) → end_at behind_runs ≡ Ok tt
    → file_of ts ≡ Ok (record { form = form; vars = vars; tables = tables; always = always; txs = txs; runs = runs })
unfolding file_of
file_is ts behind_heading behind_vars behind_tables behind_always behind_txs behind_runs form vars tables always txs runs h v n a t r e = rw (h, v, n, a, t, r, e) refl

resolved_is : (file : File) (vars names conditions txs : List (List ℕ)) (values : List (List ℕ × ℤ)) (tables : List ((List ℕ × ℕ) × List ℤ)) (spans : List Span)
    (always : List (List ℕ × Condition)) (transactions : List Transaction) (runs : List (Call × ℕ))
    → declared_after [] (map pair_name file.vars) ≡ Ok vars → declared_after [] (map table_name file.tables) ≡ Ok names → declared_after [] (map condition_name file.always) ≡ Ok conditions → declared_after [] (map tx_name file.txs) ≡ Ok txs
    → each variable_of file.vars ≡ Ok values → each table_of file.tables ≡ Ok tables → spans_in (length vars) (map (λ t. t.0) tables) ≡ Ok spans
    → each (always_in (standing vars names spans)) file.always ≡ Ok always → each (own_transaction_in (standing vars names spans)) file.txs ≡ Ok transactions → each (run_in txs) file.runs ≡ Ok runs
    → list_all (λ (run : Call × ℕ). is_wanted (map parameters_of transactions) run.0) runs ≡ true → resolved file ≡ Ok (listing values tables always transactions runs)
unfolding resolved
resolved_is file vars names conditions txs values tables spans always transactions runs d n e g v b s a t r w =
    let scope = standing vars names spans in
    let called : txs ≡ map tx_name file.txs = declared_is [] (map tx_name file.txs) txs g in
    let made : each (run_in (map tx_name file.txs)) file.runs ≡ Ok runs = ap (λ (ns : List (List ℕ)). each (run_in ns) file.runs) (sym called) ∙ r in
    rw (d, n, e, g, uses_are_known scope file always transactions runs a t made w) (converted_is vars names txs file values tables spans always transactions runs v b s a (own_transactions scope file.txs transactions t) r)

-- what is resolved as it is read is what the whole tree is resolved to
pub at_once_is : (ts behind_heading behind_vars behind_tables : List Lexeme) (form : FileForm) (vars names : List (List ℕ))
    (values : List (List ℕ × ℤ)) (tables : List ((List ℕ × ℕ) × List ℤ)) (always : List (List ℕ × Condition)) (transactions : List Transaction) (runs : List (Call × ℕ))
    → heading_at ts ≡ Ok (form, behind_heading) → Resolves (var_items behind_heading) variable_of pair_name values vars behind_vars → Resolves (tables_at form behind_vars) table_of table_name tables names behind_tables
    → MakesBehind form vars names (map (λ t. t.0) tables) behind_tables always transactions runs → (file_of ts >>= λ file. resolved file) ≡ Ok (listing values tables always transactions runs)
at_once_is ts behind_heading behind_vars behind_tables form vars names values tables always transactions runs h v n behind =
    let p = behind.makes in
    let a = p.makes_always in
    let t = p.makes_txs in
    let r = p.makes_runs in
    let file : File = record { form = form; vars = v.items; tables = n.items; always = a.items; txs = t.items; runs = r.items } in
    rw (file_is ts behind_heading behind_vars behind_tables p.behind_always p.behind_txs p.behind_runs form v.items n.items a.items t.items r.items h v.are_read n.are_read a.are_read t.are_read r.are_read p.ends)
    (resolved_is file vars names p.conditions p.names values tables behind.spans always transactions runs v.are_declared n.are_declared a.are_declared t.are_declared v.are_made n.are_made behind.are_spans a.are_made t.are_made r.are_made r.are_wanted)

regroup : (r : Result File ReadFault) → (r >>= λ file. resolved file >>= λ l. lawful l) ≡ ((r >>= λ file. resolved file) >>= λ l. lawful l)
regroup (Ok file) = refl
regroup (Err e) = refl

-- what was resolved at once is judged as the listing
pub listing_is : (bytes : List ℕ) (l : Listing) → (tree_of bytes >>= λ file. resolved file) ≡ Ok l → listing_at bytes ≡ lawful l
unfolding listing_at
listing_is bytes l h = regroup (tree_of bytes) ∙ ap (λ r. r >>= λ l. lawful l) h
