-- The calls of a file: each of a declared transaction, and with as many arguments as that has parameters.
use Rattle.std.proofs.Common.{◌≡◌, ℕ, zero, suc, ◌<◌, ◌≤◌, true, List, [], ◌∷◌, length, map, Some, Ok, refl, sym, ap, subst, ◌∙◌, arith}
use Rattle.std.specs.Prelude.{pos, position, string_bytes, bytes_eq, nat_lt, ◌==◌}
use Rattle.std.specs.List.{slice_index_or, list_all}
use Rattle.std.proofs.lemmas.Bool.{eqb-true, eq-eqb, ltb-true}
use Rattle.std.proofs.lemmas.List.{length-map}
use Rattle.txn_programs.specs.declared.arguments.Call.{Call}
use Rattle.txn_programs.specs.declared.ast.Tx.{Tx}
use Rattle.txn_programs.specs.Tree.{Transaction, transaction_of}
use Rattle.txn_programs.specs.Tree as t
use Rattle.txn_programs.specs.Listing.{Listing}
use Rattle.txn_programs.specs.Limits.{most_parameters, limits_hold}
use Rattle.txn_programs.specs.Names.{is_callable}
use Rattle.txn_programs.proofs.Lawful.{few_arguments}
use Rattle.text_words.specs.Numbers.{count_of}
use Rattle.text_words.proofs.Steps.{bind_ok, ok_is}
use Rattle.text_grammar.specs.Tree.{Declaration, Run}
use Rattle.text_grammar.specs.Resolving.{place_in, arguments_in, call_at, run_in, run_known, has_parameters, tx_name}
use Rattle.text_file_reader.specs.Resolved.{parameters_of, is_wanted}
use Rattle.text_file_reader.proofs.Back.{both_true, arguments_back, declared_parameters}
use Rattle.text_file_reader.proofs.Declared.{both, id_back, place_found}

parameters_at : (ts : List Transaction) (i : ℕ) → slice_index_or (map parameters_of ts) i [] ≡ parameters_of (slice_index_or ts i (record { name = []; parameters = []; body = t.Skip; result = t.Int (pos 0) }))
parameters_at [] i = refl
parameters_at (x ∷ xs) zero = refl
parameters_at (x ∷ xs) (suc i) = parameters_at xs i

-- the calls of a listing are those
pub wanted_is : (l : Listing) (c : Call) → is_wanted (map parameters_of l.transactions) c ≡ is_callable l c
wanted_is l c = rw (length-map l.transactions parameters_of, parameters_at l.transactions c.tx.0) refl

pub all_wanted : (l : Listing) (cs : List Call) → list_all (is_wanted (map parameters_of l.transactions)) cs ≡ list_all (is_callable l) cs
all_wanted l [] = refl
all_wanted l (c ∷ cs) = rw (wanted_is l c, all_wanted l cs) refl

pub place_below : (names : List (List ℕ)) (name : List ℕ) (i : ℕ) → place_in names name ≡ Ok i → nat_lt i (length names) ≡ true
place_below names name i h = let below = (id_back names name i h).1 in grind (arith)

-- what a run is resolved to
pub run_wanted : (txs : List Declaration) (r : Run) (x : Call × ℕ) → run_known txs r ≡ true → run_in (map tx_name txs) r ≡ Ok x → is_wanted (map declared_parameters txs) x.0 ≡ true
run_wanted txs r x known h =
    let names = map tx_name txs in
    let i = bind_ok (place_in names r.name) _ x h in
    let n = bind_ok (count_of r.count) _ x i.2 in
    let g = bind_ok (arguments_in r.arguments) _ x n.2 in
    let a = (arguments_back r.arguments g.0 g.1).0 in
    let found : position (bytes_eq r.name) names ≡ Some i.0 = place_found names r.name i.0 i.1 in
    let as_many : (length (slice_index_or (map declared_parameters txs) i.0 []) == length r.arguments) ≡ true = ap (has_parameters txs (length r.arguments)) (sym found) ∙ known in
    let each : length g.0 ≡ length (slice_index_or (map declared_parameters txs) i.0 []) = ap length a ∙ sym (eqb-true _ _ as_many) in
    let count : length names ≡ length (map declared_parameters txs) = length-map txs tx_name ∙ sym (length-map txs declared_parameters) in
    let below : nat_lt i.0 (length (map declared_parameters txs)) ≡ true = ap (nat_lt i.0) (sym count) ∙ place_below names r.name i.0 i.1 in
    let made : Call × ℕ = (call_at i.0 g.0, n.0) in
    subst (λ (run : Call × ℕ). is_wanted (map declared_parameters txs) run.0 ≡ true) (ok_is made x g.2) (both_true _ _ below (eq-eqb _ _ each))

-- a call of a listing has no more arguments than a transaction may have parameters
pub few_wanted : (l : Listing) (c : Call) → limits_hold l ≡ true → is_wanted (map parameters_of l.transactions) c ≡ true → length c.arguments ≤ most_parameters
few_wanted l c h k =
    let b = both _ _ (sym (wanted_is l c) ∙ k) in
    few_arguments l c.tx c.arguments h (record { declared = ltb-true _ _ b.0; each = eqb-true _ _ b.1 })

params_at : (txs : List Tx) (i : ℕ) (d : Tx) → i < length txs → slice_index_or (map parameters_of (map transaction_of txs)) i [] ≡ map string_bytes (slice_index_or txs i d).params.items
params_at [] i d h = absurd (omega arith)
params_at (x ∷ xs) zero d h = refl
params_at (x ∷ xs) (suc i) d h = params_at xs i d (omega arith)

-- a transaction at the place of a call wants this many arguments
pub wants : (txs : List Tx) (c : Call) (tx : Tx) (n : ℕ) → nat_lt c.tx.0 (length txs) ≡ true → tx ≡ slice_index_or txs c.tx.0 tx → n ≡ length tx.params.items → (length c.arguments == n) ≡ is_wanted (map parameters_of (map transaction_of txs)) c
wants txs c tx n there is_there many =
    let count : length (map parameters_of (map transaction_of txs)) ≡ length txs = length-map (map transaction_of txs) parameters_of ∙ length-map txs transaction_of in
    let params : slice_index_or (map parameters_of (map transaction_of txs)) c.tx.0 [] ≡ map string_bytes tx.params.items =
    params_at txs c.tx.0 tx (ltb-true _ _ there) ∙ ap (λ (t : Tx). map string_bytes t.params.items) (sym is_there) in
    let each : length (slice_index_or (map parameters_of (map transaction_of txs)) c.tx.0 []) ≡ n = ap length params ∙ length-map tx.params.items string_bytes ∙ sym many in
    rw (count, there, each) refl
