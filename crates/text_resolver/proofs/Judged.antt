-- What a file declares, and how its names are judged.
use Rattle.std.proofs.Common.{◌≡◌, ℕ, Bool, cond, List, [], map, Result, Ok, Err, refl, sym, ap, ◌∙◌}
use Rattle.txn_programs.specs.Listing.{Listing}
use Rattle.text_words.specs.declared.fault.ReadFault.{ReadFault}
use Rattle.text_words.specs.declared.fault.ReadFault.TheVariants.{Name}
use Rattle.text_words.specs.Answers.{◌>>=◌, Fails}
use Rattle.text_words.proofs.Steps.{bind_ok, ok_is}
use Rattle.text_words.proofs.Many.{failed}
use Rattle.text_grammar.specs.Tree.{File}
use Rattle.text_grammar.specs.Resolving.{declared_after, pair_name, table_name, condition_name, tx_name, uses_known, resolved}
use Rattle.text_resolver.specs.DeclaredNames.{DeclaredNames, declared_in, known_scope, converted_by}
use Rattle.text_resolver.proofs.Texts.{declared_are}

abbrev Names : Type 0
Names = List (List ℕ)

abbrev Declaring : Type 0
Declaring = Result Names ReadFault

abbrev all_kinds : Declaring → Declaring → Declaring → Declaring → Result DeclaredNames ReadFault
all_kinds vars tables conditions txs =
    vars >>= λ vs. tables >>= λ ts. conditions >>= λ others. txs >>= λ names. Ok (record { variables = vs; tables = ts; transactions = names })

then_made : (vars tables conditions txs : Declaring) (f : DeclaredNames → Result Listing ReadFault)
    → (vars >>= λ vs. tables >>= λ ts. conditions >>= λ others. txs >>= λ names. f (record { variables = vs; tables = ts; transactions = names })) ≡ (all_kinds vars tables conditions txs >>= f)
then_made (Ok vs) (Ok ts) (Ok others) (Ok names) f = refl
then_made (Ok vs) (Ok ts) (Ok others) (Err e) f = refl
then_made (Ok vs) (Ok ts) (Err e) txs f = refl
then_made (Ok vs) (Err e) conditions txs f = refl
then_made (Err e) tables conditions txs f = refl

abbrev judged : File → DeclaredNames → Result Listing ReadFault
judged file names = cond (uses_known (known_scope names) file) (converted_by names file) (Err Name)

resolved_is : (file : File) → resolved file ≡ (declared_in file >>= judged file)
unfolding resolved
resolved_is file =
    then_made (declared_after [] (map pair_name file.vars)) (declared_after [] (map table_name file.tables)) (declared_after [] (map condition_name file.always)) (declared_after [] (map tx_name file.txs)) (judged file)

pub not_declared : (e : ReadFault) (file : File) → Fails e (declared_in file) → Fails e (resolved file)
not_declared e file h = rw (resolved_is file) (failed e (declared_in file) (judged file) _ h refl)

pub judged_is : (file : File) (names : DeclaredNames) (known : Bool) → declared_in file ≡ Ok names → uses_known (known_scope names) file ≡ known
    → resolved file ≡ cond known (converted_by names file) (Err Name)
judged_is file names known declared is = resolved_is file ∙ ap (λ r. r >>= judged file) declared ∙ ap (λ b. cond b (converted_by names file) (Err Name)) is

-- the names of transactions are those of the file, in its order
pub named_are : (file : File) (names : DeclaredNames) → declared_in file ≡ Ok names → names.transactions ≡ map tx_name file.txs
named_are file names e =
    let a = bind_ok (declared_after [] (map pair_name file.vars)) _ names e in
    let b = bind_ok (declared_after [] (map table_name file.tables)) _ names a.2 in
    let c = bind_ok (declared_after [] (map condition_name file.always)) _ names b.2 in
    let d = bind_ok (declared_after [] (map tx_name file.txs)) _ names c.2 in
    ap (λ (n : DeclaredNames). n.transactions) (sym (ok_is _ names d.2)) ∙ declared_are [] (map tx_name file.txs) d.0 d.1
