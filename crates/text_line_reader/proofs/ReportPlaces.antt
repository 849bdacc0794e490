-- Names that are declared once, and their places.
use Rattle.std.proofs.Common.{◌≡◌, ◌∙◌, ℕ, ◌<◌, true, List, [], length, map, get_or, Option, Some, None, Ok, refl, sym, ap, subst, arith}
use Rattle.std.specs.Prelude.{position, bytes_eq, pos}
use Rattle.std.proofs.lemmas.Slice.Eq.{bytes_eq-Decides}
use Rattle.std.proofs.lemmas.List.{get_or-map, length-map}
use Rattle.std.proofs.lemmas.List.Quantifiers.{position-Some}
use Rattle.txn_programs.specs.declared.ast.AlwaysId.{AlwaysId}
use Rattle.txn_programs.specs.declared.ast.TxId.{TxId}
use Rattle.txn_programs.specs.Listing.{Listing, program_at, transaction_named, as_transaction, always_name, always_names, condition_named, as_condition}
use Rattle.txn_programs.specs.Names.{names_hold}
use Rattle.txn_programs.specs.Tree.{Condition, Transaction, Skip, Int}
use Rattle.txn_programs.proofs.Lawful.{names_parts}
use Rattle.text_line_reader.specs.ReportResolving.{found, tx_id, always_id}
use Rattle.text_line_reader.proofs.Places.{place_again}

abbrev nothing : Transaction
nothing = record { name = []; parameters = []; body = Skip; result = Int (pos 0) }

abbrev transaction_text : Transaction → List ℕ
transaction_text t = t.name

named : (l : Listing) (tx : TxId) → tx.0 < length l.transactions → get_or (map transaction_text l.transactions) tx.0 [] ≡ (program_at l tx).name
named l tx lt = get_or-map transaction_text l.transactions tx.0 nothing [] lt

pub tx_named : (l : Listing) (tx : TxId) → names_hold l ≡ true → tx.0 < length l.transactions → transaction_named l (program_at l tx).name ≡ Some tx
tx_named l tx h lt =
    let names = map transaction_text l.transactions in
    let inside : tx.0 < length names = rw length-map lt in
    ap (λ (name : List ℕ). as_transaction (position (bytes_eq name) names)) (sym (named l tx lt)) ∙ ap as_transaction (place_again names tx.0 (names_parts l h).tx_distinct inside)

pub tx_again : (l : Listing) (tx : TxId) → names_hold l ≡ true → tx.0 < length l.transactions → tx_id l (program_at l tx).name ≡ Ok tx
unfolding tx_id
tx_again l tx h lt = rw (tx_named l tx h lt) refl

-- the transaction of a name has that name
pub record HasName (l : Listing) (name : List ℕ) (tx : TxId) : Type 0 where
  pub name_is : (program_at l tx).name ≡ name
  pub known : tx.0 < length l.transactions

placed : (l : Listing) (name : List ℕ) (o : Option ℕ) (tx : TxId) → position (bytes_eq name) (map transaction_text l.transactions) ≡ o → found (as_transaction o) ≡ Ok tx → HasName l name tx
placed l name None tx e is = absurd cc
placed l name (Some i) tx e is =
    let names = map transaction_text l.transactions in
    let p = position-Some (bytes_eq name) names i [] e in
    let lt : i < length l.transactions = let inside = p.0 in let n = length-map l.transactions transaction_text in omega arith in
    let made : TxId = record { 0 = i } in
    let same : made ≡ tx = cc in
    subst (HasName l name) same (record {
      name_is = sym (named l made lt) ∙ sym ((bytes_eq-Decides name (get_or names i [])).0 p.1);
      known = lt;
    })

pub tx_back : (l : Listing) (name : List ℕ) (tx : TxId) → tx_id l name ≡ Ok tx → HasName l name tx
unfolding tx_id
tx_back l name tx e = placed l name (position (bytes_eq name) (map transaction_text l.transactions)) tx refl e

-- a standing condition is the one of its name
pub condition_is : (l : Listing) (id : AlwaysId) → names_hold l ≡ true → id.0 < length l.always → condition_named l (always_name l id) ≡ Some id
condition_is l id h lt =
    let names = always_names l in
    let inside : id.0 < length names = rw length-map lt in
    ap as_condition (place_again names id.0 (names_parts l h).always_distinct inside)

pub always_again : (l : Listing) (id : AlwaysId) → names_hold l ≡ true → id.0 < length l.always → always_id l (always_name l id) ≡ Ok id
unfolding always_id
always_again l id h lt = rw (condition_is l id h lt) refl

-- the standing condition of a name has that name
pub record NamesCondition (l : Listing) (name : List ℕ) (id : AlwaysId) : Type 0 where
  pub name_is : always_name l id ≡ name
  pub known : id.0 < length l.always

condition_placed : (l : Listing) (name : List ℕ) (o : Option ℕ) (id : AlwaysId) → position (bytes_eq name) (always_names l) ≡ o → found (as_condition o) ≡ Ok id → NamesCondition l name id
condition_placed l name None id e is = absurd cc
condition_placed l name (Some i) id e is =
    let names = always_names l in
    let p = position-Some (bytes_eq name) names i [] e in
    let lt : i < length l.always = let inside = p.0 in let n = length-map l.always (λ (a : List ℕ × Condition). a.0) in omega arith in
    let made : AlwaysId = record { 0 = i } in
    let same : made ≡ id = cc in
    subst (NamesCondition l name) same (record { name_is = sym ((bytes_eq-Decides name (get_or names i [])).0 p.1); known = lt })

pub always_back : (l : Listing) (name : List ℕ) (id : AlwaysId) → always_id l name ≡ Ok id → NamesCondition l name id
unfolding always_id
always_back l name id e = condition_placed l name (position (bytes_eq name) (always_names l)) id refl e
