-- The calls of a listing's tasks, and each task's transaction and arguments with them.
use Rattle.std.proofs.Common.{◌≡◌, ℕ, ℤ, zero, suc, ◌+◌, ◌-◌, ◌≤◌, List, [], ◌∷◌, ◌++◌, length, map, take, drop, true, refl, sym, ◌∙◌, ap, subst, arith, length-drop}
use Rattle.std.specs.List.{slice_get, All}
use Rattle.std.proofs.lemmas.List.{length-map, map-append, take_all}
use Rattle.std.proofs.lemmas.List.Elements.{All-from_get_or}
use Rattle.std.proofs.lemmas.Option.{slice_get-get_or}
use Rattle.txn_programs.specs.declared.arguments.Call.{Call}
use Rattle.txn_programs.specs.declared.ast.TxId.{TxId}
use Rattle.txn_programs.specs.Meaning.{State}
use Rattle.txn_programs.specs.Tree.{Transaction}
use Rattle.txn_programs.specs.Names.{names_hold}
use Rattle.txn_programs.specs.Listing.{Listing, calls, tasks, IsCallable}
use Rattle.txn_programs.proofs.Lawful.{callable_task}
use Rattle.txn.specs.Grown.{grown, SameProgram}
use Rattle.txn.specs.Values.{begun}
use Rattle.txn.proofs.Growing.{calls_grown}

abbrev pub txs_in : List Call → List TxId
txs_in cs = map (λ (c : Call). c.tx) cs

abbrev pub given_in : List Call → List (List ℤ)
given_in cs = map (λ (c : Call). c.arguments) cs

abbrev pub AreKnown : Listing → List Call → Type 0
AreKnown l cs = All (λ (c : Call). IsCallable l c.tx c.arguments) cs

-- for a place where no call stands
pub no_call : Call
no_call = record { tx = record { 0 = 0 }; arguments = [] }

-- the calls of a listing that begins
pub calls_begun : (l : Listing) (values : State) (cs : List Call) → calls (begun l values cs) ≡ cs
calls_begun l values cs = calls_grown (record l { initial = values; runs = [] }) cs

pub given_more : (l : Listing) (cs : List Call) → given_in (calls (grown l cs)) ≡ given_in (calls l) ++ given_in cs
given_more l cs = ap given_in (calls_grown l cs) ∙ map-append (λ (c : Call). c.arguments) (calls l) cs

-- there is a call for each task
pub length-calls : (l : Listing) → length (calls l) ≡ length (tasks l)
length-calls l = sym (length-map (calls l) (λ (c : Call). c.tx))

pub length-given : (l : Listing) → length (given_in (calls l)) ≡ length (tasks l)
length-given l = length-map (calls l) (λ (c : Call). c.arguments) ∙ length-calls l

-- each task of a catalogue makes a call of it
pub calls_known : (l : Listing) → names_hold l ≡ true → AreKnown l (calls l)
calls_known l names =
    All-from_get_or (λ (c : Call). IsCallable l c.tx c.arguments) (calls l) no_call (λ i low. callable_task l i _ names (slice_get-get_or (calls l) i no_call low))

-- a call of a listing is one of each that declares the same
pub callable_same : (a b : Listing) (tx : TxId) (given : List ℤ) → SameProgram a b → IsCallable b tx given → IsCallable a tx given
callable_same a b tx given same h =
    subst (λ (ts : List Transaction). IsCallable (record a { transactions = ts }) tx given) (sym same.transactions) (record { declared = h.declared; each = h.each })

pub drop_before : {X : Type 0} (n : ℕ) (xs ys : List X) → n ≤ length xs → drop n (xs ++ ys) ≡ drop n xs ++ ys
drop_before zero xs ys low = refl
drop_before (suc n) [] ys low = absurd (omega (arith, low))
drop_before (suc n) (x ∷ xs) ys low = drop_before n xs ys (omega (arith, low))

-- all behind a place
pub rest_taken : {X : Type 0} (xs : List X) (n : ℕ) → take (length xs - n) (drop n xs) ≡ drop n xs
rest_taken xs n = take_all (length xs - n) (drop n xs) (omega (arith, length-drop n xs))

-- what stands behind a place
pub get_drop : {X : Type 0} (n i : ℕ) (xs : List X) → slice_get (drop n xs) i ≡ slice_get xs (n + i)
get_drop zero i xs = let e : i ≡ 0 + i = omega arith in ap (slice_get xs) e
get_drop (suc n) i [] = refl
get_drop (suc n) i (x ∷ xs) = let e : suc (n + i) ≡ suc n + i = omega arith in get_drop n i xs ∙ ap (slice_get (x ∷ xs)) e
