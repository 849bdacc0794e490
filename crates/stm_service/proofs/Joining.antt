-- What was shown only grows.
use Rattle.std.specs.Prelude.{Bool, true, false, MatchBool}
use Rattle.std.proofs.Common.{◌≡◌, ◌∙◌, ℕ, ◌≤◌, ◌+◌, ◌==◌, List, [], ◌∷◌, ◌++◌, length, drop, refl, sym, ap, subst, arith, append_assoc, length-append}
use Rattle.std.proofs.lemmas.List.{append-nil}
use Rattle.std.proofs.lemmas.Bool.Decides.{nat_tests}
use lib.Dec.{leb}
use mathlib.Core.List.{IsPrefix}
use Rattle.stm_desk.specs.declared.desk.Desk.{Desk}
use Rattle.stm_desk.specs.Answering.{history_of}
use Rattle.stm_desk.specs.History.{Begins, History}
use Rattle.stm_service.specs.declared.front.Piece.{Piece}
use Rattle.stm_service.specs.Pieces.{joined}
use Rattle.stm_service.proofs.Lists.{drop_all, prefix_shorter}

pub begins_itself : (h : History) → Begins h h
begins_itself h = ([], sym (append-nil h))

pub begins_on : (a b c : History) → Begins a b → Begins b c → Begins a c
begins_on a b c p q = (p.0 ++ q.0, q.1 ∙ (ap (λ (x : History). x ++ q.0) p.1 ∙ append_assoc a p.0 q.0))

pub joined_both : (h : History) (xs ys : List Piece) → joined h (xs ++ ys) ≡ joined (joined h xs) ys
joined_both h [] ys = refl
joined_both h (x ∷ xs) ys = joined_both (h ++ drop (length h) (history_of x.desk.value)) xs ys

pub joined_more : (h : History) (ys : List Piece) → Begins h (joined h ys)
joined_more h [] = begins_itself h
joined_more h (y ∷ ys) =
    let more = drop (length h) (history_of y.desk.value) in
    begins_on h (h ++ more) (joined (h ++ more) ys) (more, refl) (joined_more (h ++ more) ys)

-- more pieces show a longer history
pub joined_on : (xs ys : List Piece) → IsPrefix xs ys → Begins (joined [] xs) (joined [] ys)
joined_on xs ys p =
    subst (λ (zs : List Piece). Begins (joined [] xs) (joined [] zs)) p.1
    (subst (λ (h : History). Begins (joined [] xs) h) (sym (joined_both [] xs p.0)) (joined_more (joined [] xs) p.0))

-- a history that goes on with what was shown is shown whole
pub joined_whole : (pieces : List Piece) (p : Piece) → Begins (joined [] pieces) (history_of p.desk.value) → joined [] (pieces ++ p ∷ []) ≡ history_of p.desk.value
joined_whole pieces p s =
    let h = joined [] pieces in
    joined_both [] pieces (p ∷ [])
    ∙ (ap (λ (xs : History). h ++ drop (length h) xs) s.1 ∙ (ap (λ (xs : History). h ++ xs) (drop_all h s.0) ∙ sym s.1))

-- which of two histories has been seen further
pub further : (b : Bool) (m n : ℕ) (mine other both : List Piece) → leb n m ≡ b → m ≡ length mine → n ≡ length other → IsPrefix mine both → IsPrefix other both
    → MatchBool b (Begins (joined [] other) (joined [] mine)) (Begins (joined [] mine) (joined [] other))
further true m n mine other both is of_mine of_other p q =
    joined_on other mine (prefix_shorter other mine both q p (let le : n ≤ m = grind (arith, nat_tests) in omega (arith, le, of_mine, of_other)))
further false m n mine other both is of_mine of_other p q =
    joined_on mine other (prefix_shorter mine other both p q (let le : m ≤ n = grind (arith, nat_tests) in omega (arith, le, of_mine, of_other)))

-- the piece was added
pub was_added : (b : Bool) (v log : List Piece) (e : Piece) (n : ℕ) → b ≡ true → MatchBool b (log ≡ v ++ e ∷ []) (length log ≡ n) → log ≡ v ++ e ∷ []
was_added true v log e n so is = is
was_added false v log e n so is = absurd cc

-- so the history of its desk is shown whole, and there is one piece more
pub piece_shown : (d : Desk) (v log : List Piece) (e : Piece) (old found : ℕ) → e.desk.value ≡ d → old ≡ length v → found ≡ old → MatchBool (found == old) (log ≡ v ++ e ∷ []) (length log ≡ found) → Begins (joined [] v) (history_of d)
    → (old + 1 ≡ length log) × (joined [] log ≡ history_of d)
piece_shown d v log e old found same len there is begins =
    let so : (found == old) ≡ true = grind (arith, nat_tests) in
    let grown : log ≡ v ++ e ∷ [] = was_added (found == old) v log e found so is in (
      omega (arith, len, ap length grown, length-append v (e ∷ [])),
      ap (joined []) grown ∙ (joined_whole v e (subst (λ (x : Desk). Begins (joined [] v) (history_of x)) (sym same) begins) ∙ ap history_of same),
    )
