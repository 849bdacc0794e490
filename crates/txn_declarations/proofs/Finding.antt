-- Tables that lie behind each other.
use Rattle.std.proofs.Common.{◌≡◌, ℕ, ◌+◌, ◌<◌, Bool, true, false, ◌||◌, ◌==◌, List, [], ◌∷◌, refl, ◌∙◌, ap, arith}
use Rattle.std.proofs.lemmas.Bool.{and_parts, eqb-true}
use Rattle.txn_programs.specs.declared.ast.Span.{Span}
use Rattle.txn_programs.specs.Listing.{spans_from}
use Rattle.txn_programs.specs.Names.{same_span, knows_table}

other_first : (b : Bool) → (b ≡ true → ⊥) → b ≡ false
other_first true h = absurd (h refl)
other_first false h = refl

-- none of the tables begins before the first
pub begins_behind : (ts : List (List ℕ × ℕ)) (first : ℕ) (t : Span) → t.first < first → knows_table (spans_from first ts) t ≡ false
begins_behind [] first t h = refl
begins_behind (u ∷ ts) first t h =
    let other : same_span t (record { first = first; length = u.1 }) ≡ false =
    other_first _ (λ q. omega (arith, h, eqb-true t.first first (and_parts (t.first == first) (t.length == u.1) q).0)) in
    ap (λ b. b || knows_table (spans_from (first + u.1) ts) t) other ∙ begins_behind ts (first + u.1) t (omega (arith, h))
