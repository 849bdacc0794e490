-- The loop that fills the values of cells.
use Rattle.std.proofs.Common.{◌≡◌, ◌∙◌, ℕ, suc, ◌+◌, ◌-◌, ◌<◌, ◌≤◌, true, false, eqb, List, [], ◌∷◌, ◌++◌, length, take, drop, get_or, refl, sym, ap, subst, append_assoc, length-drop, arith}
use Rattle.std.specs.Prelude.{ℤ, pos, FitsSigned, All}
use Rattle.std.specs.Int.{w64}
use Rattle.std.proofs.Math.Seq.{drop-cons}
use Rattle.std.proofs.lemmas.Bool.{eq-eqb, ne_eqb}
use Rattle.std.proofs.lemmas.List.{append-nil, drop_all, take_all}
use Rattle.std.proofs.lemmas.List.Elements.{All-from_get_or}
use Rattle.txn_programs.specs.declared.ast.VarId.{VarId}
use Rattle.txn_programs.specs.Listing.{Listing}
use Rattle.text_line_reader.specs.ReportResolving.{filled, values_told}

-- a cell, its value and its version, as the code keeps them
abbrev pub ToldCell : Type 0
ToldCell = VarId × (ℤ × ℕ)

abbrev pub no_cell : ToldCell
no_cell = (record { 0 = 0 }, (pos 0, 0))

-- one cell more
module _ (begun : List ℤ) (cells : List ToldCell) (i n next : ℕ) (lt : i < length begun) where
  abbrev pub rest : ℕ → List (ℤ × ℕ)
  rest next = filled (drop (i + 1) begun) (i + 1 + n) (drop next cells)

  on : (v : ℤ × ℕ) (cs : List ToldCell) → v ∷ filled (drop (suc i) begun) (suc (i + n)) cs ≡ v ∷ filled (drop (i + 1) begun) (i + 1 + n) cs
  on v cs =
      let a : suc i ≡ i + 1 = omega arith in
      let b : suc (i + n) ≡ i + 1 + n = omega arith in
      ap (λ k. v ∷ filled (drop k begun) (suc (i + n)) cs) a ∙ ap (λ k. v ∷ filled (drop (i + 1) begun) k cs) b

  front : (cs : List ToldCell) → filled (drop i begun) (i + n) cs ≡ filled (get_or begun i (pos 0) ∷ drop (suc i) begun) (i + n) cs
  front cs = ap (λ (zs : List ℤ). filled zs (i + n) cs) (drop-cons begun i (pos 0) lt)

  pub step_told : next < length cells → (get_or cells next no_cell).0.0 ≡ n + i → filled (drop i begun) (i + n) (drop next cells) ≡ (get_or cells next no_cell).1 ∷ rest (next + 1)
  step_told more e =
      let t = get_or cells next no_cell in
      let yes : eqb t.0.0 (i + n) ≡ true = eq-eqb t.0.0 (i + n) (e ∙ omega arith) in
      let one : filled (get_or begun i (pos 0) ∷ drop (suc i) begun) (i + n) (t ∷ drop (suc next) cells) ≡ t.1 ∷ filled (drop (suc i) begun) (suc (i + n)) (drop (suc next) cells) = rw yes refl in
      let later : suc next ≡ next + 1 = omega arith in
      front (drop next cells)
      ∙ ap (λ (zs : List ToldCell). filled (get_or begun i (pos 0) ∷ drop (suc i) begun) (i + n) zs) (drop-cons cells next no_cell more) ∙ one
      ∙ on t.1 (drop (suc next) cells) ∙ ap (λ k. t.1 ∷ rest k) later

  pub step_past : length cells ≤ next → filled (drop i begun) (i + n) (drop next cells) ≡ (get_or begun i (pos 0), 0) ∷ rest next
  step_past le =
      let none = drop_all next cells le in
      front (drop next cells) ∙ ap (λ (zs : List ToldCell). filled (get_or begun i (pos 0) ∷ drop (suc i) begun) (i + n) zs) none
      ∙ on (get_or begun i (pos 0), 0) [] ∙ ap (λ (zs : List ToldCell). (get_or begun i (pos 0), 0) ∷ filled (drop (i + 1) begun) (i + 1 + n) zs) (sym none)

  pub step_later : next < length cells → ((get_or cells next no_cell).0.0 ≡ n + i → ⊥) → filled (drop i begun) (i + n) (drop next cells) ≡ (get_or begun i (pos 0), 0) ∷ rest next
  step_later more differs =
      let t = get_or cells next no_cell in
      let no : eqb t.0.0 (i + n) ≡ false = ne_eqb t.0.0 (i + n) (λ e. differs (e ∙ omega arith)) in
      let all = drop-cons cells next no_cell more in
      let one : filled (get_or begun i (pos 0) ∷ drop (suc i) begun) (i + n) (t ∷ drop (suc next) cells) ≡ (get_or begun i (pos 0), 0) ∷ filled (drop (suc i) begun) (suc (i + n)) (t ∷ drop (suc next) cells) = rw no refl in
      front (drop next cells) ∙ ap (λ (zs : List ToldCell). filled (get_or begun i (pos 0) ∷ drop (suc i) begun) (i + n) zs) all ∙ one
      ∙ on (get_or begun i (pos 0), 0) (t ∷ drop (suc next) cells) ∙ ap (λ (zs : List ToldCell). (get_or begun i (pos 0), 0) ∷ filled (drop (i + 1) begun) (i + 1 + n) zs) (sym all)

pub filled_more : (values : List (ℤ × ℕ)) (v : ℤ × ℕ) (here rest total : List (ℤ × ℕ)) → here ≡ v ∷ rest → values ++ here ≡ total → (values ++ v ∷ []) ++ rest ≡ total
filled_more values v here rest total step so_far = append_assoc values (v ∷ []) rest ∙ ap (λ (zs : List (ℤ × ℕ)). values ++ zs) (sym step) ∙ so_far

-- the cell at hand has a line
pub more_told : (values values' : List (ℤ × ℕ)) (v : ℤ × ℕ) (begun : List ℤ) (cells : List ToldCell) (i n next next' : ℕ) (total : List (ℤ × ℕ)) → i < length begun → values' ≡ values ++ v ∷ [] → next' ≡ next + 1 → v ≡ (get_or cells next no_cell).1
    → next < length cells → (get_or cells next no_cell).0.0 ≡ n + i → values ++ filled (drop i begun) (i + n) (drop next cells) ≡ total → values' ++ filled (drop (i + 1) begun) (i + 1 + n) (drop next' cells) ≡ total
more_told values values' v begun cells i n next next' total lt a b d more e so_far =
    rw (a, b, d) (filled_more values (get_or cells next no_cell).1 _ _ total (step_told begun cells i n next lt more e) so_far)

-- or none
pub more_begun : (values values' : List (ℤ × ℕ)) (v : ℤ × ℕ) (begun : List ℤ) (cells : List ToldCell) (i n next next' : ℕ) (total : List (ℤ × ℕ)) → i < length begun → values' ≡ values ++ v ∷ [] → next' ≡ next → v ≡ (get_or begun i (pos 0), 0)
    → filled (drop i begun) (i + n) (drop next cells) ≡ (get_or begun i (pos 0), 0) ∷ filled (drop (i + 1) begun) (i + 1 + n) (drop next cells)
    → values ++ filled (drop i begun) (i + n) (drop next cells) ≡ total → values' ++ filled (drop (i + 1) begun) (i + 1 + n) (drop next' cells) ≡ total
more_begun values values' v begun cells i n next next' total lt a b d step so_far = rw (a, b, d) (filled_more values (get_or begun i (pos 0), 0) _ _ total step so_far)

-- all of them
pub rest_is : (n : ℕ) (xs : List ℤ) → take (length xs - n) (drop n xs) ≡ drop n xs
rest_is n xs = take_all (length xs - n) (drop n xs) (omega (arith, length-drop n xs))

pub values_done : (l : Listing) (variables : List (ℤ × ℕ)) (cells : List ToldCell) (values : List (ℤ × ℕ)) (begun : List ℤ) (i n next : ℕ) → begun ≡ drop (length l.names) l.initial → n ≡ length l.names → length begun ≤ i
    → values ++ filled (drop i begun) (i + n) (drop next cells) ≡ variables ++ filled begun n cells → values ≡ values_told l variables cells
values_done l variables cells values begun i n next same count le so_far =
    let none = drop_all i begun le in
    sym (append-nil values) ∙ ap (λ (zs : List ℤ). values ++ filled zs (i + n) (drop next cells)) (sym none) ∙ so_far
    ∙ ap (λ (zs : List ℤ). variables ++ filled zs n cells) same ∙ ap (λ k. variables ++ filled (drop (length l.names) l.initial) k cells) count

pub all_fit : (l : Listing) (begun : List ℤ) (i : ℕ) → begun ≡ drop (length l.names) l.initial → length begun ≤ i → ((k : ℕ) → k < i → FitsSigned w64 (get_or begun k (pos 0))) → All (FitsSigned w64) (drop (length l.names) l.initial)
all_fit l begun i same le h =
    let all : All (FitsSigned w64) begun = All-from_get_or (FitsSigned w64) begun (pos 0) (λ k lt. h k (omega (arith, lt, le))) in
    subst (λ (zs : List ℤ). All (FitsSigned w64) zs) same all
