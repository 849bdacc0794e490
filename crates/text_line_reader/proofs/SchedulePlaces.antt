-- Names of variables and of cells, and their places.
use Rattle.std.proofs.Common.{◌≡◌, ◌∙◌, ℕ, zero, suc, ◌+◌, ◌-◌, ◌<◌, ◌≤◌, true, false, List, [], ◌∷◌, length, get_or, Option, Some, None, Ok, refl, sym, ap, subst, arith}
use Rattle.std.specs.Prelude.{position, bytes_eq, is_some, slice_get, nat_lt}
use Rattle.std.specs.Fmt.{decimal}
use Rattle.std.specs.Str.Parse.{digits_value}
use Rattle.std.proofs.lemmas.Bool.{lt-ltb, le-ltb}
use Rattle.std.proofs.lemmas.List.Quantifiers.{position-Some}
use Rattle.std.proofs.lemmas.Option.{same_Some, slice_get-get_or}
use Rattle.std.proofs.lemmas.Slice.Eq.{bytes_eq-Decides}
use Rattle.txn_programs.specs.declared.ast.VarId.{VarId}
use Rattle.txn_programs.specs.Limits.{limits_hold}
use Rattle.txn_programs.specs.Listing.{Listing, values, as_variable, variable_named}
use Rattle.txn_programs.specs.Names.{is_name, names_hold}
use Rattle.txn_programs.proofs.Lawful.{names_parts, limits_parts, passes_at}
use Rattle.text_report_printer.specs.Names.{named_cell, value_name}
use Rattle.text_report_printer.specs.ReportText.{cell_text, cell_name}
use Rattle.text_line_reader.specs.CellNames.{cell_named}
use Rattle.text_line_reader.specs.Words.{is_number}
use Rattle.text_line_reader.proofs.CellPlaces.{cell_back, IsSpelled, all_spelled, spelled_at, spelled}
use Rattle.text_line_reader.proofs.Numbers.{number_written, decimal_number}
use Rattle.text_line_reader.proofs.Places.{place_again}
use Rattle.text_line_reader.proofs.Spots.{spots, spots_length, no_table}
use Rattle.text_line_reader.specs.ScheduleResolving.{found, cell_id, variable_id}

-- ---- variables

variable_name : (l : Listing) (x : VarId) → x.0 < length l.names → value_name l x.0 ≡ get_or l.names x.0 []
variable_name l x lt = rw (lt-ltb x.0 (length l.names) lt) refl

named : (l : Listing) (x : VarId) → names_hold l ≡ true → x.0 < length l.names → variable_named l (value_name l x.0) ≡ Some x
named l x h lt =
    ap (variable_named l) (variable_name l x lt) ∙ ap as_variable (place_again l.names x.0 (names_parts l h).distinct lt)

pub variable_again : (l : Listing) (x : VarId) → names_hold l ≡ true → x.0 < length l.names → variable_id l (value_name l x.0) ≡ Ok x
unfolding variable_id
variable_again l x h lt = ap found (named l x h lt)

pub variable_is_known : (l : Listing) (x : VarId) → names_hold l ≡ true → x.0 < length l.names → is_some (variable_named l (value_name l x.0)) ≡ true
variable_is_known l x h lt = ap is_some (named l x h lt)

pub variable_is_name : (l : Listing) (x : VarId) → names_hold l ≡ true → x.0 < length l.names → is_name (value_name l x.0) ≡ true
variable_is_name l x h lt =
    ap is_name (variable_name l x lt) ∙ passes_at is_name l.names x.0 (get_or l.names x.0 []) (names_parts l h).forms (slice_get-get_or l.names x.0 [] lt)

-- the variable of a name has that name
pub record HasName (l : Listing) (name : List ℕ) (x : VarId) : Type 0 where
  pub name_is : value_name l x.0 ≡ name
  pub known : x.0 < values l

placed : (l : Listing) (name : List ℕ) (o : Option ℕ) (x : VarId) → position (bytes_eq name) l.names ≡ o → found (as_variable o) ≡ Ok x → HasName l name x
placed l name None x e is = absurd cc
placed l name (Some i) x e is =
    let p = position-Some (bytes_eq name) l.names i [] e in
    let inside = p.0 in
    let made : VarId = record { 0 = i } in
    let same : made ≡ x = cc in
    subst (HasName l name) same (record { name_is = variable_name l made p.0 ∙ sym ((bytes_eq-Decides name (get_or l.names i [])).0 p.1); known = omega (arith, inside) })

pub variable_back : (l : Listing) (name : List ℕ) (x : VarId) → variable_id l name ≡ Ok x → HasName l name x
unfolding variable_id
variable_back l name x e = placed l name (position (bytes_eq name) l.names) x refl e

-- ---- cells

-- the cell so far behind the first
spelled_far : (l : Listing) (x : VarId) (far : ℕ) → x.0 ≡ length l.names + far → value_name l x.0 ≡ named_cell l.tables far
spelled_far l x far place =
    let past : nat_lt x.0 (length l.names) ≡ false = le-ltb x.0 (length l.names) (omega (arith, place)) in
    let same : x.0 - length l.names ≡ far = omega (arith, place) in
    rw past (ap (named_cell l.tables) same)

in_list : {X : Type 0} (xs : List X) (k : ℕ) (x : X) → slice_get xs k ≡ Some x → k < length xs
in_list [] k x e = absurd cc
in_list (y ∷ ys) zero x e = omega arith
in_list (y ∷ ys) (suc k) x e = let h = in_list ys k x e in omega (arith, h)

found_is : (o : Option VarId) (x : VarId) → found o ≡ Ok x → o ≡ Some x
found_is None x e = absurd cc
found_is (Some y) x e = ap (λ (z : VarId). Some z) (let s : y ≡ x = cc in s)

-- the cell that is written so has this name
pub cell_has_name : (l : Listing) (table index : List ℕ) (x : VarId) → limits_hold l ≡ true → is_number index ≡ true → cell_id l table index ≡ Ok x → HasName l (cell_text table index) x
unfolding cell_id
cell_has_name l table index x limits h e =
    let a = cell_back l table index x (found_is (cell_named l table index) x e) in
    let n = spots_length l.tables in
    let lt = in_list (spots l.tables) a.far (table, digits_value 10 index) a.is in
    let s = spelled l.tables a.far (omega (arith, n, lt)) in
    let same : (s.name, s.index) ≡ (table, digits_value 10 index) = same_Some _ _ (sym s.is ∙ a.is) in
    let few = (limits_parts l limits).cells in
    let inside = a.inside in
    let place = a.place in
    record {
      name_is = spelled_far l x a.far a.place ∙ s.text ∙ ap (λ (t : List ℕ × ℕ). cell_name t.0 t.1) same ∙ ap (cell_text table) (number_written index h (omega (arith, few, inside)));
      known = omega (arith, place, n, lt);
    }

-- the table and the number of a cell
abbrev pub spot_of : Listing → VarId → List ℕ × ℕ
spot_of l x = get_or (spots l.tables) (x.0 - length l.names) no_table

-- how a cell is written
pub record CellNamed (l : Listing) (x : VarId) : Type 0 where
  pub text : value_name l x.0 ≡ cell_text (spot_of l x).0 (decimal (spot_of l x).1)
  pub name : is_name (spot_of l x).0 ≡ true
  pub index : is_number (decimal (spot_of l x).1) ≡ true
  pub id : cell_named l (spot_of l x).0 (decimal (spot_of l x).1) ≡ Some x

pub cell_is_named : (l : Listing) (x : VarId) → names_hold l ≡ true → limits_hold l ≡ true → length l.names ≤ x.0 → x.0 < values l → CellNamed l x
cell_is_named l x names limits past lt =
    let far = x.0 - length l.names in
    let at = spot_of l x in
    let n = spots_length l.tables in
    let place : x.0 ≡ length l.names + far = omega (arith, past) in
    let inside : far < length (spots l.tables) = omega (arith, past, lt, n) in
    let is : slice_get (spots l.tables) far ≡ Some at = slice_get-get_or (spots l.tables) far no_table inside in
    let s = spelled l.tables far (omega (arith, n, inside)) in
    let same : (s.name, s.index) ≡ at = same_Some _ _ (sym s.is ∙ is) in
    let sp : IsSpelled l (length l.names + far) at = spelled_at l (length l.names) (spots l.tables) far at (all_spelled l names limits) is in
    record {
      text = spelled_far l x far place ∙ s.text ∙ ap (λ (t : List ℕ × ℕ). cell_name t.0 t.1) same;
      name = sp.name;
      index = decimal_number at.1 sp.small;
      id = sp.id ∙ ap (λ (k : ℕ). Some (record { 0 = k })) (sym place);
    }

pub cell_again : (l : Listing) (x : VarId) → names_hold l ≡ true → limits_hold l ≡ true → length l.names ≤ x.0 → x.0 < values l → cell_id l (spot_of l x).0 (decimal (spot_of l x).1) ≡ Ok x
unfolding cell_id
cell_again l x names limits past lt = ap found (cell_is_named l x names limits past lt).id
