-- What the names of a program mean in its store's book.
use Rattle.std.proofs.Common.{◌≡◌, ◌∙◌, ℕ, ℤ, ◌<◌, List, [], length, Option, None, Some, ap, arith, position, bytes_eq}
use Rattle.std.proofs.lemmas.List.Quantifiers.{position-Some}
use Rattle.txn_programs.specs.declared.ast.VarId.{VarId}
use Rattle.txn_programs.specs.Listing.{Listing, values, spans, as_variable, variable_named}
use Rattle.text_line_reader.specs.Words.{cell_in}
use Rattle.text_line_reader.specs.CellNames.{cell_at, cell_named}
use Rattle.book.specs.View.{BookView}
use Rattle.book.specs.Counting.{IsPresent}
use Rattle.stm_store.specs.Naming.{named_as, span_at, value_named}
use Rattle.stm_store.specs.Working.{declaring}
use Rattle.stm_store.specs.Telling.{IsToldOf, IsValueOf, IsCellOf}

named_place : (o : Option ℕ) (x : VarId) → as_variable o ≡ Some x → o ≡ Some x.0
named_place None x e = absurd (cc)
named_place (Some place) x e = cc

-- a variable has an initial value
pub named_within : (l : Listing) (name : List ℕ) (x : VarId) → values l ≡ length l.initial → variable_named l name ≡ Some x → x.0 < length l.initial
named_within l name x size e =
    omega (arith, size, (position-Some (bytes_eq name) l.names x.0 [] (named_place (position (bytes_eq name) l.names) x e)).0)

-- ---- a program that declares the same means the same by each name

pub same_cell : (k l : Listing) (table index : ℕ) → declaring k ≡ declaring l → cell_at (spans k) (Some table) index ≡ cell_at (spans l) (Some table) index
same_cell k l table index same = ap (λ (m : Listing). cell_at (spans m) (Some table) index) same

pub same_span : (k l : Listing) (table : ℕ) → declaring k ≡ declaring l → span_at k table ≡ span_at l table
same_span k l table same = ap (λ (m : Listing). span_at m table) same

pub same_named : (k l : Listing) (name : List ℕ) → declaring k ≡ declaring l → value_named k name ≡ value_named l name
unfolding cell_named
same_named k l name same = ap (λ (m : Listing). named_as m name (cell_in name)) same

-- ---- what is told of it

told_is : (b : BookView) (l : Listing) (o : Option VarId) (x : VarId) (r : Option (ℤ × ℕ)) → length b.catalogue.initial ≡ length l.initial → x.0 < length l.initial → o ≡ Some x → IsPresent b x r → IsToldOf b o r
told_is b l o x None wide inside is past = absurd (omega (arith, inside, past, wide))
told_is b l o x (Some p) wide inside is here = (x, is, here)

pub no_value : (b : BookView) (l : Listing) (name : List ℕ) → declaring b.catalogue ≡ declaring l → value_named l name ≡ None → IsValueOf b name None
no_value b l name same none = same_named b.catalogue l name same ∙ none

pub value_is : (b : BookView) (l : Listing) (name : List ℕ) (x : VarId) (r : Option (ℤ × ℕ)) → declaring b.catalogue ≡ declaring l → length b.catalogue.initial ≡ length l.initial → x.0 < length l.initial → value_named l name ≡ Some x → IsPresent b x r → IsValueOf b name r
value_is b l name x r same wide inside named here = told_is b l (value_named b.catalogue name) x r wide inside (same_named b.catalogue l name same ∙ named) here

pub no_cell : (b : BookView) (l : Listing) (table index : ℕ) → declaring b.catalogue ≡ declaring l → cell_at (spans l) (Some table) index ≡ None → IsCellOf b table index None
no_cell b l table index same none = same_cell b.catalogue l table index same ∙ none

pub cell_is : (b : BookView) (l : Listing) (table index : ℕ) (x : VarId) (r : Option (ℤ × ℕ)) → declaring b.catalogue ≡ declaring l → length b.catalogue.initial ≡ length l.initial → x.0 < length l.initial → cell_at (spans l) (Some table) index ≡ Some x → IsPresent b x r → IsCellOf b table index r
cell_is b l table index x r same wide inside named here = told_is b l (cell_at (spans b.catalogue) (Some table) index) x r wide inside (same_cell b.catalogue l table index same ∙ named) here
