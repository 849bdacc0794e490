-- Files of the same tokens.
use Rattle.std.proofs.Common.{◌≡◌, ◌∙◌, ℕ, ◌≤◌, Bool, true, ◌&&◌, List, ◌++◌, length, refl, sym, ap, arith, length-append}
use Rattle.std.specs.List.{list_all}
use Rattle.std.proofs.lemmas.Bool.{le-ltb}
use Rattle.std.proofs.lemmas.List.Folds.{list_all-append}
use Rattle.txn_programs.specs.Listing.{Listing}
use Rattle.text_words.specs.Bytes.{is_allowed}
use Rattle.text_words.specs.Tokens.{tokens}
use Rattle.text_grammar.specs.Tree.{longest}
use Rattle.text_grammar.specs.Reading.{tree_of}
use Rattle.text_grammar.specs.Spelling.{Declares, Spells, listing_at, fault_in}
use Rattle.text_file_reader.specs.Gaps.{IsGap, SplitsNoToken, ReadsAs}
use Rattle.text_file_reader.proofs.Begun.{longest_still}
use Rattle.text_file_reader.proofs.Gaps.{gap-between}

pub reads_as : (bytes others : List ℕ) → tokens bytes ≡ tokens others → list_all is_allowed bytes ≡ list_all is_allowed others → length bytes ≤ longest bytes → length others ≤ longest others → ReadsAs bytes others
unfolding listing_at tree_of
reads_as bytes others same allowed short others_short = record {
  spelled = λ l. (spells bytes others same allowed others_short l, spells others bytes (sym same) (sym allowed) short l);
  fault = ap fault_in (listed same allowed);
}
  where
    declares : (a b : List ℕ) → tokens a ≡ tokens b → list_all is_allowed a ≡ list_all is_allowed b → length b ≤ longest b → (l : Listing) → Declares a l → Declares b l
    declares a b t v le l d = record {
      form = d.form;
      tables = d.tables;
      spelled = record { short = le; allowed = sym v ∙ d.spelled.allowed; spelled = sym t ∙ d.spelled.spelled; formed = d.spelled.formed; parts = d.spelled.parts };
      tabled = d.tabled;
      valued = d.valued;
      names = d.names;
      limits = d.limits;
      integers = d.integers;
    }

    spells : (a b : List ℕ) → tokens a ≡ tokens b → list_all is_allowed a ≡ list_all is_allowed b → length b ≤ longest b → (l : Listing) → Spells a l → Spells b l
    spells a b t v le l s = record {
      declared = declares a b t v le l s.declared;
      upheld = s.upheld;
    }

    listed : tokens bytes ≡ tokens others → list_all is_allowed bytes ≡ list_all is_allowed others → listing_at bytes ≡ listing_at others
    listed t v = rw (le-ltb _ _ short, le-ltb _ _ others_short, v, t) refl

allowed-between : (a gap b : List ℕ) → list_all is_allowed gap ≡ true → list_all is_allowed (a ++ (gap ++ b)) ≡ list_all is_allowed (a ++ b)
allowed-between a gap b h =
    list_all-append is_allowed a (gap ++ b)
    ∙ ap (λ (v : Bool). list_all is_allowed a && v) (list_all-append is_allowed gap b ∙ ap (λ (v : Bool). v && list_all is_allowed b) h)
    ∙ sym (list_all-append is_allowed a b)

pub reads_as-gap : (a gap b : List ℕ) → IsGap gap → SplitsNoToken a b → list_all is_allowed gap ≡ true → length (a ++ (gap ++ b)) ≤ longest (a ++ (gap ++ b)) → ReadsAs (a ++ (gap ++ b)) (a ++ b)
reads_as-gap a gap b g h allowed short =
    reads_as (a ++ (gap ++ b)) (a ++ b) (gap-between a gap b g h) (allowed-between a gap b allowed) short
    (omega (arith, short, longest_still a gap b g h, length-append a (gap ++ b), length-append gap b, length-append a b))
