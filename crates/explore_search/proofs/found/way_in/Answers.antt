use Rattle.std.proofs.Common.{◌≡◌, ℕ, ◌<◌, List, Some, length, get_or, map, refl, sym, ◌∙◌, ap, subst, arith}
use Rattle.std.specs.Prelude.{All, slice_get}
use Rattle.std.specs.List.Sorted.{IsPermutation}
use Rattle.explore_law.specs.declared.found.End.{End}
use Rattle.explore_law.specs.declared.found.Found.{Found}
use Rattle.std.proofs.lemmas.Option.{slice_get_read}
use Rattle.explore_law.specs.Explored.{Explored, end_config}
use Rattle.explore_law.specs.Ways.{IsWay}
use Rattle.explore_search.specs.Indexed.{config_at}
use Rattle.explore_search.proofs.Ending.{ends_listed, explored, never_missing}
use Rattle.explore_search.proofs.found.way_in.Goals as goal

pub end_configs-requires : goal.end_configs-requires
end_configs-requires c =
    let s = c.args.s.now in
    subst (λ (ends : List ℕ). All (λ (i : ℕ). i < length s.configs.configs) ends) (sym c.as_slice.ensures.value) (ends_listed c.args.catalogue.now s.configs.configs s.kinds.items s.ends.items 0 c.requires.done.1.searched)

pub returns-in_default : goal.returns-in_default
returns-in_default c =
    let s = c.args.s.now in
    let ps = s.configs.configs in
    let f : Found = record { states = length ps; kinds = s.kinds; ends = c.in_ok-ends.ends } in
    let same : IsPermutation (map (config_at ps) s.ends.items) (map end_config c.in_ok-ends.ends.items) = subst (λ (ends : List ℕ). IsPermutation (map (config_at ps) ends) (map end_config c.in_ok-ends.ends.items)) c.as_slice.ensures.value c.in_ok-ends.ensures.same in
    let whole : Explored c.args.catalogue.now f = explored c.args.catalogue.now c.requires.done.0 s.configs s.kinds.items s.ends.items f c.requires.done.1 c.law.ensures refl refl same c.in_ok-ends.ensures.ascending in
    record { found = f; explored = whole; answer = omega (arith, c.in_default.ensures.lookup.3, ap length c.deref.ensures.value) }

pub number_of-requires : goal.number_of-requires
number_of-requires c =
    let s = c.args.s.now in
    subst (λ (ends : List ℕ). All (λ (i : ℕ). i < length s.configs.configs) ends) (sym c.as_slice-2.ensures.value) (ends_listed c.args.catalogue.now s.configs.configs s.kinds.items s.ends.items 0 c.requires.done.1.searched)

pub returns-in_default-number_of : goal.returns-in_default-number_of
returns-in_default-number_of c =
    let s = c.args.s.now in
    let ps = s.configs.configs in
    let same : IsPermutation (map (config_at ps) c.as_slice.result.now) (map end_config c.in_ok-ends.ends.items) = c.in_ok-ends.ensures.same in
    let e = c.in-Some.end.now in
    let there : slice_get c.deref.result.now c.args.end ≡ Some e =
    slice_get_read c.deref.result.now (length c.deref.result.now) c.args.end e refl c.in-Some.ensures.lookup.3.0 (c.in-Some.ensures.lookup.3.1 e) in
    let listed : slice_get c.in_ok-ends.ends.items c.args.end ≡ Some e = subst (λ (es : List End). slice_get es c.args.end ≡ Some e) c.deref.ensures.value there in
    let numbers : c.as_slice-2.result.now ≡ c.as_slice.result.now = c.as_slice-2.ensures.value ∙ sym c.as_slice.ensures.value in
    let none = subst (λ (ns : List ℕ). (j d : ℕ) → j < length ns → config_at ps (get_or ns j d) ≡ end_config e → ⊥) numbers c.in_default-number_of.ensures.none in
    absurd (never_missing ps c.as_slice.result.now c.in_ok-ends.ends.items c.args.end e same listed none)

pub returns : goal.returns
returns c =
    let s = c.args.s.now in
    let ps = s.configs.configs in
    let f : Found = record { states = length ps; kinds = s.kinds; ends = c.in_ok-ends.ends } in
    let same : IsPermutation (map (config_at ps) s.ends.items) (map end_config c.in_ok-ends.ends.items) = subst (λ (ends : List ℕ). IsPermutation (map (config_at ps) ends) (map end_config c.in_ok-ends.ends.items)) c.as_slice.ensures.value c.in_ok-ends.ensures.same in
    let whole : Explored c.args.catalogue.now f = explored c.args.catalogue.now c.requires.done.0 s.configs s.kinds.items s.ends.items f c.requires.done.1 c.law.ensures refl refl same c.in_ok-ends.ensures.ascending in
    let e = c.in-Some.end.now in
    let there : slice_get c.deref.result.now c.args.end ≡ Some e =
    slice_get_read c.deref.result.now (length c.deref.result.now) c.args.end e refl c.in-Some.ensures.lookup.3.0 (c.in-Some.ensures.lookup.3.1 e) in
    let listed : slice_get c.in_ok-ends.ends.items c.args.end ≡ Some e = subst (λ (es : List End). slice_get es c.args.end ≡ Some e) c.deref.ensures.value there in
    let way : IsWay c.args.catalogue.now c.in_ok-way.way.items (end_config e) = subst (IsWay c.args.catalogue.now c.in_ok-way.way.items) c.in-Some-number_of.ensures.found c.in_ok-way.ensures in
    record { found = f; explored = whole; answer = record { end = e; listed = listed; way = way } }
