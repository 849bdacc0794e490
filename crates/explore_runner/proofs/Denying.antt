-- Whether some order comes to what is denied, by what is found.
use Rattle.std.proofs.Common.{◌≡◌, ◌≢◌, ℕ, ◌-◌, ◌<◌, ◌≤◌, Bool, true, false, List, [], ◌∷◌, length, get_or, Some, refl, sym, ◌∙◌, ap, subst, ⊎_elim, arith}
use Rattle.std.specs.Prelude.{All, slice_get}
use Rattle.std.proofs.lemmas.List.{length-set, length-take-le, get_or_past, get_or_default, get_or-take}
use Rattle.std.proofs.lemmas.List.Elements.{All-map, All-contains}
use Rattle.std.proofs.lemmas.Option.{same_Some, slice_get-get_or, slice_get_within}
use Rattle.std.proofs.lemmas.Bool.{cases_lt}
use Rattle.txn_programs.specs.declared.ast.TxId.{TxId}
use Rattle.txn_programs.specs.Names.{names_hold}
use Rattle.txn_programs.specs.Listing.{Listing, calls}
use Rattle.run_interface.specs.declared.denial.Denial.{Denial}
use Rattle.run_interface.specs.declared.denial.Denial.TheVariants as denial
use Rattle.explore_law.specs.declared.found.End.{End}
use Rattle.explore_law.specs.declared.found.Kinds.{Kinds}
use Rattle.explore_law.specs.declared.found.Found.{Found}
use Rattle.explore_law.specs.declared.instance.InstanceId.{InstanceId}
use Rattle.explore_law.specs.Instances.{instances, instance_at}
use Rattle.explore_law.specs.Orders.{Config, first_config, turned, Leads, count_at}
use Rattle.explore_law.specs.Explored.{Kind, Returning, Throwing, Overflowing, DividingByZero, GoingOutside, Breaking, shows, Explored, Somewhere, end_config, end_configs}
use Rattle.explore_law.proofs.Instances.{instance_callable, length-counted}
use Rattle.explore_search.proofs.Whole.{turn_known}
use Rattle.explore_runner.specs.FoundText.{found_text, some_wait}
use Rattle.explore_runner.specs.Judging.{IsSaid, IsJudged}
use Rattle.explore_runner.specs.declared.sight.Judged.{Judged}
use Rattle.explore_runner.specs.declared.sight.Judged.TheVariants.{Clear, Denied, More}
use Rattle.run_interface.specs.declared.denial.Denials.{Denials}
use Rattle.txn_text.specs.Spelling.{Spells}
use Rattle.explore_runner.specs.declared.denied.Ending.{Ending}
use Rattle.explore_runner.specs.Denying.{denial_of, IsPossible, WaitsSomewhere, TurnsSomewhere, NoneEnds, kind_of_ending, Ends, IsFirstTurn}

none_flagged : (bs : List Bool) (i : ℕ) → All (λ (b : Bool). b ≡ false) bs → get_or bs i false ≡ true → ⊥
none_flagged bs i none is =
    ⊎_elim (λ (low : i < length bs). let no : get_or bs i false ≡ false = none i false low in absurd (cc))
    (λ (high : length bs ≤ i). let no : get_or bs i false ≡ false = get_or_past bs i false high in absurd (cc))
    (cases_lt i (length bs))

none_shown : (ks : Kinds) (d : Denial) (kind : Kind) → NoneEnds ks d → denial_of kind ≡ Some d → shows ks kind ≡ true → ⊥
none_shown ks d Returning none is s = absurd (cc)
none_shown ks d Throwing none is s = let no : ks.threw ≡ false = subst (NoneEnds ks) (sym (same_Some denial.Threw d is)) none in absurd (cc)
none_shown ks d Overflowing none is s = let no : ks.overflow ≡ false = subst (NoneEnds ks) (sym (same_Some denial.Overflow d is)) none in absurd (cc)
none_shown ks d DividingByZero none is s = let no : ks.zerodiv ≡ false = subst (NoneEnds ks) (sym (same_Some denial.ZeroDiv d is)) none in absurd (cc)
none_shown ks d GoingOutside none is s = let no : ks.outside ≡ false = subst (NoneEnds ks) (sym (same_Some denial.Outside d is)) none in absurd (cc)
none_shown ks d (Breaking id) none is s = none_flagged ks.broke id.0 (subst (NoneEnds ks) (sym (same_Some denial.Broke d is)) none) s

-- at each configuration there is a count for each instance
counts_stay : (l : Listing) (p : Config) (turns : List InstanceId) (q : Config) → Leads l p turns q → length q.left ≡ length p.left
counts_stay l p [] q h = ap (λ (r : Config). length r.left) h
counts_stay l p (k ∷ rest) q h = counts_stay l (turned l p k) rest q h.1 ∙ length-set p.left k.0 (count_at p.left k - 1)

-- the kind of a turn is among those that are found of its transaction
record Shown (f : Found) (tx : TxId) (kind : Kind) : Type 0 where
  ks : Kinds
  low : tx.0 < length f.kinds.items
  at : get_or f.kinds.items tx.0 ks ≡ ks
  shows_it : shows ks kind ≡ true

shown : (l : Listing) (f : Found) (tx : TxId) (kind : Kind) → names_hold l ≡ true → Explored l f → Somewhere l tx kind → Shown f tx kind
shown l f tx kind names found s =
    let p = s.config in
    let counts : length p.left ≡ length (instances l) = counts_stay l (first_config l) s.reached.turns p s.reached.leads ∙ length-counted l (calls l) in
    let k = s.instance in
    let at_place : slice_get (instances l) k.0 ≡ Some (instance_at l k) =
    slice_get-get_or (instances l) k.0 (record { tx = record { 0 = 0 }; arguments = [] }) (omega (arith, turn_known l p k s.turn, counts)) in
    let declared : (instance_at l k).tx.0 < length l.transactions = (instance_callable l k.0 (instance_at l k) names at_place).declared in
    let low : tx.0 < length f.kinds.items = omega (arith, declared, ap (λ (x : TxId). x.0) s.own, found.each) in
    let ks : Kinds = get_or f.kinds.items tx.0 (found_any f tx.0 low) in
    let at : slice_get f.kinds.items tx.0 ≡ Some ks = slice_get-get_or f.kinds.items tx.0 (found_any f tx.0 low) low in
    record {
      ks = ks;
      low = low;
      at = get_or_default f.kinds.items tx.0 ks (found_any f tx.0 low) low;
      shows_it = (found.kinds tx ks kind at).1 s;
    }
  where
    first_of : (xs : List Kinds) (i : ℕ) → i < length xs → Kinds
    first_of [] i low = absurd (omega (arith, low))
    first_of (x ∷ xs) i low = x

    found_any : (f : Found) (i : ℕ) → i < length f.kinds.items → Kinds
    found_any f i low = first_of f.kinds.items i low

-- where no kind that is found is one that is denied, no turn is
pub no_turn : (l : Listing) (f : Found) (d : Denial) → names_hold l ≡ true → Explored l f → All (λ (ks : Kinds). NoneEnds ks d) f.kinds.items → TurnsSomewhere l d → ⊥
no_turn l f d names found none w =
    let s = shown l f w.tx w.kind names found w.somewhere in
    none_shown s.ks d w.kind (subst (λ (ks : Kinds). NoneEnds ks d) s.at (none w.tx.0 s.ks s.low)) w.denied s.shows_it

-- where no task waits at an end that is found, none does at any
pub no_wait : (l : Listing) (f : Found) → Explored l f → All (λ (e : End). some_wait e.waiting.items ≡ false) f.ends.items → WaitsSomewhere l → ⊥
no_wait l f found none w =
    let all : All (λ (p : Config). some_wait p.left ≡ false) (end_configs f) = All-map (λ (p : Config). some_wait p.left ≡ false) end_config f.ends.items none in
    let no : some_wait w.config.left ≡ false = All-contains (λ (p : Config). some_wait p.left ≡ false) (end_configs f) w.config all ((found.ends w.config).1 (w.reached, w.last)) in
    absurd (cc)

-- the first kind that is found is that of the first turn
pub first_turn : (l : Listing) (f : Found) (d : Denial) (tx : TxId) (how : Ending) → names_hold l ≡ true → Explored l f → Ends f.kinds.items d tx how → IsFirstTurn l tx how
first_turn l f d tx how names found e = record {
  somewhere = (found.kinds tx e.ks (kind_of_ending how) e.at).0 e.shows;
  transaction = λ other low kind denied there.
      let s = shown l f other kind names found there in
      let within : tx.0 < length f.kinds.items = slice_get_within f.kinds.items tx.0 e.ks e.at in
      let no = e.before other.0 s.ks (omega (arith, low, length-take-le tx.0 f.kinds.items (omega (arith, within)))) in
      none_shown s.ks d kind (subst (λ (ks : Kinds). NoneEnds ks d) (get_or-take tx.0 f.kinds.items other.0 s.ks low ∙ s.at) no) (denied ∙ ap Some e.denied) s.shows_it;
  condition = λ id other is low there.
      let s : shows e.ks (Breaking other) ≡ true = (found.kinds tx e.ks (Breaking other) e.at).1 there in
      let no : shows e.ks (Breaking other) ≡ false = e.first id other is low in
      absurd (cc);
}

pub no_turn_possible : (l : Listing) (f : Found) (d : Denial) → names_hold l ≡ true → Explored l f → All (λ (ks : Kinds). NoneEnds ks d) f.kinds.items → d ≢ denial.Parked → IsPossible l d → ⊥
no_turn_possible l f denial.Parked names found none other w = other refl
no_turn_possible l f denial.Threw names found none other w = no_turn l f denial.Threw names found none w
no_turn_possible l f denial.Broke names found none other w = no_turn l f denial.Broke names found none w
no_turn_possible l f denial.Overflow names found none other w = no_turn l f denial.Overflow names found none w
no_turn_possible l f denial.ZeroDiv names found none other w = no_turn l f denial.ZeroDiv names found none w
no_turn_possible l f denial.Outside names found none other w = no_turn l f denial.Outside names found none w

-- the text of what is found, and what is said of it
pub judged_is : (l : Listing) (f : Found) (limit : ℕ) (ds : Denials) (file : List ℕ) → Spells file l → Explored l f → (judged : Judged) (text : List ℕ) → text ≡ found_text l f → IsSaid l f ds judged
    → IsJudged file limit ds judged text
judged_is l f limit ds file spelled found Clear text printed said = (record { file = l; spelled = spelled; found = f; explored = found; printed = printed }, said)
judged_is l f limit ds file spelled found (Denied line) text printed said = (record { file = l; spelled = spelled; found = f; explored = found; printed = printed }, said)
judged_is l f limit ds file spelled found More text printed said = absurd said
