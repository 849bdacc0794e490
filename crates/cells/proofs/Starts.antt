-- The rule holds at the start, and as readers get their seats.
use Rattle.std.proofs.Common.{◌≡◌, ℕ, zero, suc, ◌+◌, ◌*◌, ◌<◌, List, [], ◌∷◌, length, get_or, set, ℤ, sym, refl, ap, ◌∙◌, subst, ⊎_elim, arith, IfSome, replicate, length-set, get_or-set_other, get_or-set_same}
use mathlib.Core.Option.{some, some-injective, some-ne-none}
use mathlib.Core.Logic.{dite}
use native.Mathlib.Decide.{ℕ_discrete}
use Rattle.std.proofs.lemmas.List.{length-replicate}
use lib.ListN.{get_elem?}
use Rattle.std.specs.Int.{w64, cast_signed}
use Rattle.atomic_table.specs.Table.{opening, Splits}
use Rattle.atomic_table.proofs.Lists.{at_snoc}
use Rattle.txn_words.specs.Words.{Commit, state_value, version_word, value_word}
use Rattle.txn_words.specs.Stores.{opened}
use Rattle.txn_words.specs.Loads.{enrolled, ReaderHolds}
use Rattle.txn_words.proofs.Words.{starts_whole, all_free, all_zero, opened_sized, opens}
use Rattle.cells.specs.Sight.{Sight, publishing, reading}
use Rattle.cells.specs.Rule.{WordsHold}
use Rattle.cells.specs.Publishing.{IsResting}
use Rattle.cells.specs.Private.{AreFirstWords}
use Rattle.cells.proofs.Seats.{seats_stay, known}

only : (K : ℕ → Sight → Type 0) (v : Sight) → K 0 v → (j : ℕ) (d : Sight) → get_elem? (v ∷ []) j ≡ some d → K j d
only K v h zero d e = subst (K 0) (some-injective v d e) h
only K v h (suc j) d e = absurd (some-ne-none d (sym e))

pub starts : (m : List ℤ) (words : List ℕ) → AreFirstWords m words (length m) → WordsHold (opening words [] (publishing (opened m)))
starts m words h = record {
  commit = opened m;
  writer = 0;
  words = opens m words h.wide h.clock (λ x l. (h.versions x, h.values x l));
  publisher = only (λ j d. IfSome d.publisher (λ c. (c ≡ opened m) × (j ≡ 0))) (publishing (opened m)) (refl, refl);
  reader = only (λ j d. IfSome d.reader (ReaderHolds words (m ∷ []))) (publishing (opened m)) tt;
}

pub enrolls : (id : ℕ) (d : Sight) (c : Commit) → d ≡ publishing c → Splits WordsHold id d d (reading (enrolled c.history))
enrolls id d c is s r at = let k = known s r id d c at is in let same = ap (λ (z : Commit). z.history) k.0 in let clock = r.words.clock in record {
  commit = r.commit;
  writer = r.writer;
  words = r.words;
  publisher = λ j e p. ⊎_elim (seats_stay (λ j d. IfSome d.publisher (λ c. (c ≡ r.commit) × (j ≡ r.writer))) s.views id d (r.publisher id d at) (λ i x _. r.publisher i x) j e)
      (λ (t : reading (enrolled c.history) ≡ e). subst (λ (z : Sight). IfSome z.publisher (λ (c : Commit). (c ≡ r.commit) × (j ≡ r.writer))) t tt) (at_snoc (set s.views id d) (reading (enrolled c.history)) e j p);
  reader = λ j e p. ⊎_elim (seats_stay (λ j d. IfSome d.reader (ReaderHolds s.words r.commit.history)) s.views id d (r.reader id d at) (λ i x _. r.reader i x) j e)
      (λ (t : reading (enrolled c.history) ≡ e). subst (λ (z : Sight). IfSome z.reader (ReaderHolds s.words r.commit.history)) t record {
        seen = let whole = starts_whole c.history in (whole.0, sym same ∙ whole.1);
        began = subst (λ (h : List (List ℤ)). 0 < length h) (sym same) (omega arith);
        sampling = tt;
      }) (at_snoc (set s.views id d) (reading (enrolled c.history)) e j p);
}

blank : (n i : ℕ) → ◌≡◌ {A = ℕ} (get_or (replicate n 0) i 0) 0
blank zero i = refl
blank (suc n) zero = refl
blank (suc n) (suc i) = blank n i

-- with all words 0 no value is there yet
pub first_blank : (m : List ℤ) (words : List ℕ) → words ≡ replicate (2 * length m + 1) 0 → AreFirstWords m words 0
first_blank m words e = subst (λ (ws : List ℕ). AreFirstWords m ws 0) (sym e) record {
  wide = length-replicate (2 * length m + 1) 0;
  clock = blank (2 * length m + 1) 0;
  versions = λ x. blank (2 * length m + 1) (version_word x);
  values = λ x l. absurd (omega (arith, l));
}

-- one value more
pub first_more : (m : List ℤ) (words : List ℕ) (k b : ℕ) → k < length m → AreFirstWords m words k → cast_signed w64 b ≡ state_value m k → AreFirstWords m (set words (value_word k) b) (k + 1)
first_more m words k b low h is = let wide = h.wide in record {
  wide = length-set words (value_word k) b ∙ h.wide;
  clock = get_or-set_other words (value_word k) 0 b 0 (λ e. omega arith) ∙ h.clock;
  versions = λ x. get_or-set_other words (value_word k) (version_word x) b 0 (λ e. omega arith) ∙ h.versions x;
  values = λ x l. dite (ℕ_discrete x k)
      (λ e. ap (cast_signed w64) (ap (λ (z : ℕ). get_or (set words (value_word k) b) (value_word z) 0) e ∙ get_or-set_same words (value_word k) b 0 (omega (arith, wide, low))) ∙ (is ∙ ap (state_value m) (sym e)))
      (λ n. ap (cast_signed w64) (get_or-set_other words (value_word k) (value_word x) b 0 (λ e. n (omega arith))) ∙ h.values x (omega arith));
}

pub rests_first : (m : List ℤ) → IsResting (opened m) 0
rests_first m = record {
  counted = refl;
  past = λ x. let e = all_zero m x in omega arith;
  free = all_free m;
  in_order = refl;
  settled = (refl, refl);
  sized = opened_sized m;
}
