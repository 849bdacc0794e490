-- Each store of the publisher keeps the rule.
use Rattle.std.proofs.Common.{◌≡◌, ◌≢◌, ℕ, ◌+◌, ◌-◌, ◌*◌, ◌/◌, ◌<◌, false, if◌then◌else◌, List, [], ◌∷◌, length, get_or, set, sym, refl, ap, ◌∙◌, subst, arith, Option, Some, None, IfSome}
use mathlib.Core.Option.{none, some}
use lib.ListN.{get_elem?}
use lib.Seq.{set-get_or}
use Rattle.std.specs.Int.{w64, cast_signed}
use Rattle.atomic_table.specs.Table.{step, keeps, stepped, Allows}
use Rattle.txn_words.specs.Words.{Commit, version_word, value_word, StartsWith, WordsMean}
use Rattle.txn_words.specs.Stores.{after_lock, after_value, after_clock, after_release, MayLock, MayStore, MayRelease}
use Rattle.txn_words.specs.Loads.{ReaderHolds}
use Rattle.txn_words.proofs.Words.{starts_whole}
use Rattle.txn_words.proofs.Stores.{Keeps, lock_keeps, value_keeps, clock_keeps, release_keeps}
use Rattle.txn_words.proofs.Loads.{reader_stays}
use Rattle.cells.specs.Sight.{Sight, publishing, commit_of}
use Rattle.cells.specs.Rule.{WordsHold}
use Rattle.cells.specs.Steps.{Seated, Moves, locks, stores_value, stores_clock, releases, loads_own}
use Rattle.cells.proofs.Seats.{Board, seats_stay, if_some, known, same_commit}

no_other : (a b : Commit) (j w : ℕ) → j ≢ w → (o : Option Commit) → IfSome o (λ c. (c ≡ a) × (j ≡ w)) → IfSome o (λ c. (c ≡ b) × (j ≡ w))
no_other a b j w n None h = tt
no_other a b j w n (Some c) h = absurd (n h.1)

-- a store of the publisher that leaves its record c'
commit_step : (s : Board) (r : WordsHold s) (i b id : ℕ) (slots : List (ℕ × Unit)) (c' : Commit) → id ≡ r.writer → StartsWith c'.history r.commit.history → Keeps s.words (set s.words i b) c'
    → WordsHold (stepped s i b id slots (publishing c') keeps)
commit_step s r i b id slots c' mine more kept = record {
  commit = c';
  writer = r.writer;
  words = kept.0;
  publisher = seats_stay (λ j d. IfSome d.publisher (λ c. (c ≡ c') × (j ≡ r.writer))) s.views id (publishing c') (refl, mine)
      (λ j d other at. no_other r.commit c' j r.writer (λ e. other (e ∙ sym mine)) d.publisher (r.publisher j d at));
  reader = seats_stay (λ j d. IfSome d.reader (ReaderHolds (set s.words i b) c'.history)) s.views id (publishing c') tt
      (λ j d other at. if_some _ _ (λ x. reader_stays s.words (set s.words i b) r.commit.history c'.history more kept.1 x) d.reader (r.reader j d at));
}

moves : (f : Commit → Commit) (m : Seated) (c : Commit) → m.0 ≡ publishing c → Moves f m (publishing (f c), m.1)
moves f m c is c' is' = ap (λ (x : Commit). publishing (f x)) (same_commit (publishing c) (publishing c') c c' (sym is ∙ is') refl refl)

-- a store that changes the publisher's record by f, from what the new record has to keep
publishes : (slots id : ℕ) (me : Seated) (i b : ℕ) (c : Commit) (f : Commit → Commit) → me.0 ≡ publishing c → StartsWith (f c).history c.history
    → ((ws : List ℕ) → WordsMean ws c → Keeps ws (set ws i b) (f c)) → Allows WordsHold slots id me i (λ _. b) (λ _. Moves f me)
publishes slots id me i b c f is more works s r _ at _ =
    let k = known s r id me.0 c at is in
    (publishing (f c), keeps, tt, commit_step s r i b id me.1 (f c) k.1 (subst (StartsWith (f c).history) (ap (λ (x : Commit). x.history) k.0) more) (works s.words (subst (WordsMean s.words) (sym k.0) r.words)), moves f me c is)

-- a seat with the record c is the publisher's
pub still_publisher : (d : Sight) (c : Commit) → d ≡ publishing c → d ≡ publishing (commit_of d)
still_publisher d c is = is ∙ ap (λ (e : Sight). publishing (commit_of e)) (sym is)

pub half_version : (x : ℕ) → version_word x / 2 ≡ x
half_version x = omega arith

pub half_value : (x : ℕ) → (value_word x - 1) / 2 ≡ x
half_value x = omega arith

pub locks_kept : (slots id : ℕ) (me : Seated) (c : Commit) (x b : ℕ) → me.0 ≡ publishing c → MayLock c x → b ≡ 2 * get_or c.versions x 0 + 1
    → Allows WordsHold slots id me (version_word x) (λ _. b) (λ _. locks (step slots (version_word x) b 0 none) me b)
locks_kept slots id me c x b is may stored =
    subst (λ (z : ℕ). Allows WordsHold slots id me (version_word x) (λ _. b) (λ _. Moves (after_lock z) me)) (sym (half_version x))
    (publishes slots id me (version_word x) b c (after_lock x) is (starts_whole c.history) (λ ws. lock_keeps ws c x b may stored))

pub values_kept : (slots id : ℕ) (me : Seated) (c : Commit) (x b : ℕ) → me.0 ≡ publishing c → MayStore c x
    → Allows WordsHold slots id me (value_word x) (λ _. b) (λ _. stores_value (step slots (value_word x) b 0 none) me b)
values_kept slots id me c x b is may =
    subst (λ (z : ℕ). Allows WordsHold slots id me (value_word x) (λ _. b) (λ _. Moves (after_value z (cast_signed w64 b)) me)) (sym (half_value x))
    (publishes slots id me (value_word x) b c (after_value x (cast_signed w64 b)) is (starts_whole c.history) (λ ws. value_keeps ws c x b may))

pub clock_kept : (slots id : ℕ) (me : Seated) (c : Commit) (b : ℕ) → me.0 ≡ publishing c → b ≡ length c.history → Allows WordsHold slots id me 0 (λ _. b) (λ _. stores_clock (step slots 0 b 0 none) me b)
clock_kept slots id me c b is stored = publishes slots id me 0 b c after_clock is (c.values ∷ [], refl) (λ ws. clock_keeps ws c b stored)

pub releases_kept : (slots id : ℕ) (me : Seated) (c : Commit) (x b : ℕ) → me.0 ≡ publishing c → MayRelease c x → b ≡ 2 * (length c.history - 1)
    → Allows WordsHold slots id me (version_word x) (λ _. b) (λ _. releases (step slots (version_word x) b 0 none) me b)
releases_kept slots id me c x b is may stored =
    subst (λ (z : ℕ). Allows WordsHold slots id me (version_word x) (λ _. b) (λ _. Moves (after_release z) me)) (sym (half_version x))
    (publishes slots id me (version_word x) b c (after_release x) is (starts_whole c.history) (λ ws. release_keeps ws c x b may stored))

-- the publisher's load of the word i
own_step : (s : Board) (r : WordsHold s) (i id : ℕ) (slots : List (ℕ × Unit)) (d : Sight) → get_elem? s.views id ≡ some d → WordsHold (stepped s i (get_or s.words i 0) id slots d keeps)
own_step s r i id slots d at = subst (λ (ws : List ℕ). WordsHold record { words = ws; homes = s.homes; views = set s.views id d }) (sym (set-get_or s.words i 0)) record {
  commit = r.commit;
  writer = r.writer;
  words = r.words;
  publisher = seats_stay (λ j d. IfSome d.publisher (λ c. (c ≡ r.commit) × (j ≡ r.writer))) s.views id d (r.publisher id d at) (λ j d _. r.publisher j d);
  reader = seats_stay (λ j d. IfSome d.reader (ReaderHolds s.words r.commit.history)) s.views id d (r.reader id d at) (λ j d _. r.reader j d);
}

pub own_version_read : (slots id : ℕ) (me : Seated) (c : Commit) (x : ℕ) → me.0 ≡ publishing c → x < length c.values → Allows WordsHold slots id me (version_word x) (λ n. n) (loads_own (step slots (version_word x) 0 0 none) me)
own_version_read slots id me c x is inside s r _ at _ =
    let n : ℕ = get_or s.words (version_word x) 0 in
    let within : x < length r.commit.values = subst (λ (z : Commit). x < length z.values) (known s r id me.0 c at is).0 inside in
    let here : n ≡ 2 * get_or r.commit.versions x 0 + (if get_or r.commit.locked x false then 1 else 0) = (r.words.each x within).version in
    let told : (z : Commit) → me.0 ≡ publishing z → n ≡ 2 * get_or z.versions (version_word x / 2) 0 + (if get_or z.locked (version_word x / 2) false then 1 else 0) = λ z is'.
    subst (λ (t : Commit × ℕ). n ≡ 2 * get_or t.0.versions t.1 0 + (if get_or t.0.locked t.1 false then 1 else 0)) (λ i. (sym (known s r id me.0 z at is').0 i, sym (half_version x) i)) here in
    (me.0, keeps, tt, own_step s r (version_word x) id me.1 me.0 at, (refl, told))
