-- Each load of a reader keeps the rule, and what a caller sees of it.
use Rattle.std.proofs.Common.{◌≡◌, ℕ, ◌+◌, ◌-◌, ◌*◌, ◌%◌, ◌<◌, ◌≤◌, Bool, true, false, List, [], ◌∷◌, length, get_or, set, ℤ, sym, refl, ap, ◌∙◌, subst, arith, IfSome}
use mathlib.Core.Option.{none}
use lib.Seq.{set-get_or}
use Rattle.std.specs.Int.{w64, cast_signed}
use Rattle.atomic_table.specs.Table.{step, keeps, stepped, Allows}
use Rattle.atomic_table.specs.Seated.{TableId}
use Rattle.txn_words.specs.Words.{state_of, last_state, version_word, value_word, StartsWith}
use Rattle.txn_words.specs.Loads.{PassRecord, begun, sampled, loaded, met, seen_value, ReaderHolds}
use Rattle.txn_words.proofs.Words.{seen_state}
use Rattle.txn_words.proofs.Loads.{same_width, begin_right, sample_right, value_right, again_right, again_tells}
use Rattle.cells.specs.Sight.{Sight, reading, record_of}
use Rattle.cells.specs.Rule.{WordsHold}
use Rattle.cells.specs.Steps.{Seated, begins, samples, loads_value, samples_again}
use Rattle.cells.specs.Passing.{Passing, passing, ReadsBy, BeginsBy, MeetsBy}
use Rattle.cells.specs.Private.{CellsSeat, reader_cells}
use Rattle.cells.proofs.Seats.{Board, seats_stay, holds_now, same_record}
use Rattle.cells.proofs.Commits.{half_version}

-- a load of the word i, after which the reader's record is x
reader_step : (s : Board) (r : WordsHold s) (i id : ℕ) (slots : List (ℕ × Unit)) (x : PassRecord) → ReaderHolds s.words r.commit.history x
    → WordsHold (stepped s i (get_or s.words i 0) id slots (reading x) keeps)
reader_step s r i id slots x holds = subst (λ (ws : List ℕ). WordsHold record { words = ws; homes = s.homes; views = set s.views id (reading x) }) (sym (set-get_or s.words i 0)) record {
  commit = r.commit;
  writer = r.writer;
  words = r.words;
  publisher = seats_stay (λ j d. IfSome d.publisher (λ c. (c ≡ r.commit) × (j ≡ r.writer))) s.views id (reading x) tt (λ j d _. r.publisher j d);
  reader = seats_stay (λ j d. IfSome d.reader (ReaderHolds s.words r.commit.history)) s.views id (reading x) holds (λ j d _. r.reader j d);
}

same : (m : Seated) (x y : PassRecord) → m.0 ≡ reading x → m.0 ≡ reading y → x ≡ y
same m x y p q = same_record (reading x) (reading y) x y (sym p ∙ q) refl refl

pub begins_kept : (slots id : ℕ) (me : Seated) (x : PassRecord) → me.0 ≡ reading x → Allows WordsHold slots id me 0 (λ n. n) (begins (step slots 0 0 0 none) me)
begins_kept slots id me x is s r _ at _ =
    let k = holds_now s r id me.0 x at is in let h : List (List ℤ) = r.commit.history in let n : ℕ = get_or s.words 0 0 in (
      reading (begun h n x),
      keeps,
      tt,
      reader_step s r 0 id me.1 (begun h n x) (begin_right s.words r.commit r.words x k),
      λ y is'. let e = same me x y is is' in (
        h,
        ap (λ (z : PassRecord). reading (begun h n z)) e,
        subst (λ (z : PassRecord). StartsWith h z.seen) e k.seen,
        sym r.words.clock,
        subst (λ (z : PassRecord). length (last_state h) ≡ length (state_of z.seen z.rv)) e (same_width s.words r.commit r.words x k),
      ),
    )

pub samples_kept : (slots id : ℕ) (me : Seated) (x : PassRecord) (v : ℕ) → me.0 ≡ reading x → v < length (state_of x.seen x.rv)
    → Allows WordsHold slots id me (version_word v) (λ n. n) (samples (step slots (version_word v) 0 0 none) me)
samples_kept slots id me x v is inside s r _ at _ =
    let k = holds_now s r id me.0 x at is in let n : ℕ = get_or s.words (version_word v) 0 in (
      reading (sampled v n x),
      keeps,
      tt,
      reader_step s r (version_word v) id me.1 (sampled v n x) (sample_right s.words r.commit r.words x k v inside),
      λ y is'. λ i. reading (sampled (sym (half_version v) i) n (same me x y is is' i)),
    )

pub values_read : (slots id : ℕ) (me : Seated) (x : PassRecord) (v first : ℕ) → me.0 ≡ reading x → x.variable ≡ v → x.loads ≡ first ∷ []
    → Allows WordsHold slots id me (value_word v) (λ n. n) (loads_value (step slots (value_word v) 0 0 none) me)
values_read slots id me x v first is of_v one s r _ at _ =
    let k = holds_now s r id me.0 x at is in let n : ℕ = get_or s.words (value_word v) 0 in (
      reading (loaded n x),
      keeps,
      tt,
      reader_step s r (value_word v) id me.1 (loaded n x) (value_right s.words r.commit r.words x k v first of_v one),
      λ y is'. ap (λ (u : PassRecord). reading (loaded n u)) (same me x y is is'),
    )

pub versions_read : (slots id : ℕ) (me : Seated) (x : PassRecord) (v first value : ℕ) → me.0 ≡ reading x → x.variable ≡ v → x.loads ≡ first ∷ value ∷ []
    → Allows WordsHold slots id me (version_word v) (λ n. n) (samples_again (step slots (version_word v) 0 0 none) me)
versions_read slots id me x v first b is of_v two s r _ at _ =
    let k = holds_now s r id me.0 x at is in let n : ℕ = get_or s.words (version_word v) 0 in (
      reading (loaded n x),
      keeps,
      tt,
      reader_step s r (version_word v) id me.1 (loaded n x) (again_right s.words r.commit r.words x k v first b of_v two),
      λ y is'. let e = same me x y is is' in (
        ap (λ (u : PassRecord). reading (loaded n u)) e,
        subst (λ (u : PassRecord). (got : ℕ) → u.loads ≡ n ∷ got ∷ [] → n % 2 ≡ 0 → n ≤ 2 * u.rv → cast_signed w64 got ≡ seen_value u u.variable) e
            (λ got loads even early. again_tells s.words r.commit r.words x k v n got of_v loads refl even early),
      ),
    )

-- what a reader's seat keeps over a step that leaves the record x
pub still_reading : (d : Sight) (x : PassRecord) (rv : ℕ) → d ≡ reading x → x.rv ≡ rv → rv < length x.seen → (d ≡ reading (record_of d)) × ((record_of d).rv ≡ rv) × (rv < length (record_of d).seen)
still_reading d x rv is e l = subst (λ (d : Sight). (d ≡ reading (record_of d)) × ((record_of d).rv ≡ rv) × (rv < length (record_of d).seen)) (sym is) (refl, e, l)

-- the cells that a seat is of, over a step that leaves the record y, at the same moment
pub cells_stay : (p q : CellsSeat) (y : PassRecord) → q.table_id ≡ p.table_id → q.me.0 ≡ reading y → y.seen ≡ (record_of p.me.0).seen → y.rv ≡ (record_of p.me.0).rv → reader_cells q ≡ reader_cells p
cells_stay p q y table is seen rv =
    λ i. record { table = table i; variables = (ap (λ (d : Sight). length (state_of (record_of d).seen (record_of d).rv)) is ∙ (λ j. length (state_of (seen j) (rv j)))) i; are_read = true }

-- a seat with the record y is a reader's
pub still_reader : (d : Sight) (y : PassRecord) → d ≡ reading y → d ≡ reading (record_of d)
still_reader d y is = is ∙ ap (λ (e : Sight). reading (record_of e)) (sym is)

pub reads_by : (p : Passing) (z z' : TableId) (b b' : Bool) (x y : PassRecord) (d : Sight) (v : ℕ) → passing z b x ≡ p → z' ≡ z → d ≡ reading y
    → y.seen ≡ x.seen → y.clock_loads ≡ x.clock_loads → y.word_loads ≡ x.word_loads + length y.loads → y.rv ≡ x.rv → y.variable ≡ v → length y.loads ≤ 3 → ReadsBy p (passing z' b' (record_of d)) v
reads_by p z z' b b' x y d v view table is seen clock_loads word_loads rv variable few =
    subst (λ (t : Passing × Sight). ReadsBy t.0 (passing z' b' (record_of t.1)) v) (λ i. (view i, sym is i)) record {
      cells = λ i. record { table = table i; variables = length (state_of (seen i) (rv i)); are_read = true };
      seen = seen;
      clock_loads = clock_loads;
      word_loads = word_loads;
      rv = rv;
      variable = variable;
      few = few;
    }

pub begins_by : (p : Passing) (z z' : TableId) (b : Bool) (x : PassRecord) (d : Sight) (h : List (List ℤ)) (n : ℕ) → passing z b x ≡ p → z' ≡ z → d ≡ reading (begun h n x) → StartsWith h x.seen → length h ≡ n + 1
    → length (last_state h) ≡ length (state_of x.seen x.rv) → BeginsBy p (passing z' true (record_of d))
begins_by p z z' b x d h n view table is more count size = let last : length h - 1 ≡ n = omega arith in
    subst (λ (t : Passing × Sight). BeginsBy t.0 (passing z' true (record_of t.1))) (λ i. (view i, sym is i)) record {
      cells = λ i. record { table = table i; variables = (ap (λ (k : ℕ). length (state_of h k)) (sym last) ∙ size) i; are_read = true };
      is_open = refl;
      seen = more;
      clock_loads = refl;
      word_loads = refl;
      rv = count;
    }

pub meets_by : (p : Passing) (z z' : TableId) (b : Bool) (x : PassRecord) (d : Sight) (h : List (List ℤ)) → passing z b x ≡ p → z' ≡ z → d ≡ reading (met h x) → StartsWith h x.seen → x.rv < length x.seen
    → MeetsBy p (passing z' false (record_of d)) h
meets_by p z z' b x d h view table is more began =
    subst (λ (t : Passing × Sight). MeetsBy t.0 (passing z' false (record_of t.1)) h) (λ i. (view i, sym is i)) record {
      cells = λ i. record { table = table i; variables = length (seen_state h x.seen x.rv more began i); are_read = true };
      is_closed = refl;
      seen = refl;
      extends = more;
      clock_loads = refl;
      word_loads = refl;
      rv = refl;
      last_read = (refl, refl);
    }
