-- Lists of what changed, and what is copied by them.
use Rattle.std.proofs.Common.{◌≡◌, ◌≢◌, ◌⊎◌, inl, inr, ⊎_elim, ℕ, ◌+◌, ◌<◌, ◌≤◌, ℤ, pos, Bool, true, false, cond, List, [], ◌∷◌, ◌++◌, length, get_or, set, replicate, All, Contains, count_by, nat_lt, vec_capacity, refl, sym, ◌∙◌, ap, subst, arith, length-append, length-set, get_or-set_same, get_or-set_other, ext_get_or, lt-ltb, le-ltb, ltb-true, ltb-false}
use Rattle.std.proofs.lemmas.Grind.{get_or_default_zero}
use Rattle.std.proofs.lemmas.List.{length-replicate, get_or-replicate}
use Rattle.std.proofs.lemmas.List.Elements.{All-nil, All-push, Contains-append_left, Contains-push}
use Rattle.std.proofs.lemmas.List.Sums.{sum_by-set, count_by-le-length}
use Rattle.txn_programs.specs.Meaning.{State}
use Rattle.book.specs.declared.stored.Stored.{Stored}
use Rattle.book.specs.declared.since.Since.{Since}
use Rattle.book.specs.Changed.{AreAbove, AreListed}

same_or_not : (x y : ℕ) → (x ≡ y) ⊎ (x ≢ y)
same_or_not x y = grind arith

order : (m n : ℕ) → (m < n) ⊎ (n ≤ m)
order m n = by_test (nat_lt m n) refl
  where
    by_test : (b : Bool) → nat_lt m n ≡ b → (m < n) ⊎ (n ≤ m)
    by_test true e = inl (ltb-true m n e)
    by_test false e = inr (ltb-false m n e)

-- no version is above the number
pub none_above : (n : ℕ) (vs : List ℕ) → All (λ v. v ≤ n) vs → AreAbove n vs []
none_above n vs low =
    record {
      all = λ x l a. absurd (omega (arith, a, low x 0 l));
      exist = All-nil (λ (x : ℕ). x < length vs);
      few = omega arith;
    }

one_more : (n : ℕ) (vs : List ℕ) (x k : ℕ) → x < length vs → get_or vs x 0 ≤ n → n < k → count_by (nat_lt n) (set vs x k) ≡ count_by (nat_lt n) vs + 1
one_more n vs x k l low high =
    let was : ◌≡◌ {A = ℕ} (cond (nat_lt n (get_or vs x 0)) 1 0) 0 = ap (λ b. cond b 1 0) (le-ltb n (get_or vs x 0) low) in
    let now : ◌≡◌ {A = ℕ} (cond (nat_lt n k) 1 0) 1 = ap (λ b. cond b 1 0) (lt-ltb n k high) in
    omega (arith, sum_by-set (λ v. cond (nat_lt n v) 1 0) vs x k 0 l, was, now)

as_many : (n : ℕ) (vs : List ℕ) (x k : ℕ) → x < length vs → n < get_or vs x 0 → n < k → count_by (nat_lt n) (set vs x k) ≡ count_by (nat_lt n) vs
as_many n vs x k l above high =
    let was : ◌≡◌ {A = ℕ} (cond (nat_lt n (get_or vs x 0)) 1 0) 1 = ap (λ b. cond b 1 0) (lt-ltb n (get_or vs x 0) above) in
    let now : ◌≡◌ {A = ℕ} (cond (nat_lt n k) 1 0) 1 = ap (λ b. cond b 1 0) (lt-ltb n k high) in
    omega (arith, sum_by-set (λ v. cond (nat_lt n v) 1 0) vs x k 0 l, was, now)

-- where one is not above the number, there is room for it
pub room_left : (n : ℕ) (vs list : List ℕ) (x : ℕ) → AreAbove n vs list → x < length vs → get_or vs x 0 ≤ n → length list < length vs
room_left n vs list x h l low =
    omega (arith, h.few, one_more n vs x (n + 1) l low (omega arith), count_by-le-length (nat_lt n) (set vs x (n + 1)), length-set vs x (n + 1))

-- a version goes above the number, and is listed
pub above_new : (n : ℕ) (vs list : List ℕ) (x k : ℕ) → AreAbove n vs list → x < length vs → get_or vs x 0 ≤ n → n < k → AreAbove n (set vs x k) (list ++ x ∷ [])
above_new n vs list x k h l low high =
    let size = length-set vs x k in
    record {
      all = λ y within a. ⊎_elim
          (λ e. subst (Contains (list ++ x ∷ [])) (sym e) (Contains-push list x))
          (λ ne. Contains-append_left list (x ∷ []) y (h.all y (omega (arith, within, size)) (subst (λ (v : ℕ). n < v) (get_or-set_other vs x y k 0 ne) a)))
          (same_or_not y x);
      exist = All-push (λ (y : ℕ). y < length (set vs x k)) list x (subst (λ (m : ℕ). All (λ y. y < m) list) (sym size) h.exist) (omega (arith, l, size));
      few = omega (arith, h.few, one_more n vs x k l low high, length-append list (x ∷ []));
    }

-- it was above the number, and stays so
pub above_again : (n : ℕ) (vs list : List ℕ) (x k : ℕ) → AreAbove n vs list → x < length vs → n < get_or vs x 0 → n < k → AreAbove n (set vs x k) list
above_again n vs list x k h l was high =
    let size = length-set vs x k in
    record {
      all = λ y within a. ⊎_elim
          (λ e. subst (Contains list) (sym e) (h.all x l was))
          (λ ne. h.all y (omega (arith, within, size)) (subst (λ (v : ℕ). n < v) (get_or-set_other vs x y k 0 ne) a))
          (same_or_not y x);
      exist = subst (λ (m : ℕ). All (λ y. y < m) list) (sym size) h.exist;
      few = omega (arith, h.few, as_many n vs x k l was high);
    }

-- one change is listed and stored
pub listed_next : (base : Stored) (values : State) (versions : List ℕ) (s t : Since) (x k : ℕ) (v : ℤ) → AreListed base values versions s → x < length versions → length values ≡ length versions → base.number < k
    → AreAbove base.number (set versions x k) t.base.items → AreAbove 0 (set versions x k) t.chapter.items → vec_capacity s.base ≤ vec_capacity t.base → vec_capacity s.chapter ≤ vec_capacity t.chapter → AreListed base (set values x v) (set versions x k) t
listed_next base values versions s t x k v h l sizes later of_base of_chapter base_room chapter_room =
    let size = length-set versions x k in
    record {
      of_base = of_base;
      of_chapter = of_chapter;
      base_room = omega (arith, h.base_room, base_room, size);
      chapter_room = omega (arith, h.chapter_room, chapter_room, size);
      same_values = λ y within low.
          let other = apart y low in
          h.same_values y (omega (arith, within, size)) (subst (λ (n : ℕ). n ≤ base.number) (get_or-set_other versions x y k 0 other) low) ∙ sym (get_or-set_other values x y v (pos 0) other);
      same_versions = λ y within low.
          let other = apart y low in
          h.same_versions y (omega (arith, within, size)) (subst (λ (n : ℕ). n ≤ base.number) (get_or-set_other versions x y k 0 other) low) ∙ sym (get_or-set_other versions x y k 0 other);
    }
  where
    apart : (y : ℕ) → get_or (set versions x k) y 0 ≤ base.number → y ≢ x
    apart y low e = absurd (omega (arith, later, subst (λ (z : ℕ). get_or (set versions x k) z 0 ≤ base.number) e low, get_or-set_same versions x k 0 l))

-- two lists agree, but at what is named from the i-th name on
pub record AgreeBut {X : Type 0} (d : X) (names : List ℕ) (i : ℕ) (now wanted : List X) : Type 0 where
  pub size : length now ≡ length wanted
  pub each : (x : ℕ) → x < length wanted → (get_or now x d ≡ get_or wanted x d) ⊎ ((j : ℕ) × (i ≤ j) × (j < length names) × (get_or names j 0 ≡ x))

pub agree_next : {X : Type 0} (d : X) (names : List ℕ) (i : ℕ) (now wanted : List X) → AgreeBut d names i now wanted → get_or names i 0 < length wanted → AgreeBut d names (i + 1) (set now (get_or names i 0) (get_or wanted (get_or names i 0) d)) wanted
agree_next {X} d names i now wanted h known =
    let n = get_or names i 0 in
    let v = get_or wanted n d in
    record {
      size = length-set now n v ∙ h.size;
      each = λ x within. ⊎_elim
          (λ e. inl (subst (λ (y : ℕ). get_or (set now n v) y d ≡ get_or wanted y d) (sym e) (get_or-set_same now n v d (omega (arith, known, h.size)))))
          (λ ne. ⊎_elim
          (λ same. inl (get_or-set_other now n x v d ne ∙ same))
          (λ later. ⊎_elim (λ at. absurd (ne (sym later.3 ∙ ap (λ (j : ℕ). get_or names j 0) at))) (λ off. inr (later.0, omega (arith, later.1, λ (e : later.0 ≡ i). off e), later.2, later.3)) (same_or_not later.0 i))
          (h.each x within))
          (same_or_not x n);
    }

pub agree_all : {X : Type 0} (d : X) (names : List ℕ) (i : ℕ) (now wanted : List X) → AgreeBut d names i now wanted → length names ≤ i → now ≡ wanted
agree_all d names i now wanted h past =
    ext_get_or d now wanted h.size (λ x within. ⊎_elim (λ e. e) (λ later. absurd (omega (arith, later.1, later.2, past))) (h.each x (omega (arith, within, h.size))))

pub agree_first : {X : Type 0} (d : X) (names : List ℕ) (now wanted : List X) → length now ≡ length wanted → ((x : ℕ) → x < length wanted → (get_or now x d ≡ get_or wanted x d) ⊎ Contains names x) → AgreeBut d names 0 now wanted
agree_first d names now wanted size each =
    record {
      size = size;
      each = λ x within. ⊎_elim (λ e. inl e) (λ c. inr (c.0, omega arith, c.1, sym (get_or_default_zero names c.0 x c.1) ∙ c.2)) (each x within);
    }

-- what is not listed since the base stands there as it does now
pub base_values : (base : Stored) (values : State) (versions : List ℕ) (s : Since) → AreListed base values versions s → length base.values.items ≡ length values → length versions ≡ length values → AgreeBut (pos 0) s.base.items 0 base.values.items values
base_values base values versions s h size sizes =
    agree_first (pos 0) s.base.items base.values.items values size
    (λ x within. ⊎_elim (λ a. inr (h.of_base.all x (omega (arith, within, sizes)) a)) (λ low. inl (h.same_values x (omega (arith, within, sizes)) low)) (order base.number (get_or versions x 0)))

pub base_versions : (base : Stored) (values : State) (versions : List ℕ) (s : Since) → AreListed base values versions s → length base.versions.items ≡ length versions → AgreeBut 0 s.base.items 0 base.versions.items versions
base_versions base values versions s h size =
    agree_first 0 s.base.items base.versions.items versions size
    (λ x within. ⊎_elim (λ a. inr (h.of_base.all x within a)) (λ low. inl (h.same_versions x within low)) (order base.number (get_or versions x 0)))

-- what is not named is 0
pub zero_others : (names versions : List ℕ) → ((x : ℕ) → x < length versions → 0 < get_or versions x 0 → Contains names x) → AgreeBut 0 names 0 versions (replicate (length versions) 0)
zero_others names versions others =
    let zeros : List ℕ = replicate (length versions) 0 in
    let size : length zeros ≡ length versions = length-replicate {A = ℕ} (length versions) 0 in
    agree_first 0 names versions zeros (sym size)
    (λ x within. ⊎_elim
    (λ a. inr (others x (omega (arith, within, size)) a))
    (λ low. inl (let z : get_or versions x 0 ≡ 0 = omega (arith, low) in z ∙ sym (get_or-replicate (length versions) x 0 0 (omega (arith, within, size)))))
    (order 0 (get_or versions x 0)))
