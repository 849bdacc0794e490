-- Each of the four stores keeps what the words mean, and lets the words of each variable only grow.
use Rattle.std.proofs.Common.{◌≡◌, ◌≢◌, ◌⊎◌, ℕ, ◌+◌, ◌-◌, ◌*◌, ◌%◌, ◌<◌, Bool, true, false, if◌then◌else◌, List, length, get_or, set, ℤ, pos, sym, refl, ap, ◌∙◌, subst, inl, inr, arith, length-set, get_or-set_other, get_or-set_same}
use mathlib.Core.Logic.{dite}
use native.Mathlib.Decide.{ℕ_discrete, dec_lt}
use Rattle.std.proofs.lemmas.Bool.{false≢true}
use Rattle.std.specs.Int.{w64, cast_signed}
use Rattle.txn_words.specs.Words.{Commit, state_value, state_of, version_word, value_word, IsLastChange, VariableMeans, WordsMean}
use Rattle.txn_words.specs.Stores.{after_lock, after_value, after_clock, after_release, MayLock, MayStore, MayRelease}
use Rattle.txn_words.proofs.Words.{longer, state_before, state_new, last_pushed, change_stays}

-- of the words of x from `ws` to `ws'`: the version word is greater, or it is the same, and odd or beside the same value word
abbrev pub Grows : List ℕ → List ℕ → ℕ → Type 0
Grows ws ws' x =
    (get_or ws (version_word x) 0 < get_or ws' (version_word x) 0)
    ⊎ ((get_or ws (version_word x) 0 ≡ get_or ws' (version_word x) 0)
    × ((get_or ws (version_word x) 0 % 2 ≡ 1) ⊎ (get_or ws (value_word x) 0 ≡ get_or ws' (value_word x) 0)))

-- what a store that makes the words ws' and the record c' keeps
abbrev pub Keeps : List ℕ → List ℕ → Commit → Type 0
Keeps ws ws' c' = WordsMean ws' c' × ((y : ℕ) → Grows ws ws' y)

abbrev Means : List ℕ → Commit → ℕ → Type 0
Means ws c y = VariableMeans (get_or ws (version_word y) 0) (get_or ws (value_word y) 0) (get_or c.versions y 0) (get_or c.locked y false) (state_value c.values y) c.history y

-- a variable of which nothing changed
unmoved : (stamp bits at stamp' bits' at' : ℕ) (locked locked' : Bool) (now now' : ℤ) (h : List (List ℤ)) (y : ℕ) → stamp ≡ stamp' → bits ≡ bits' → at ≡ at' → locked ≡ locked' → now ≡ now'
    → VariableMeans stamp bits at locked now h y → VariableMeans stamp' bits' at' locked' now' h y
unmoved stamp bits at stamp' bits' at' locked locked' now now' h y a b c d e k =
    subst (λ (t : ℕ × ℕ × ℕ × Bool × ℤ). VariableMeans t.0 t.1 t.2 t.3 t.4 h y) (λ i. (a i, b i, c i, d i, e i)) k

-- the words of the other variables, and the clock, at a store to a version word
others_version : (ws : List ℕ) (x b y : ℕ) → y ≢ x → (get_or (set ws (version_word x) b) (version_word y) 0 ≡ get_or ws (version_word y) 0) × (get_or (set ws (version_word x) b) (value_word y) 0 ≡ get_or ws (value_word y) 0)
others_version ws x b y n = (get_or-set_other ws (version_word x) (version_word y) b 0 (λ e. n (omega arith)), get_or-set_other ws (version_word x) (value_word y) b 0 (λ e. omega arith))

-- and at a store to a value word
others_value : (ws : List ℕ) (x b y : ℕ) → y ≢ x → (get_or (set ws (value_word x) b) (version_word y) 0 ≡ get_or ws (version_word y) 0) × (get_or (set ws (value_word x) b) (value_word y) 0 ≡ get_or ws (value_word y) 0)
others_value ws x b y n = (get_or-set_other ws (value_word x) (version_word y) b 0 (λ e. omega arith), get_or-set_other ws (value_word x) (value_word y) b 0 (λ e. n (omega arith)))

-- what the version word is, from its lock bit
stamped : (stamp at : ℕ) (locked bit : Bool) → stamp ≡ 2 * at + (if locked then 1 else 0) → locked ≡ bit → stamp ≡ 2 * at + (if bit then 1 else 0)
stamped stamp at locked bit e is = e ∙ ap (λ (t : Bool). 2 * at + (if t then 1 else 0)) is

pub lock_keeps : (ws : List ℕ) (c : Commit) (x b : ℕ) → MayLock c x → b ≡ 2 * get_or c.versions x 0 + 1 → WordsMean ws c → Keeps ws (set ws (version_word x) b) (after_lock x c)
lock_keeps ws c x b may is h = let wide = h.wide in let inside = may.within in let here = h.each x inside in
    let same : get_or (set ws (version_word x) b) (version_word x) 0 ≡ b = get_or-set_same ws (version_word x) b 0 (omega arith) in
    let lock : get_or (set c.locked x true) x false ≡ true = get_or-set_same c.locked x true false (omega (arith, h.sized.1)) in (
      record {
        wide = length-set ws (version_word x) b ∙ h.wide;
        sized = (h.sized.0, length-set c.locked x true ∙ h.sized.1);
        clock = ap (λ (n : ℕ). n + 1) (get_or-set_other ws (version_word x) 0 b 0 (λ e. omega arith)) ∙ h.clock;
        states = h.states;
        in_order = may.before_values;
        settled = h.settled;
        each = λ y l. dite (ℕ_discrete y x)
            (λ e. subst (λ (z : ℕ). Means (set ws (version_word x) b) (after_lock x c) z) (sym e) record {
              version = same ∙ (is ∙ ap (λ (t : Bool). 2 * get_or c.versions x 0 + (if t then 1 else 0)) (sym lock));
              value = ap (cast_signed w64) (get_or-set_other ws (version_word x) (value_word x) b 0 (λ e. omega arith)) ∙ here.value;
              free = λ f. absurd (false≢true (sym f ∙ lock));
            })
            (λ n. let o = others_version ws x b y n in unmoved _ _ _ _ _ _ _ _ _ _ c.history y (sym o.0) (sym o.1) refl (sym (get_or-set_other c.locked x y true false n)) refl (h.each y l));
      },
      λ y. dite (ℕ_discrete y x)
          (λ e. subst (λ (z : ℕ). Grows ws (set ws (version_word x) b) z) (sym e) (inl (let was : get_or ws (version_word x) 0 ≡ 2 * get_or c.versions x 0 + 0 = stamped _ _ _ false here.version may.free in omega arith)))
          (λ n. let o = others_version ws x b y n in inr (sym o.0, inr (sym o.1))),
    )

pub value_keeps : (ws : List ℕ) (c : Commit) (x b : ℕ) → MayStore c x → WordsMean ws c → Keeps ws (set ws (value_word x) b) (after_value x (cast_signed w64 b) c)
value_keeps ws c x b may h = let wide = h.wide in let inside = may.within in let here = h.each x inside in
    let same : get_or (set ws (value_word x) b) (value_word x) 0 ≡ b = get_or-set_same ws (value_word x) b 0 (omega arith) in
    let now : get_or (set c.values x (cast_signed w64 b)) x (pos 0) ≡ cast_signed w64 b = get_or-set_same c.values x (cast_signed w64 b) (pos 0) inside in
    let version_same : get_or (set ws (value_word x) b) (version_word x) 0 ≡ get_or ws (version_word x) 0 = get_or-set_other ws (value_word x) (version_word x) b 0 (λ e. omega arith) in
    let n : length (set c.values x (cast_signed w64 b)) ≡ length c.values = length-set c.values x (cast_signed w64 b) in (
      record {
        wide = length-set ws (value_word x) b ∙ (h.wide ∙ ap (λ (k : ℕ). 2 * k + 1) (sym n));
        sized = (h.sized.0 ∙ sym n, h.sized.1 ∙ sym n);
        clock = ap (λ (n : ℕ). n + 1) (get_or-set_other ws (value_word x) 0 b 0 (λ e. omega arith)) ∙ h.clock;
        states = λ k l. h.states k l ∙ sym n;
        in_order = h.in_order;
        settled = λ e. absurd (false≢true (sym e));
        each = λ y l. dite (ℕ_discrete y x)
            (λ e. subst (λ (z : ℕ). Means (set ws (value_word x) b) (after_value x (cast_signed w64 b) c) z) (sym e) record {
              version = version_same ∙ here.version;
              value = ap (cast_signed w64) same ∙ sym now;
              free = λ f. absurd (false≢true (sym f ∙ may.locked));
            })
            (λ other. let o = others_value ws x b y other in unmoved _ _ _ _ _ _ _ _ _ _ c.history y (sym o.0) (sym o.1) refl refl (sym (get_or-set_other c.values x y (cast_signed w64 b) (pos 0) other)) (h.each y (omega arith)));
      },
      λ y. dite (ℕ_discrete y x)
          (λ e. subst (λ (z : ℕ). Grows ws (set ws (value_word x) b) z) (sym e) (inr (sym version_same, inl (let was : get_or ws (version_word x) 0 ≡ 2 * get_or c.versions x 0 + 1 = stamped _ _ _ true here.version may.locked in omega arith))))
          (λ other. let o = others_value ws x b y other in inr (sym o.0, inr (sym o.1))),
    )

pub clock_keeps : (ws : List ℕ) (c : Commit) (b : ℕ) → b ≡ length c.history → WordsMean ws c → Keeps ws (set ws 0 b) (after_clock c)
clock_keeps ws c b is h = let wide = h.wide in let more = longer c.history c.values in
    let version_same : (y : ℕ) → get_or (set ws 0 b) (version_word y) 0 ≡ get_or ws (version_word y) 0 = λ y. get_or-set_other ws 0 (version_word y) b 0 (λ e. omega arith) in
    let value_same : (y : ℕ) → get_or (set ws 0 b) (value_word y) 0 ≡ get_or ws (value_word y) 0 = λ y. get_or-set_other ws 0 (value_word y) b 0 (λ e. omega arith) in
    let clock : get_or (set ws 0 b) 0 0 ≡ b = get_or-set_same ws 0 b 0 (omega arith) in (
      record {
        wide = length-set ws 0 b ∙ h.wide;
        sized = h.sized;
        clock = omega arith;
        states = λ k l. dite (dec_lt k (length c.history)) (λ before. ap (λ (m : List ℤ). length m) (state_before c.history c.values k before) ∙ h.states k before)
            (λ not. ap (λ (m : List ℤ). length m) (state_new c.history c.values k (omega arith)));
        in_order = h.in_order;
        settled = λ _. sym (last_pushed c.history c.values);
        each = λ y l. let here = h.each y l in record {
          version = version_same y ∙ here.version;
          value = ap (cast_signed w64) (value_same y) ∙ here.value;
          free = λ f. let t = here.free f in (change_stays c.history c.values y _ t.0 t.1, ap (λ s. state_value s y) (sym (last_pushed c.history c.values)));
        };
      },
      λ y. inr (sym (version_same y), inr (sym (value_same y))),
    )

pub release_keeps : (ws : List ℕ) (c : Commit) (x b : ℕ) → MayRelease c x → b ≡ 2 * (length c.history - 1) → WordsMean ws c → Keeps ws (set ws (version_word x) b) (after_release x c)
release_keeps ws c x b may is h = let wide = h.wide in let inside = may.within in let here = h.each x inside in let old = may.older in let last : ℕ = length c.history - 1 in
    let same : get_or (set ws (version_word x) b) (version_word x) 0 ≡ b = get_or-set_same ws (version_word x) b 0 (omega arith) in
    let unlock : get_or (set c.locked x false) x false ≡ false = get_or-set_same c.locked x false false (omega (arith, h.sized.1)) in
    let number : get_or (set c.versions x last) x 0 ≡ last = get_or-set_same c.versions x last 0 (omega (arith, h.sized.0)) in
    let plain : b ≡ 2 * last + 0 = omega arith in (
      record {
        wide = length-set ws (version_word x) b ∙ h.wide;
        sized = (length-set c.versions x last ∙ h.sized.0, length-set c.locked x false ∙ h.sized.1);
        clock = ap (λ (n : ℕ). n + 1) (get_or-set_other ws (version_word x) 0 b 0 (λ e. omega arith)) ∙ h.clock;
        states = h.states;
        in_order = h.in_order;
        settled = h.settled;
        each = λ y l. dite (ℕ_discrete y x)
            (λ e. subst (λ (z : ℕ). Means (set ws (version_word x) b) (after_release x c) z) (sym e) record {
              version = same ∙ (plain ∙ λ i. 2 * sym number i + (if sym unlock i then 1 else 0));
              value = ap (cast_signed w64) (get_or-set_other ws (version_word x) (value_word x) b 0 (λ e. omega arith)) ∙ here.value;
              free = λ f. (
                subst (IsLastChange c.history x) (sym number) record {
                  within = omega arith;
                  since = λ n low high. ap (λ (k : ℕ). state_value (state_of c.history k) x) (omega arith);
                  changed = λ _. may.changed;
                },
                ap (λ s. state_value s x) (h.settled may.after_clock),
              );
            })
            (λ n. let o = others_version ws x b y n in
            unmoved _ _ _ _ _ _ _ _ _ _ c.history y (sym o.0) (sym o.1) (sym (get_or-set_other c.versions x y last 0 n)) (sym (get_or-set_other c.locked x y false false n)) refl (h.each y l));
      },
      λ y. dite (ℕ_discrete y x)
          (λ e. subst (λ (z : ℕ). Grows ws (set ws (version_word x) b) z) (sym e) (inl (let was : get_or ws (version_word x) 0 ≡ 2 * get_or c.versions x 0 + 1 = stamped _ _ _ true here.version may.locked in omega arith)))
          (λ n. let o = others_version ws x b y n in inr (sym o.0, inr (sym o.1))),
    )
