-- What follows from what the words mean.
use Rattle.std.proofs.Common.{◌≡◌, ℕ, zero, suc, ◌+◌, ◌-◌, ◌*◌, ◌%◌, ◌<◌, ◌≤◌, Bool, true, false, if◌then◌else◌, List, [], ◌∷◌, ◌++◌, map, length, get_or, ℤ, sym, refl, ap, ◌∙◌, subst, arith, length-append, append_assoc, append-nil}
use mathlib.Core.Logic.{dite}
use native.Mathlib.Decide.{dec_lt}
use lib.ListN.{length-map, get_or-append}
use Rattle.std.specs.Int.{w64, cast_signed}
use Rattle.txn_words.specs.Words.{Commit, state_value, state_of, last_state, version_word, value_word, IsLastChange, StartsWith, WordsMean}
use Rattle.txn_words.specs.Stores.{opened}

pub starts_whole : (h : List (List ℤ)) → StartsWith h h
starts_whole h = ([], sym (append-nil h))

pub starts_on : (h' h s : List (List ℤ)) → StartsWith h' h → StartsWith h s → StartsWith h' s
starts_on h' h s a b = (b.0 ++ a.0, a.1 ∙ (ap (λ l. l ++ a.0) b.1 ∙ append_assoc s b.0 a.0))

-- a state that was seen is the one that the history has
pub seen_state : (h s : List (List ℤ)) (n : ℕ) → StartsWith h s → n < length s → state_of h n ≡ state_of s n
seen_state h s n t l = ap (λ (z : List (List ℤ)). state_of z n) t.1 ∙ get_or-append s t.0 [] n l

pub seen_shorter : (h s : List (List ℤ)) → StartsWith h s → length s ≤ length h
seen_shorter h s t = let e = ap (λ (z : List (List ℤ)). length z) t.1 in omega (arith, length-append s t.0)

pub longer : (h : List (List ℤ)) (m : List ℤ) → length (h ++ m ∷ []) ≡ length h + 1
longer h m = length-append h (m ∷ [])

pub state_before : (h : List (List ℤ)) (m : List ℤ) (n : ℕ) → n < length h → state_of (h ++ m ∷ []) n ≡ state_of h n
state_before h m n l = get_or-append h (m ∷ []) [] n l

pub state_new : (h : List (List ℤ)) (m : List ℤ) (n : ℕ) → n ≡ length h → state_of (h ++ m ∷ []) n ≡ m
state_new [] m zero e = refl
state_new [] m (suc n) e = absurd (omega arith)
state_new (k ∷ ks) m zero e = absurd (omega arith)
state_new (k ∷ ks) m (suc n) e = state_new ks m n (omega arith)

pub last_pushed : (h : List (List ℤ)) (m : List ℤ) → last_state (h ++ m ∷ []) ≡ m
last_pushed h m = state_new h m (length (h ++ m ∷ []) - 1) (let k = longer h m in omega arith)

-- a state in which x is as before leaves the last change of x where it was
pub change_stays : (h : List (List ℤ)) (m : List ℤ) (x v : ℕ) → IsLastChange h x v → state_value m x ≡ state_value (last_state h) x → IsLastChange (h ++ m ∷ []) x v
change_stays h m x v k same = let inside = k.within in let more = longer h m in let at_v = state_before h m v inside in record {
  within = omega arith;
  since = λ n low high. dite (dec_lt n (length h))
      (λ l. ap (λ s. state_value s x) (state_before h m n l) ∙ (k.since n low l ∙ ap (λ s. state_value s x) (sym at_v)))
      (λ not. ap (λ s. state_value s x) (state_new h m n (omega arith)) ∙ (same ∙ (k.since (length h - 1) (omega arith) (omega arith) ∙ ap (λ s. state_value s x) (sym at_v))));
  changed = λ up e. k.changed up (ap (λ s. state_value s x) (sym at_v) ∙ (e ∙ ap (λ s. state_value s x) (state_before h m (v - 1) (omega arith))));
}

-- no change is the last one before another
not_before : (h : List (List ℤ)) (x v w : ℕ) → IsLastChange h x v → IsLastChange h x w → v < w → ⊥
not_before h x v w a b l = let inside = b.within in b.changed (omega arith) (a.since w (omega arith) inside ∙ sym (a.since (w - 1) (omega arith) (omega arith)))

pub one_last_change : (h : List (List ℤ)) (x v w : ℕ) → IsLastChange h x v → IsLastChange h x w → v ≡ w
one_last_change h x v w a b = dite (dec_lt v w) (λ l. absurd (not_before h x v w a b l))
    (λ m. dite (dec_lt w v) (λ l. absurd (not_before h x w v b a l)) (λ n. omega arith))

unlocked : (stamp at : ℕ) (b : Bool) → stamp ≡ 2 * at + (if b then 1 else 0) → stamp % 2 ≡ 0 → b ≡ false
unlocked stamp at true e even = absurd (let e' : stamp ≡ 2 * at + 1 = e in omega arith)
unlocked stamp at false e even = refl

-- Why a read is right: where the version word of x is even and no later than the state rv, the value word is x in that state.
pub fresh : (words : List ℕ) (c : Commit) (x rv : ℕ) → WordsMean words c → x < length c.values → rv < length c.history
    → get_or words (version_word x) 0 % 2 ≡ 0 → get_or words (version_word x) 0 ≤ 2 * rv → cast_signed w64 (get_or words (value_word x) 0) ≡ state_value (state_of c.history rv) x
fresh words c x rv w inside low even early = let h = w.each x inside in
    let free : get_or c.locked x false ≡ false = unlocked (get_or words (version_word x) 0) (get_or c.versions x 0) (get_or c.locked x false) h.version even in
    let t = h.free free in let k = t.0 in let ok = k.within in let at : ℕ = get_or c.versions x 0 in
    let stamp : get_or words (version_word x) 0 ≡ 2 * at + 0 = h.version ∙ ap (λ (b : Bool). 2 * at + (if b then 1 else 0)) free in
    h.value ∙ (t.1 ∙ (k.since (length c.history - 1) (omega arith) (omega arith) ∙ sym (k.since rv (omega arith) low)))

constant : {A : Type 0} (l : List ℤ) (a : A) (x : ℕ) → get_or (map (λ _. a) l) x a ≡ a
constant [] a x = refl
constant (z ∷ zs) a zero = refl
constant (z ∷ zs) a (suc x) = constant zs a x

one_state : (P : List ℤ → Type 0) (m : List ℤ) → P m → (n : ℕ) → n < length (m ∷ []) → P (state_of (m ∷ []) n)
one_state P m h zero l = h
one_state P m h (suc n) l = absurd (omega arith)

unchanged : (m : List ℤ) (x : ℕ) → IsLastChange (m ∷ []) x 0
unchanged m x = record {
  within = omega arith;
  since = λ n _ l. one_state (λ s. state_value s x ≡ state_value m x) m refl n l;
  changed = λ l. absurd (omega arith);
}

pub all_free : (m : List ℤ) (x : ℕ) → get_or (opened m).locked x false ≡ false
all_free m x = constant m false x

pub all_zero : (m : List ℤ) (x : ℕ) → get_or (opened m).versions x 0 ≡ 0
all_zero m x = constant {A = ℕ} m 0 x

pub opened_sized : (m : List ℤ) → (length (opened m).versions ≡ length m) × (length (opened m).locked ≡ length m)
opened_sized m = (length-map m (λ _. 0), length-map m (λ _. false))

-- the first words: the clock and the versions are 0, and the values are those of the state m
pub opens : (m : List ℤ) (words : List ℕ) → length words ≡ 2 * length m + 1 → get_or words 0 0 ≡ 0
    → ((x : ℕ) → x < length m → (get_or words (version_word x) 0 ≡ 0) × (cast_signed w64 (get_or words (value_word x) 0) ≡ state_value m x)) → WordsMean words (opened m)
opens m words wide clock each = record {
  wide = wide;
  sized = opened_sized m;
  clock = ap (λ (n : ℕ). n + 1) clock;
  states = one_state (λ s. length s ≡ length m) m refl;
  in_order = refl;
  settled = λ _. refl;
  each = λ x l. let h = each x l in let v = all_zero m x in let b = all_free m x in
      record {
        version = h.0 ∙ λ i. 2 * sym v i + (if sym b i then 1 else 0);
        value = h.1;
        free = λ _. (subst (IsLastChange (m ∷ []) x) (sym v) (unchanged m x), refl);
      };
}
