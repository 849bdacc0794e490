-- What a reader knows stays true under each store, and each of its loads adds to it.
use Rattle.std.proofs.Common.{◌≡◌, ◌⊎◌, ℕ, ◌-◌, ◌*◌, ◌%◌, ◌<◌, ◌≤◌, List, [], ◌∷◌, ◌++◌, length, get_or, ℤ, sym, ap, ◌∙◌, subst, ⊎_elim, inl, inr, arith}
use Rattle.std.specs.Int.{w64, cast_signed}
use Rattle.txn_words.specs.Words.{Commit, state_value, state_of, last_state, version_word, value_word, StartsWith, WordsMean}
use Rattle.txn_words.specs.Loads.{PassRecord, begun, sampled, loaded, met, seen_value, LoadedIs, SamplingHolds, ReaderHolds}
use Rattle.txn_words.proofs.Words.{starts_whole, starts_on, seen_state, seen_shorter, fresh}
use Rattle.txn_words.proofs.Stores.{Grows}

sampling_stays : (a b a' b' rv : ℕ) (z : ℤ) → (a < a') ⊎ ((a ≡ a') × ((a % 2 ≡ 1) ⊎ (b ≡ b'))) → (ls : List ℕ) → SamplingHolds a b rv z ls → SamplingHolds a' b' rv z ls
sampling_stays a b a' b' rv z g [] h = tt
sampling_stays a b a' b' rv z (inl up) (l ∷ more) h = let p = h.0 in let q = h.1 in (omega arith, omega arith, λ _ _. inl (omega arith))
sampling_stays a b a' b' rv z (inr (same, inl odd)) (l ∷ more) h = let p = h.0 in let q = h.1 in (omega arith, omega arith, λ even _. inl (omega arith))
sampling_stays a b a' b' rv z (inr (same, inr is)) (l ∷ more) h =
    let p = h.0 in let q = h.1 in
    (omega arith, omega arith, λ even low. ⊎_elim (λ (t : l < a). inl (omega arith)) (λ (t : (cast_signed w64 b ≡ z) × LoadedIs z more). inr (subst (λ (k : ℕ). cast_signed w64 k ≡ z) is t.0, t.1)) (h.2 even low))

-- a store that lets the words grow keeps what each reader knows
pub reader_stays : (ws ws' : List ℕ) (h h' : List (List ℤ)) → StartsWith h' h → ((x : ℕ) → Grows ws ws' x) → (r : PassRecord) → ReaderHolds ws h r → ReaderHolds ws' h' r
reader_stays ws ws' h h' more g r k = record {
  seen = starts_on h' h r.seen more k.seen;
  began = k.began;
  sampling = sampling_stays _ _ _ _ r.rv _ (g r.variable) r.loads k.sampling;
}

-- no version word is below what was loaded of it
first_within : (a b rv : ℕ) (z : ℤ) (ls : List ℕ) → SamplingHolds a b rv z ls → 1 ≤ length ls → get_or ls 0 0 ≤ a
first_within a b rv z [] h n = absurd (omega arith)
first_within a b rv z (l ∷ more) h n = h.0

second_within : (a b rv : ℕ) (z : ℤ) (ls : List ℕ) → SamplingHolds a b rv z ls → 3 ≤ length ls → get_or ls 2 0 ≤ a
second_within a b rv z [] h n = absurd (omega arith)
second_within a b rv z (l ∷ more) h n = h.1

pub first_not_above : (ws : List ℕ) (h : List (List ℤ)) (r : PassRecord) → ReaderHolds ws h r → 1 ≤ length r.loads → get_or r.loads 0 0 ≤ get_or ws (version_word r.variable) 0
first_not_above ws h r k n = first_within _ _ r.rv _ r.loads k.sampling n

pub second_not_above : (ws : List ℕ) (h : List (List ℤ)) (r : PassRecord) → ReaderHolds ws h r → 3 ≤ length r.loads → get_or r.loads 2 0 ≤ get_or ws (version_word r.variable) 0
second_not_above ws h r k n = second_within _ _ r.rv _ r.loads k.sampling n

module _ (ws : List ℕ) (c : Commit) (w : WordsMean ws c) (r : PassRecord) (k : ReaderHolds ws c.history r) where
  -- the state of the last begin is in the history, and has a value for each variable
  pub at_state : (state_of c.history r.rv ≡ state_of r.seen r.rv) × (r.rv < length c.history) × (length (state_of r.seen r.rv) ≡ length c.values)
  at_state = let short = seen_shorter c.history r.seen k.seen in let low = k.began in let same = seen_state c.history r.seen r.rv k.seen k.began in
      (same, omega arith, ap (λ (m : List ℤ). length m) (sym same) ∙ w.states r.rv (omega arith))

  -- the clock load of a begin finds the number of the last state
  pub begin_right : ReaderHolds ws c.history (begun c.history (get_or ws 0 0) r)
  begin_right = let clock = w.clock in record { seen = starts_whole c.history; began = omega arith; sampling = tt }

  -- the last state has as many values as that of the begin before
  pub same_width : length (last_state c.history) ≡ length (state_of r.seen r.rv)
  same_width = let s = at_state in let l = s.1 in w.states (length c.history - 1) (omega arith) ∙ sym s.2

  pub sample_right : (x : ℕ) → x < length (state_of r.seen r.rv) → ReaderHolds ws c.history (sampled x (get_or ws (version_word x) 0) r)
  sample_right x inside = let s = at_state in record {
    seen = k.seen;
    began = k.began;
    sampling = (omega arith, omega arith, λ even early. inr (fresh ws c x r.rv w (omega (arith, s.2)) s.1 even early ∙ ap (λ (m : List ℤ). state_value m x) s.0, tt));
  }

  pub value_right : (x first : ℕ) → r.variable ≡ x → r.loads ≡ first ∷ [] → ReaderHolds ws c.history (loaded (get_or ws (value_word x) 0) r)
  value_right x first of_x one = let n : ℕ = get_or ws (value_word x) 0 in
      let version : ℕ = get_or ws (version_word r.variable) 0 in let value : ℕ = get_or ws (value_word r.variable) 0 in let z : ℤ = seen_value r r.variable in
      let here : n ≡ value = ap (λ (u : ℕ). get_or ws (value_word u) 0) (sym of_x) in
      let was : SamplingHolds version value r.rv z (first ∷ []) = subst (SamplingHolds version value r.rv z) one k.sampling in
      let now : SamplingHolds version value r.rv z (first ∷ n ∷ []) = (
        was.0,
        omega arith,
        λ even early. ⊎_elim (λ (t : first < version). inl t) (λ (t : (cast_signed w64 value ≡ z) × LoadedIs z []). inr (t.0, ap (cast_signed w64) here ∙ t.0)) (was.2 even early),
      ) in
      record { seen = k.seen; began = k.began; sampling = subst (λ (l : List ℕ). SamplingHolds version value r.rv z (l ++ n ∷ [])) (sym one) now }

  pub again_right : (x first got : ℕ) → r.variable ≡ x → r.loads ≡ first ∷ got ∷ [] → ReaderHolds ws c.history (loaded (get_or ws (version_word x) 0) r)
  again_right x first got of_x two = let n : ℕ = get_or ws (version_word x) 0 in
      let version : ℕ = get_or ws (version_word r.variable) 0 in let value : ℕ = get_or ws (value_word r.variable) 0 in let z : ℤ = seen_value r r.variable in
      let here : n ≡ version = ap (λ (u : ℕ). get_or ws (version_word u) 0) (sym of_x) in
      let was : SamplingHolds version value r.rv z (first ∷ got ∷ []) = subst (SamplingHolds version value r.rv z) two k.sampling in
      let now : SamplingHolds version value r.rv z (first ∷ got ∷ n ∷ []) = (was.0, omega arith, was.2) in
      record { seen = k.seen; began = k.began; sampling = subst (λ (l : List ℕ). SamplingHolds version value r.rv z (l ++ n ∷ [])) (sym two) now }

  -- two samplings that are the same, free and no later than rv: the value between them is that in the state rv
  pub again_tells : (x first got : ℕ) → r.variable ≡ x → r.loads ≡ first ∷ got ∷ [] → get_or ws (version_word x) 0 ≡ first → first % 2 ≡ 0 → first ≤ 2 * r.rv → cast_signed w64 got ≡ seen_value r r.variable
  again_tells x first got of_x two same even early =
      let version : ℕ = get_or ws (version_word r.variable) 0 in let value : ℕ = get_or ws (value_word r.variable) 0 in let z : ℤ = seen_value r r.variable in
      let here : get_or ws (version_word x) 0 ≡ version = ap (λ (u : ℕ). get_or ws (version_word u) 0) (sym of_x) in
      let was : SamplingHolds version value r.rv z (first ∷ got ∷ []) = subst (SamplingHolds version value r.rv z) two k.sampling in
      ⊎_elim (λ (t : first < version). absurd (omega arith)) (λ (t : (cast_signed w64 value ≡ z) × (cast_signed w64 got ≡ z)). t.1) (was.2 even early)

  -- a meeting tells the reader the whole history, and leaves its last read as it was
  pub meeting_right : ReaderHolds ws c.history (met c.history r)
  meeting_right = let s = at_state in let l = s.1 in record {
    seen = starts_whole c.history;
    began = omega arith;
    sampling = subst (λ (m : List ℤ). SamplingHolds (get_or ws (version_word r.variable) 0) (get_or ws (value_word r.variable) 0) r.rv (state_value m r.variable) r.loads) (sym s.0) k.sampling;
  }
