-- The rows of arguments, and the calls that they make with the transactions.
use Rattle.std.proofs.Common.{◌≡◌, ◌≢◌, inl, inr, ℕ, zero, suc, ◌+◌, ◌*◌, ◌<◌, ◌≤◌, ℤ, pos, List, [], ◌∷◌, ◌++◌, length, map, Some, get_or, set, take, drop, refl, sym, ◌∙◌, ap, arith}
use Rattle.std.specs.List.{slice_get}
use Rattle.std.proofs.lemmas.Bool.{cases_lt}
use Rattle.std.proofs.lemmas.Nat.{row_fits}
use Rattle.std.proofs.lemmas.List.{get_or-set_other, drop_more}
use Rattle.std.proofs.lemmas.Option.{same_Some, slice_get-get_or}
use Rattle.txn_programs.specs.declared.ast.TxId.{TxId}
use Rattle.txn_programs.specs.declared.arguments.Call.{Call}
use Rattle.txn_programs.specs.declared.limits.TheConstants.{MAX_PARAMETERS, MAX_TASKS}
use Rattle.book.specs.Calls.{CallsView}
use Rattle.book.specs.declared.calls.Calls.TheInside.{Inside}
use Rattle.book.specs.CallsInside.{given, calls_from, calls_view, IsKept}
use Rattle.book.proofs.Lists.{map_get}

abbrev pub call_of : TxId → List ℤ → Call
call_of tx xs = record { tx = tx; arguments = xs }

-- numbers that are the same, wherever they stand
pub same_numbers : (m a b : ℕ) (now was : List ℤ) → b + m ≤ length now → a + m ≤ length was → ((j : ℕ) → j < m → get_or now (b + j) (pos 0) ≡ get_or was (a + j) (pos 0)) → take m (drop b now) ≡ take m (drop a was)
same_numbers zero a b now was high low h = refl
same_numbers (suc m) a b now was high low h =
    let from : a + 0 ≡ a = omega arith in
    let to : b ≡ b + 0 = omega arith in
    let first : get_or now b (pos 0) ≡ get_or was a (pos 0) = ap (λ (k : ℕ). get_or now k (pos 0)) to ∙ (h 0 (omega arith) ∙ ap (λ (k : ℕ). get_or was k (pos 0)) from) in
    let rest : take m (drop (b + 1) now) ≡ take m (drop (a + 1) was) =
    same_numbers m (a + 1) (b + 1) now was (omega (arith, high)) (omega (arith, low)) (λ j less.
    let from_next : a + suc j ≡ (a + 1) + j = omega arith in
    let to_next : (b + 1) + j ≡ b + suc j = omega arith in
    ap (λ (k : ℕ). get_or now k (pos 0)) to_next ∙ (h (suc j) (omega (arith, less)) ∙ ap (λ (k : ℕ). get_or was k (pos 0)) from_next)) in
    ap (take (suc m)) (drop_more now b (pos 0) (omega (arith, high)))
    ∙ (ap (λ (x : ℤ). x ∷ take m (drop (b + 1) now)) first
    ∙ (ap (λ (xs : List ℤ). get_or was a (pos 0) ∷ xs) rest ∙ sym (ap (take (suc m)) (drop_more was a (pos 0) (omega (arith, low))))))

module _ (w : ℕ) (cs : List ℕ) (rows : List ℤ) where
  pub length-from : (k : ℕ) (txs : List TxId) → length (calls_from w cs rows k txs) ≡ length txs
  length-from k [] = refl
  length-from k (tx ∷ txs) = ap suc (length-from (k + 1) txs)

  pub txs_from : (k : ℕ) (txs : List TxId) → map (λ (c : Call). c.tx) (calls_from w cs rows k txs) ≡ txs
  txs_from k [] = refl
  txs_from k (tx ∷ txs) = ap (λ (more : List TxId). tx ∷ more) (txs_from (k + 1) txs)

  -- a task's call
  pub get_from : (k t : ℕ) (txs : List TxId) (tx : TxId) → slice_get txs t ≡ Some tx → slice_get (calls_from w cs rows k txs) t ≡ Some (call_of tx (given w cs rows (k + t)))
  get_from k t [] tx e = absurd (cc)
  get_from k zero (x ∷ txs) tx e =
      let here : k ≡ k + 0 = omega arith in
      ap (λ (y : TxId). Some (call_of y (given w cs rows k))) (same_Some _ _ e) ∙ ap (λ (n : ℕ). Some (call_of tx (given w cs rows n))) here
  get_from k (suc t) (x ∷ txs) tx e =
      let next : (k + 1) + t ≡ k + suc t = omega arith in
      get_from (k + 1) t txs tx e ∙ ap (λ (n : ℕ). Some (call_of tx (given w cs rows n))) next

  -- one more at the end
  pub more_from : (k : ℕ) (txs : List TxId) (tx : TxId) → calls_from w cs rows k (txs ++ tx ∷ []) ≡ calls_from w cs rows k txs ++ call_of tx (given w cs rows (k + length txs)) ∷ []
  more_from k [] tx = let here : k ≡ k + 0 = omega arith in ap (λ (n : ℕ). call_of tx (given w cs rows n) ∷ []) here
  more_from k (x ∷ txs) tx =
      let next : (k + 1) + length txs ≡ k + suc (length txs) = omega arith in
      ap (λ (more : List Call). call_of x (given w cs rows k) ∷ more) (more_from (k + 1) txs tx ∙ ap (λ (n : ℕ). calls_from w cs rows (k + 1) txs ++ call_of tx (given w cs rows n) ∷ []) next)

  pub take_from : (k n : ℕ) (txs : List TxId) → calls_from w cs rows k (take n txs) ≡ take n (calls_from w cs rows k txs)
  take_from k zero txs = refl
  take_from k (suc n) [] = refl
  take_from k (suc n) (tx ∷ txs) = ap (λ (more : List Call). call_of tx (given w cs rows k) ∷ more) (take_from (k + 1) n txs)

-- rows that are the same make the same calls
pub same_from : (w k : ℕ) (cs ds : List ℕ) (now was : List ℤ) (txs : List TxId) → ((t : ℕ) → k ≤ t → t < k + length txs → given w cs now t ≡ given w ds was t) → calls_from w cs now k txs ≡ calls_from w ds was k txs
same_from w k cs ds now was [] h = refl
same_from w k cs ds now was (tx ∷ txs) h =
    ap (λ (xs : List ℤ). call_of tx xs ∷ calls_from w cs now (k + 1) txs) (h k (omega arith) (omega arith))
    ∙ ap (λ (more : List Call). call_of tx (given w ds was k) ∷ more) (same_from w (k + 1) cs ds now was txs (λ t low high. h t (omega (arith, low)) (omega (arith, high))))

-- one of the calls is another
pub set_from : (w k t : ℕ) (cs ds : List ℕ) (now was : List ℤ) (txs : List TxId) (tx : TxId) (xs : List ℤ) → given w cs now (k + t) ≡ xs → ((u : ℕ) → k ≤ u → u < k + length txs → u ≢ k + t → given w cs now u ≡ given w ds was u) → calls_from w cs now k (set txs t tx) ≡ set (calls_from w ds was k txs) t (call_of tx xs)
set_from w k t cs ds now was [] tx xs here h = refl
set_from w k zero cs ds now was (x ∷ txs) tx xs here h =
    let at : k ≡ k + 0 = omega arith in
    ap (λ (ys : List ℤ). call_of tx ys ∷ calls_from w cs now (k + 1) txs) (ap (given w cs now) at ∙ here)
    ∙ ap (λ (more : List Call). call_of tx xs ∷ more) (same_from w (k + 1) cs ds now was txs (λ u low high. h u (omega (arith, low)) (omega (arith, high)) (λ e. absurd (omega (arith, low, e)))))
set_from w k (suc t) cs ds now was (x ∷ txs) tx xs here h =
    let at : (k + 1) + t ≡ k + suc t = omega arith in
    ap (λ (ys : List ℤ). call_of x ys ∷ calls_from w cs now (k + 1) (set txs t tx)) (h k (omega arith) (omega arith) (λ e. absurd (omega (arith, e))))
    ∙ ap (λ (more : List Call). call_of x (given w ds was k) ∷ more)
    (set_from w (k + 1) t cs ds now was txs tx xs (ap (given w cs now) at ∙ here) (λ u low high other. h u (omega (arith, low)) (omega (arith, high)) (λ e. other (e ∙ sym at))))

-- what is kept of the rows where one of them is another
pub record OtherRows (w t n : ℕ) (cs ds : List ℕ) (now was : List ℤ) : Type 0 where
  pub counts : cs ≡ set ds t n
  pub size : length now ≡ length was
  pub before : (k : ℕ) → k < t * w → get_or now k (pos 0) ≡ get_or was k (pos 0)
  pub after : (k : ℕ) → t * w + w ≤ k → get_or now k (pos 0) ≡ get_or was k (pos 0)

pub other_given : (w t n u room : ℕ) (cs ds : List ℕ) (now was : List ℤ) → OtherRows w t n cs ds now was → length was ≡ room * w → u < room → u ≢ t → get_or ds u 0 ≤ w → given w cs now u ≡ given w ds was u
other_given w t n u room cs ds now was h whole less other few =
    let count : get_or cs u 0 ≡ get_or ds u 0 = ap (λ (xs : List ℕ). get_or xs u 0) h.counts ∙ get_or-set_other ds t u n 0 other in
    let m = get_or ds u 0 in
    let within : u * w + m ≤ length was = omega (arith, whole, few, row_fits u w room w less (omega arith)) in
    ap (λ (k : ℕ). take k (drop (u * w) now)) count
    ∙ same_numbers m (u * w) (u * w) now was (omega (arith, within, h.size)) within (λ j low.
    elim (cases_lt u t) [
      | inl below ↦ h.before (u * w + j) (omega (arith, low, few, row_fits u w t w below (omega arith)))
      | inr above ↦ h.after (u * w + j) (omega (arith, row_fits t w u w (omega (arith, above, other)) (omega arith)))
    ])

-- no row has more than its width
pub counts_fit : (w t n : ℕ) (ds : List ℕ) → n ≤ w → ((k : ℕ) → get_or ds k 0 ≤ w) → (k : ℕ) → get_or (set ds t n) k 0 ≤ w
counts_fit w t n [] few h k = h k
counts_fit w zero n (d ∷ ds) few h zero = few
counts_fit w zero n (d ∷ ds) few h (suc k) = h (suc k)
counts_fit w (suc t) n (d ∷ ds) few h zero = h zero
counts_fit w (suc t) n (d ∷ ds) few h (suc k) = counts_fit w t n ds few (λ j. h (suc j)) k

-- where there are no rows no call has an argument
pub given_none : (w : ℕ) (cs : List ℕ) (rows : List ℤ) (k : ℕ) → w ≡ 0 → get_or cs k 0 ≤ w → given w cs rows k ≡ []
given_none w cs rows k narrow few =
    let none : get_or cs k 0 ≡ 0 = omega (arith, narrow, few) in
    ap (λ (n : ℕ). take n (drop (k * w) rows)) none

-- what the fields say
pub length_in : (s : Inside) (v : CallsView) → calls_view s ≡ v → length v.calls ≡ length s.transactions.items
length_in s v view = sym (ap (λ (x : CallsView). length x.calls) view) ∙ length-from s.width s.counts.items s.rows.items 0 s.transactions.items

pub call_in : (s : Inside) (v : CallsView) (k : ℕ) (tx : TxId) → calls_view s ≡ v → slice_get s.transactions.items k ≡ Some tx → slice_get v.calls k ≡ Some (call_of tx (given s.width s.counts.items s.rows.items k))
call_in s v k tx view at =
    let place : 0 + k ≡ k = omega arith in
    ap (λ (x : CallsView). slice_get x.calls k) (sym view)
    ∙ (get_from s.width s.counts.items s.rows.items 0 k s.transactions.items tx at
    ∙ ap (λ (n : ℕ). Some (call_of tx (given s.width s.counts.items s.rows.items n))) place)

pub tx_in : (s : Inside) (v : CallsView) (k : ℕ) (tx : TxId) → calls_view s ≡ v → slice_get s.transactions.items k ≡ Some tx → slice_get (map (λ (c : Call). c.tx) v.calls) k ≡ Some tx
tx_in s v k tx view at = map_get (λ (c : Call). c.tx) v.calls k (call_of tx (given s.width s.counts.items s.rows.items k)) (call_in s v k tx view at)

pub given_in : (s : Inside) (v : CallsView) (k : ℕ) → calls_view s ≡ v → k < length v.calls → slice_get (map (λ (c : Call). c.arguments) v.calls) k ≡ Some (given s.width s.counts.items s.rows.items k)
given_in s v k view less =
    let txs = s.transactions.items in
    let tx : TxId = get_or txs k (record { 0 = 0 }) in
    map_get (λ (c : Call). c.arguments) v.calls k (call_of tx (given s.width s.counts.items s.rows.items k))
    (call_in s v k tx view (slice_get-get_or txs k (record { 0 = 0 }) (omega (arith, less, length_in s v view))))

-- a row stands within the numbers
pub row_within : (s : Inside) → IsKept s → (k : ℕ) → s.width ≢ 0 → k < s.room → k * s.width + s.width ≤ length s.rows.items
row_within s h k wide less = omega (arith, h.whole wide, row_fits k s.width s.room s.width less (omega arith))

-- .. and its place is small
pub row_small : (s : Inside) → IsKept s → (k : ℕ) → k < s.room → k * s.width + s.width ≤ MAX_TASKS * MAX_PARAMETERS
row_small s h k less = row_fits k s.width MAX_TASKS MAX_PARAMETERS (omega (arith, less, h.few)) h.narrow

-- a call more
pub added_in : (s : Inside) (v : CallsView) (tx : TxId) (xs : List ℤ) (cs : List ℕ) (now : List ℤ) → calls_view s ≡ v → given s.width cs now (length s.transactions.items) ≡ xs → ((u : ℕ) → u < length s.transactions.items → given s.width cs now u ≡ given s.width s.counts.items s.rows.items u)
    → calls_from s.width cs now 0 (s.transactions.items ++ tx ∷ []) ≡ v.calls ++ call_of tx xs ∷ []
added_in s v tx xs cs now view own others =
    let w = s.width in
    let txs = s.transactions.items in
    let place : 0 + length txs ≡ length txs = omega arith in
    more_from w cs now 0 txs tx
    ∙ (ap (λ (n : ℕ). calls_from w cs now 0 txs ++ call_of tx (given w cs now n) ∷ []) place
    ∙ (ap (λ (ys : List ℤ). calls_from w cs now 0 txs ++ call_of tx ys ∷ []) own
    ∙ (ap (λ (calls : List Call). calls ++ call_of tx xs ∷ []) (same_from w 0 cs s.counts.items now s.rows.items txs (λ t low high. others t (omega (arith, high))))
    ∙ ap (λ (x : CallsView). x.calls ++ call_of tx xs ∷ []) view)))

-- one of the calls is another of them
pub copied_in : (s : Inside) (v : CallsView) (from to : ℕ) (tx : TxId) (call : Call) (cs : List ℕ) (now : List ℤ) → calls_view s ≡ v → slice_get s.transactions.items from ≡ Some tx → slice_get v.calls from ≡ Some call → given s.width cs now to ≡ given s.width s.counts.items s.rows.items from
    → ((u : ℕ) → u < length s.transactions.items → u ≢ to → given s.width cs now u ≡ given s.width s.counts.items s.rows.items u) → calls_from s.width cs now 0 (set s.transactions.items to tx) ≡ set v.calls to call
copied_in s v from to tx call cs now view here read own others =
    let w = s.width in
    let txs = s.transactions.items in
    let place : 0 + to ≡ to = omega arith in
    let same : call_of tx (given w s.counts.items s.rows.items from) ≡ call = same_Some _ _ (sym (call_in s v from tx view here) ∙ read) in
    set_from w 0 to cs s.counts.items now s.rows.items txs tx (given w s.counts.items s.rows.items from) (ap (given w cs now) place ∙ own) (λ u low high other. others u (omega (arith, high)) (λ e. other (e ∙ sym place)))
    ∙ (ap (set (calls_from w s.counts.items s.rows.items 0 txs) to) same ∙ ap (λ (x : CallsView). set x.calls to call) view)
