-- A meeting of the publisher and a reader keeps the rule.
use Rattle.std.proofs.Common.{◌≡◌, ℕ, ◌<◌, List, [], ◌∷◌, ◌++◌, length, set, sym, refl, ap, ◌∙◌, subst, ⊎_elim, None, IfSome}
use mathlib.Core.Option.{none, some}
use lib.ListN.{get_elem?}
use lib.Seq.{set-get_or}
use Rattle.atomic_table.specs.Table.{step, keeps, Allows, Splits, Joins}
use Rattle.atomic_table.proofs.Lists.{at_snoc, set_else}
use Rattle.txn_words.specs.Words.{Commit, StartsWith}
use Rattle.txn_words.specs.Loads.{PassRecord, met, ReaderHolds}
use Rattle.txn_words.proofs.Loads.{meeting_right}
use Rattle.cells.specs.Sight.{Sight, publishing, reading, meeting, nothing}
use Rattle.cells.specs.Rule.{WordsHold}
use Rattle.cells.specs.Steps.{Seated, meets}
use Rattle.cells.proofs.Seats.{Board, seats_stay, same_commit, same_record}

abbrev Knows : (s : Board) → WordsHold s → ℕ → Sight → Type 0
Knows s r j d = IfSome d.publisher (λ c. (c ≡ r.commit) × (j ≡ r.writer)) × IfSome d.reader (ReaderHolds s.words r.commit.history)

knows : (s : Board) (r : WordsHold s) (j : ℕ) (d : Sight) → get_elem? s.views j ≡ some d → Knows s r j d
knows s r j d at = (r.publisher j d at, r.reader j d at)

-- the same words, with other views
seated : (s : Board) (r : WordsHold s) (vs : List Sight) → ((j : ℕ) (d : Sight) → get_elem? vs j ≡ some d → Knows s r j d) → WordsHold record { words = s.words; homes = s.homes; views = vs }
seated s r vs all = record { commit = r.commit; writer = r.writer; words = r.words; publisher = λ j d at. (all j d at).0; reader = λ j d at. (all j d at).1 }

cuts : (id : ℕ) (v left right : Sight) → ((s : Board) (r : WordsHold s) → Knows s r id v → Knows s r id left × ((j : ℕ) → Knows s r j right)) → Splits WordsHold id v left right
cuts id v left right how s r at = let t = how s r (knows s r id v at) in
    seated s r (set s.views id left ++ right ∷ []) (λ j d e. ⊎_elim (seats_stay (Knows s r) s.views id left t.0 (λ i x _. knows s r i x) j d)
    (λ (same : right ≡ d). subst (Knows s r j) same (t.1 j)) (at_snoc (set s.views id left) right d j e))

pub leaves : (id : ℕ) (x : PassRecord) (d : Sight) → d ≡ reading x → Splits WordsHold id d nothing d
leaves id x d is = cuts id d nothing d (λ s r k. ((tt, tt), λ j. subst (λ (z : Sight). Knows s r id z → Knows s r j z) (sym is) (λ q. (tt, q.1)) k))

pub parts : (id : ℕ) (c : Commit) (x : PassRecord) (d : Sight) → d ≡ meeting c x → Splits WordsHold id d (record d { reader = None }) (record d { publisher = None })
parts id c x d is = cuts id d (record d { reader = None }) (record d { publisher = None }) (λ s r k. ((k.0, tt), λ j. (tt, k.1)))

pub takes_in : (id other : ℕ) (v w : Sight) (c : Commit) (x : PassRecord) → v ≡ publishing c → w ≡ reading x → Joins WordsHold id v other w (record { publisher = v.publisher; reader = w.reader }) nothing
takes_in id other v w c x is_v is_w s r at apart there = let both : Sight = record { publisher = v.publisher; reader = w.reader } in
    let theirs = knows s r other w (sym (set_else s.views id other both apart) ∙ there) in
    seated s r (set (set s.views id both) other nothing)
    (seats_stay (Knows s r) (set s.views id both) other nothing (tt, tt) (λ j d _. seats_stay (Knows s r) s.views id both ((knows s r id v at).0, theirs.1) (λ i y _. knows s r i y) j d))

pub meets_kept : (slots id : ℕ) (me : Seated) (c : Commit) (x : PassRecord) → me.0 ≡ meeting c x → Allows WordsHold slots id me 0 (λ n. n) (meets (step slots 0 0 0 none) me)
meets_kept slots id me c x is s r _ at _ =
    let k = subst (Knows s r id) is (knows s r id me.0 at) in let same : c ≡ r.commit = k.0.0 in
    let mine : ReaderHolds s.words c.history x = subst (λ (z : Commit). ReaderHolds s.words z.history x) (sym same) k.1 in
    let after : ReaderHolds s.words r.commit.history (met c.history x) = subst (λ (z : Commit). ReaderHolds s.words r.commit.history (met z.history x)) (sym same) (meeting_right s.words r.commit r.words x k.1) in (
      meeting c (met c.history x),
      keeps,
      tt,
      subst (λ (ws : List ℕ). WordsHold record { words = ws; homes = s.homes; views = set s.views id (meeting c (met c.history x)) }) (sym (set-get_or s.words 0 0))
          (seated s r (set s.views id (meeting c (met c.history x))) (seats_stay (Knows s r) s.views id (meeting c (met c.history x)) (k.0, after) (λ j d _. knows s r j d))),
      λ c' x' is'. let both = sym is ∙ is' in let a = same_commit (meeting c x) (meeting c' x') c c' both refl refl in let b = same_record (meeting c x) (meeting c' x') x x' both refl refl in (
        λ i. meeting (a i) (met (ap (λ (z : Commit). z.history) a i) (b i)),
        subst (λ (t : Commit × PassRecord). StartsWith t.0.history t.1.seen) (λ i. (a i, b i)) mine.seen,
        subst (λ (t : PassRecord). t.rv < length t.seen) b mine.began,
      ),
    )
