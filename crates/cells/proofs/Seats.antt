-- What the rule says of one seat, and how a seat's new view keeps what it says of the others.
use Rattle.std.proofs.Common.{◌≡◌, ◌≢◌, ℕ, List, set, sym, ap, ◌∙◌, subst, ⊎_elim, Option, Some, None, IfSome}
use mathlib.Core.Option.{some}
use lib.ListN.{get_elem?}
use Rattle.atomic_table.specs.Table.{State}
use Rattle.atomic_table.proofs.Lists.{at_set}
use Rattle.txn_words.specs.Words.{Commit}
use Rattle.txn_words.specs.Loads.{PassRecord, ReaderHolds}
use Rattle.cells.specs.Sight.{Sight, publishing, reading}
use Rattle.cells.specs.Rule.{WordsHold}

abbrev pub Board : Type 0
Board = State Unit Sight

-- what each seat has stays true where one seat gets a view that has it
pub seats_stay : (K : ℕ → Sight → Type 0) (views : List Sight) (me : ℕ) (w : Sight) → K me w → ((j : ℕ) (d : Sight) → j ≢ me → get_elem? views j ≡ some d → K j d)
    → (j : ℕ) (d : Sight) → get_elem? (set views me w) j ≡ some d → K j d
seats_stay K views me w mine others j d e = ⊎_elim (λ (t : (j ≡ me) × (w ≡ d)). subst (λ (x : ℕ × Sight). K x.0 x.1) (λ i. (sym t.0 i, t.1 i)) mine)
    (λ (t : (j ≢ me) × (get_elem? views j ≡ some d)). others j d t.0 t.1) (at_set views me j w d e)

pub if_some : {A : Type 0} (P Q : A → Type 0) → ((x : A) → P x → Q x) → (o : Option A) → IfSome o P → IfSome o Q
if_some P Q f None h = tt
if_some P Q f (Some x) h = f x h

-- the publisher's seat knows what was stored
pub known : (s : Board) (r : WordsHold s) (id : ℕ) (d : Sight) (c : Commit) → get_elem? s.views id ≡ some d → d ≡ publishing c → (c ≡ r.commit) × (id ≡ r.writer)
known s r id d c at is = subst (λ (e : Sight). IfSome e.publisher (λ (c : Commit). (c ≡ r.commit) × (id ≡ r.writer))) is (r.publisher id d at)

-- a reader's record holds
pub holds_now : (s : Board) (r : WordsHold s) (id : ℕ) (d : Sight) (x : PassRecord) → get_elem? s.views id ≡ some d → d ≡ reading x → ReaderHolds s.words r.commit.history x
holds_now s r id d x at is = subst (λ (e : Sight). IfSome e.reader (ReaderHolds s.words r.commit.history)) is (r.reader id d at)

abbrev else_commit : Commit → Option Commit → Commit
else_commit c None = c
else_commit c (Some x) = x

abbrev else_record : PassRecord → Option PassRecord → PassRecord
else_record r None = r
else_record r (Some x) = x

pub same_commit : (d e : Sight) (a b : Commit) → d ≡ e → d.publisher ≡ Some a → e.publisher ≡ Some b → a ≡ b
same_commit d e a b is p q = ap (λ (o : Option Commit). else_commit a o) (sym p ∙ (ap (λ (x : Sight). x.publisher) is ∙ q))

pub same_record : (d e : Sight) (a b : PassRecord) → d ≡ e → d.reader ≡ Some a → e.reader ≡ Some b → a ≡ b
same_record d e a b is p q = ap (λ (o : Option PassRecord). else_record a o) (sym p ∙ (ap (λ (x : Sight). x.reader) is ∙ q))
