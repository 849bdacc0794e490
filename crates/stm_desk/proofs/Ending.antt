-- The end of a chapter, once what ran has had its turn.
use Rattle.std.proofs.Common.{◌≡◌, ◌≢◌, ℕ, refl, inr, Result, Ok, Err, IfErr, IfOk, OnErr, subst, sym}
use Rattle.stm_store.specs.declared.answers.Refused.{Refused}
use Rattle.stm_store.specs.declared.answers.Refused.TheVariants as refused
use Rattle.stm_desk.specs.declared.ended.Ended.{Ended}
use Rattle.stm_desk.specs.declared.ended.Last.{Last}
use Rattle.stm_desk.specs.declared.ended.Last.TheVariants as last
use Rattle.stm_desk.specs.declared.work.Work.{Work}
use Rattle.stm_desk.specs.Ending.{EndsChapter, EndsNow, Settled}

pub chapter_ends : (old mid new : Work) (r : Result Ended Refused) → old.last ≡ last.Kept → Settled old mid → IfOk r (λ e. EndsNow mid e new) → IfOk r (λ e. new.last ≡ last.Out e.chapter) → IfErr r (λ why. why ≡ refused.Memory) → OnErr r (new ≡ mid) → EndsChapter old r new
chapter_ends old mid new (Ok e) kept settled ends out memory same = (out, inr (mid, settled, ends))
chapter_ends old mid new (Err why) kept settled ends out memory same =
    subst (λ (w : Refused). EndsChapter old (Err w) new) (sym memory) (kept, subst (Settled old) (sym same) settled)

-- none is out, and none lies there
pub last_kept : (l : Last) → ((e : ℕ) → l ≢ last.Out e) → ((e : Ended) → l ≢ last.NotKept e) → l ≡ last.Kept
last_kept last.Kept out lies = refl
last_kept (last.Out e) out lies = absurd (out e refl)
last_kept (last.NotKept e) out lies = absurd (lies e refl)
