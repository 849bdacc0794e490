-- An attempt that begins is not seen to be spent where its program needs no memory.
use Rattle.std.proofs.Common.{◌≡◌, ◌≢◌, ℕ, refl, sym, ◌∙◌}
use Rattle.txn_programs.specs.Listing.{Listing, task_program}
use Rattle.txn_programs.specs.declared.ast.TaskId.{TaskId}
use Rattle.attempt.specs.Room.{NeedsNoMemory}
use Rattle.attempt.specs.declared.next.Next.{Next}
use Rattle.attempt.specs.declared.next.Next.TheVariants as next
use Rattle.world_law.specs.declared.events.Seen.{Seen}
use Rattle.world_law.specs.declared.events.Seen.TheVariants as seen
use Rattle.world.specs.declared.trial.Trial.{Trial}
use Rattle.world.specs.Trials.{Begins, answer_seen}

pub answers_unspent : (n : Next) → n ≢ next.Memory → answer_seen n ≢ seen.Spent
answers_unspent (next.Need x) m e = absurd (cc)
answers_unspent (next.Returned v) m e = absurd (cc)
answers_unspent (next.Thrown f) m e = absurd (cc)
answers_unspent next.Retry m e = absurd (cc)
answers_unspent next.Memory m e = m refl

-- an attempt that begins
pub begins_unspent : (l : Listing) (a : TaskId) (n : ℕ) (y : Trial) (s : Seen) → Begins l a n y s → NeedsNoMemory (task_program l a) → s ≢ seen.Spent
begins_unspent l a n y s b short e = answers_unspent y.at (b.short short) (sym b.seen ∙ e)
