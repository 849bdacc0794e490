-- Where a running attempt stands.
use Rattle.std.proofs.Common.{◌≡◌, ◌≢◌, ℕ, Bool, List, [], ◌∷◌, sym, refl, ap, ◌∙◌, subst, Option, Some, None, option_map}
use Rattle.txn_programs.specs.Listing.{Listing}
use Rattle.txn_programs.specs.Tree.{Program}
use Rattle.txn_programs.specs.declared.ast.TaskId.{TaskId}
use Rattle.txn_programs.specs.declared.ast.VarId.{VarId}
use Rattle.attempt.specs.Asking.{Known, Answer, Needs, ask}
use Rattle.attempt.specs.View.{Answers, AttemptView}
use Rattle.attempt.specs.declared.next.Next.{Next}
use Rattle.attempt.specs.declared.next.Next.TheVariants as next
use Rattle.world_law.specs.declared.events.Fate.{Fate}
use Rattle.world_law.specs.declared.events.Fate.TheVariants as fate
use Rattle.world_law.specs.World.{Started, stand, wanted_by, wanted, Reading, IsRunning}
use Rattle.world_law.specs.declared.events.Loads.{Loads}
use Rattle.world.specs.declared.trial.Checking.{Checking}
use Rattle.world.specs.declared.trial.Trial.{Trial}
use Rattle.world.specs.declared.scene.Scene.{Scene}
use Rattle.world.specs.Trials.{check_of, started_of, wanted_at, wants, TrialKept}
use Rattle.world.specs.Inside.{listing, world_of, Kept, IsTheRunning, IsOnly}
use Rattle.world.proofs.Seeing.{seen_at, seen_from, same_place}

-- what it answered last is what its program answers
pub asks : (l : Listing) (t : Trial) → TrialKept l t → stand l (started_of t) ≡ ask t.attempt.program t.attempt.log
asks l t k = ap (λ (p : Program). ask p t.attempt.log) (sym k.program)

pub stands_at : (l : Listing) (t : Trial) (x : VarId) → TrialKept l t → t.at ≡ next.Need x → stand l (started_of t) ≡ Needs x
stands_at l t x k e = asks l t k ∙ (subst (λ (n : Next). Answers n t.attempt) e k.answers).0

at_needs : (l : Listing) (t : Trial) (x : VarId) (n : Next) → t.at ≡ n → n ≢ next.Memory → Answers n t.attempt → ask t.attempt.program t.attempt.log ≡ Needs x → n ≡ next.Need x
at_needs l t x (next.Need z) is m a e = let s : Needs z ≡ Needs x = sym a.0 ∙ e in cc
at_needs l t x (next.Returned v) is m a e = absurd (let s = sym a.0 ∙ e in cc)
at_needs l t x (next.Thrown f) is m a e = absurd (let s = sym a.0 ∙ e in cc)
at_needs l t x next.Retry is m a e = absurd (let s = sym a.0 ∙ e in cc)
at_needs l t x next.Memory is m a e = absurd (m refl)

-- an attempt that runs did not run out of memory
pub runs_on : (l : Listing) (t : Trial) → TrialKept l t → t.fate ≡ fate.Running → t.at ≢ next.Memory
runs_on l t k run e = k.over e run

pub needs_at : (l : Listing) (t : Trial) (x : VarId) → TrialKept l t → t.at ≢ next.Memory → stand l (started_of t) ≡ Needs x → t.at ≡ next.Need x
needs_at l t x k n e = at_needs l t x t.at refl n k.answers (sym (asks l t k) ∙ e)

-- the variable that it reads
on_need : (x : VarId) (log : Known) (o : Option Checking) → wanted_by (Needs x) log (option_map check_of o) ≡ wanted_at (next.Need x) log o
on_need x log None = refl
on_need x log (Some c) = refl

wants_by : (n : Next) (v : AttemptView) (o : Option Checking) → n ≢ next.Memory → Answers n v → wanted_by (ask v.program v.log) v.log (option_map check_of o) ≡ wanted_at n v.log o
wants_by (next.Need z) v o m a = ap (λ (r : Answer). wanted_by r v.log (option_map check_of o)) a.0 ∙ on_need z v.log o
wants_by (next.Returned x) v o m a = ap (λ (r : Answer). wanted_by r v.log (option_map check_of o)) a.0
wants_by (next.Thrown f) v o m a = ap (λ (r : Answer). wanted_by r v.log (option_map check_of o)) a.0
wants_by next.Retry v o m a = ap (λ (r : Answer). wanted_by r v.log (option_map check_of o)) a.0
wants_by next.Memory v o m a = absurd (m refl)

pub wants_is : (l : Listing) (t : Trial) → TrialKept l t → t.at ≢ next.Memory → wanted l (started_of t) ≡ wants t
wants_is l t k m = ap (λ (r : Answer). wanted_by r t.attempt.log (option_map check_of t.check)) (asks l t k) ∙ wants_by t.at t.attempt t.check m k.answers

-- an attempt that reads needs a variable
pub wants_needs : (n : Next) (log : Known) (o : Option Checking) (x : VarId) → wanted_at n log o ≡ Some x → (z : VarId) × (n ≡ next.Need z)
wants_needs (next.Need z) log o x e = (z, refl)
wants_needs (next.Returned v) log o x e = absurd (cc)
wants_needs (next.Thrown f) log o x e = absurd (cc)
wants_needs next.Retry log o x e = absurd (cc)
wants_needs next.Memory log o x e = absurd (cc)

-- the world's running attempt is one of these
pub running_from : (c : Scene) (a : TaskId) (j : ℕ) (y : Started) → IsRunning (world_of c) a j y → (t : Trial) × IsTheRunning c a j t × (started_of t ≡ y)
running_from c a j y r = let s = seen_from c.trials.items j y r.0 in
    (s.0, (s.1, ap (λ (u : Started). u.task) s.2 ∙ r.1, ap (λ (u : Started). u.fate) s.2 ∙ r.2), s.2)

pub running_to : (c : Scene) (a : TaskId) (i : ℕ) (t : Trial) → IsTheRunning c a i t → IsRunning (world_of c) a i (started_of t)
running_to c a i t r = (seen_at c.trials.items i t r.0, r.1, r.2)

-- where the attempt is the only one, it is that one
pub the_one : (c : Scene) (a : TaskId) (i j : ℕ) (t u : Trial) → IsTheRunning c a i t → IsOnly c a i → IsTheRunning c a j u → t ≡ u
the_one c a i j t u r only q = same_place c.trials.items i j t u r.0 q.0 (only j u q)

pub reading_to : (c : Scene) (a : TaskId) (i : ℕ) (t : Trial) (x : VarId) → Kept c → IsTheRunning c a i t → wants t ≡ Some x → Reading (listing c) (world_of c) a i (started_of t) x t.loads
reading_to c a i t x k r e = let g = k.trials i t r.0 in ((running_to c a i t r, wants_is (listing c) t g (runs_on (listing c) t g r.2) ∙ e), refl)

pub reading_from : (c : Scene) (a : TaskId) (j : ℕ) (y : Started) (x : VarId) (ls : Loads) → Kept c → Reading (listing c) (world_of c) a j y x ls → (t : Trial) × IsTheRunning c a j t × (wants t ≡ Some x) × (t.loads ≡ ls)
reading_from c a j y x ls k r = let s = running_from c a j y r.0.0 in
    let g = k.trials j s.0 s.1.0 in
    (s.0, s.1, sym (wants_is (listing c) s.0 g (runs_on (listing c) s.0 g s.1.2)) ∙ (ap (wanted (listing c)) s.2 ∙ r.0.1), ap (λ (u : Started). u.loads) s.2 ∙ r.1)

-- one that did not run out of memory may be otherwise in all but its program and its answer
pub other_kept : (l : Listing) (t : Trial) (n : ℕ) (o : Loads) (f : Fate) (b : Bool) (q : Option Checking) → TrialKept l t → t.at ≢ next.Memory → TrialKept l (record t { rv = n; loads = o; fate = f; movable = b; check = q })
other_kept l t n o f b q k m = record { program = k.program; variables = k.variables; answers = k.answers; needs = k.needs; over = λ e. absurd (m e) }
