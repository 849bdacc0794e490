-- A store at the beginning of its next chapter.
use Rattle.std.proofs.Common.{◌≡◌, ◌≤◌, ◌+◌, ◌-◌, ◌∙◌, ℕ, List, length, min, sym, ap, arith}
use Rattle.std.proofs.Math.Nat.{min-le_left}
use Rattle.book.specs.View.{BookView}
use Rattle.book.specs.Carrying.{staying, carried}
use Rattle.book.specs.Chapters.{chapter_of, most_entries, entered_in_all}
use Rattle.book.proofs.Staying.{staying_length, staying_shorter}

-- each task that came over has its ticket
pub chapter_each : (held : List ℕ) (old new : BookView) → length held ≡ length old.tasks → new ≡ chapter_of old → length (staying held old.tasks) ≡ length new.tasks
chapter_each held old new each is = staying_length held old.tasks each ∙ ap (λ (b : BookView). length b.tasks) (sym is)

carried_shorter : (held : List ℕ) (old : BookView) → length held ≡ length old.tasks → length (carried old.tasks) ≤ length old.tasks
carried_shorter held old each = omega (arith, staying_length held old.tasks each, staying_shorter held old.tasks, each)

room_left : (n m room : ℕ) → n ≤ room → m ≤ room → n + (m - n) ≤ room
room_left n m room low high = omega (arith, low, high)

-- and there is room for the tickets of those that can be submitted
pub chapter_fits : (held : List ℕ) (room : ℕ) (old new : BookView) → length held ≡ length old.tasks → length old.tasks + old.spare ≤ room → old.room ≤ room → new ≡ chapter_of old → length new.tasks + new.spare ≤ room
chapter_fits held room old new each fits all is =
    let n = length (carried old.tasks) in
    let m = min old.room (most_entries - entered_in_all old) in
    let left = room_left n m room (omega (arith, carried_shorter held old each, fits)) (omega (arith, min-le_left old.room (most_entries - entered_in_all old), all)) in
    let tasks : length new.tasks ≡ n = ap (λ (b : BookView). length b.tasks) is in
    let spare : new.spare ≡ m - n = ap (λ (b : BookView). b.spare) is in
    omega (arith, left, tasks, spare)
