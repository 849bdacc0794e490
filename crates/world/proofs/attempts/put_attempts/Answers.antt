use Rattle.std.proofs.Common.{◌∙◌, List, ℕ, ◌++◌, ap, string_bytes}
use Rattle.text_words.proofs.Pieces.{piece_more}
use Rattle.world.specs.Inside.{listing, world_of}
use Rattle.world.proofs.Lined.{told}
use Rattle.world.specs.WorldText.{attempt_line}
use Rattle.world.proofs.attempts.put_attempts.Goals as goal

pub attempts-preserved : goal.attempts-preserved
attempts-preserved c =
    let l = listing c.args.scene.now in
    let w = world_of c.args.scene.now in
    let r = c.begun_at.result in
    let t = c.begun_at.ensures in
    let out = string_bytes c.attempts.out in
    piece_more (attempt_line l) w.attempts c.attempts.place t.0 (string_bytes c.args.out.now) out (string_bytes c.put_attempt.new.out) t.1 c.attempts.invariant
    (c.in_ok-put_attempt.ensures ∙ ap (λ (x : List ℕ). out ++ x) (told l t.0 r.task r.rv r.log.now r.fate t.2 t.3 t.4 t.5))
