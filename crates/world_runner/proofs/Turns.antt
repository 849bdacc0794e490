-- One move more.
use Rattle.std.proofs.Common.{◌≡◌, ◌∙◌, ℕ, suc, ◌+◌, ◌<◌, ◌≤◌, List, [], ◌∷◌, ◌++◌, length, take, get_or, refl, sym, ap, subst, append_assoc, arith}
use Rattle.std.proofs.lemmas.List.{append-nil, length_push, take_all, take_more}
use Rattle.txn_programs.specs.Listing.{Listing}
use Rattle.txn_programs.specs.declared.moves.Move.{Move}
use Rattle.world.specs.SeenText.{seen_line, seen_lines}
use Rattle.world_law.specs.World.{World}
use Rattle.world_law.specs.declared.events.Seen.{Seen}
use Rattle.world.specs.Lines.{Plays}
use Rattle.world_runner.specs.Playing.{PlaysAll, PutsLines}

plays_more : (l : Listing) (w : World) (ms : List Move) (ss : List Seen) (mid w' : World) (m : Move) (s : Seen) → PlaysAll l w ms ss mid → Plays l mid m s w' → PlaysAll l w (ms ++ m ∷ []) (ss ++ s ∷ []) w'
plays_more l w [] [] mid w' m s h p = (w', subst (λ (v : World). Plays l v m s w') h p, refl)
plays_more l w [] (t ∷ ss) mid w' m s h p = absurd h
plays_more l w (n ∷ ms) [] mid w' m s h p = absurd h
plays_more l w (n ∷ ms) (t ∷ ss) mid w' m s h p = (h.0, h.1, plays_more l h.0 ms ss mid w' m s h.2 p)

lines_more : (l : Listing) (k : ℕ) (ss : List Seen) (s : Seen) → seen_lines l k (ss ++ s ∷ []) ≡ seen_lines l k ss ++ seen_line l (k + length ss) s
lines_more l k [] s = append-nil (seen_line l k s) ∙ ap (λ (n : ℕ). seen_line l n s) (let same : k ≡ k + 0 = omega arith in same)
lines_more l k (t ∷ ss) s =
    let same : k + 1 + length ss ≡ k + suc (length ss) = omega arith in
    ap (λ (x : List ℕ). seen_line l k t ++ x) (lines_more l (k + 1) ss s ∙ ap (λ (n : ℕ). seen_lines l (k + 1) ss ++ seen_line l n s) same)
    ∙ sym (append_assoc (seen_line l k t) (seen_lines l (k + 1) ss) (seen_line l (k + suc (length ss)) s))

-- the first i moves are played, and a line for each was put behind the text
pub record PutsFirst (l : Listing) (w : World) (moves : List Move) (i : ℕ) (w' : World) (old new : List ℕ) : Type 0 where
  pub seen : List Seen
  pub count : length seen ≡ i
  pub played : PlaysAll l w (take i moves) seen w'
  pub text : new ≡ old ++ seen_lines l 1 seen

pub puts_none : (l : Listing) (w : World) (moves : List Move) (old : List ℕ) → PutsFirst l w moves 0 w old old
puts_none l w moves old = record { seen = []; count = refl; played = refl; text = sym (append-nil old) }

pub puts_more : (l k : Listing) (w mid w' : World) (moves : List Move) (i : ℕ) (d : Move) (s : Seen) (old text new : List ℕ) → i < length moves → k ≡ l
    → PutsFirst l w moves i mid old text → Plays k mid (get_or moves i d) s w' → new ≡ text ++ seen_line l (i + 1) s → PutsFirst l w moves (i + 1) w' old new
puts_more l k w mid w' moves i d s old text new lt own so_far plays is =
    let m : Move = get_or moves i d in
    let next : take (i + 1) moves ≡ take i moves ++ m ∷ [] = take_more moves i d lt in
    let step : Plays l mid m s w' = subst (λ (j : Listing). Plays j mid m s w') own plays in
    let number : 1 + length so_far.seen ≡ i + 1 = omega (arith, so_far.count) in
    record {
      seen = so_far.seen ++ s ∷ [];
      count = length_push so_far.seen s ∙ (let c = so_far.count in omega (arith, c));
      played = subst (λ (ms : List Move). PlaysAll l w ms (so_far.seen ++ s ∷ []) w') (sym next) (plays_more l w (take i moves) so_far.seen mid w' m s so_far.played step);
      text = is ∙ ap (λ (t : List ℕ). t ++ seen_line l (i + 1) s) so_far.text
          ∙ append_assoc old (seen_lines l 1 so_far.seen) (seen_line l (i + 1) s)
          ∙ ap (λ (t : List ℕ). old ++ t) (ap (λ (n : ℕ). seen_lines l 1 so_far.seen ++ seen_line l n s) (sym number) ∙ sym (lines_more l 1 so_far.seen s));
    }

pub puts_all : (l : Listing) (w w' : World) (moves : List Move) (i : ℕ) (old new : List ℕ) → length moves ≤ i → PutsFirst l w moves i w' old new → PutsLines l w moves w' old new
puts_all l w w' moves i old new le h =
    record { seen = h.seen; played = subst (λ (ms : List Move). PlaysAll l w ms h.seen w') (take_all i moves le) h.played; text = h.text }
