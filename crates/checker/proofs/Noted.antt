-- Raising versions by what was noted.
use Rattle.std.proofs.Common.{◌≡◌, ℕ, zero, suc, ◌<◌, ℤ, pos, cond, List, [], ◌∷◌, length, get_or, set, refl, sym, ◌∙◌, ap, arith}
use Rattle.std.specs.Ordering.{int_eq}
use Rattle.std.proofs.lemmas.Bool.{cond-true}
use Rattle.std.proofs.lemmas.Bool.Decides.{Decides-int_eq}
use Rattle.txn_programs.specs.Meaning.{State}
use Rattle.txn_programs.specs.Replay.{versions_after}
use Rattle.txn_evaluator.specs.declared.notes.Note.{Note}
use Rattle.txn_evaluator.specs.Notes.{undone, AreInside}
use Rattle.std.proofs.Math.ListN.{length-set}
use Rattle.txn_evaluator.proofs.GoingBack.{length-undone}

-- the versions after the notes, the first note last: where its place has the value from before it has the version
-- from before, else the number
abbrev pub raised : ℕ → State → List ℕ → List Note → List ℕ
raised n new ks [] = ks
raised n new ks (note ∷ later) =
    set (raised n new ks later) note.place (cond (int_eq note.old (get_or new note.place (pos 0))) (get_or ks note.place 0) n)

pub raised_length : (n : ℕ) (new : State) (ks : List ℕ) (notes : List Note) → length (raised n new ks notes) ≡ length ks
raised_length n new ks [] = refl
raised_length n new ks (note ∷ later) = length-set _ note.place _ ∙ raised_length n new ks later

-- where nothing was written nothing is raised
none_raised : (n : ℕ) (m : State) (ks : List ℕ) → length ks ≡ length m → versions_after n m m ks ≡ ks
none_raised n [] [] e = refl
none_raised n [] (k ∷ ks) e = absurd (omega (arith, e))
none_raised n (v ∷ vs) [] e = absurd (omega (arith, e))
none_raised n (v ∷ vs) (k ∷ ks) e =
    ap (λ (z : ℕ). z ∷ versions_after n vs vs ks) (cond-true _ k n ((Decides-int_eq v v).1 refl)) ∙ ap (λ (zs : List ℕ). k ∷ zs) (none_raised n vs ks (omega (arith, e)))

-- what one variable was before counts for it alone
one_raised : (n i : ℕ) (o : ℤ) (olds news : State) (ks : List ℕ) → i < length olds → length news ≡ length olds → length ks ≡ length olds
    → set (versions_after n olds news ks) i (cond (int_eq o (get_or news i (pos 0))) (get_or ks i 0) n) ≡ versions_after n (set olds i o) news ks
one_raised n i o [] news ks lt a b = absurd (omega (arith, lt))
one_raised n i o (x ∷ xs) [] ks lt a b = absurd (omega (arith, a))
one_raised n i o (x ∷ xs) (y ∷ ys) [] lt a b = absurd (omega (arith, b))
one_raised n zero o (x ∷ xs) (y ∷ ys) (k ∷ ks) lt a b = refl
one_raised n (suc i) o (x ∷ xs) (y ∷ ys) (k ∷ ks) lt a b =
    ap (λ (zs : List ℕ). cond (int_eq x y) k n ∷ zs) (one_raised n i o xs ys ks (omega (arith, lt)) (omega (arith, a)) (omega (arith, b)))

pub raised_all : (n : ℕ) (new : State) (ks : List ℕ) (notes : List Note) → length ks ≡ length new → AreInside (length new) notes
    → raised n new ks notes ≡ versions_after n (undone notes new) new ks
raised_all n new ks [] e inside = sym (none_raised n new ks e)
raised_all n new ks (note ∷ later) e inside =
    let long = length-undone later new in
    ap (λ (zs : List ℕ). set zs note.place (cond (int_eq note.old (get_or new note.place (pos 0))) (get_or ks note.place 0) n)) (raised_all n new ks later e inside.1)
    ∙ one_raised n note.place note.old (undone later new) new ks (omega (arith, long, inside.0)) (sym long) (e ∙ sym long)

-- each note is of a place that is there
pub inside_at : (k i : ℕ) (notes : List Note) (d : Note) → AreInside k notes → i < length notes → (get_or notes i d).place < k
inside_at k i [] d inside lt = absurd (omega (arith, lt))
inside_at k zero (note ∷ later) d inside lt = inside.0
inside_at k (suc i) (note ∷ later) d inside lt = inside_at k i later d inside.1 (omega (arith, lt))
