-- Notes one behind another, and going back by them.
use Rattle.std.proofs.Common.{◌≡◌, ℕ, ◌<◌, ◌≤◌, List, [], ◌∷◌, ◌++◌, length, ℤ, pos, refl, sym, ap, ◌∙◌, subst, drop, take, append_assoc, slice_set, get_or}
use Rattle.std.proofs.lemmas.List.{set-set, set-get_or, drop-append-le, take-append-le}
use Rattle.std.proofs.Math.ListN.{length-set}
use Rattle.txn_programs.specs.Meaning.{State}
use Rattle.txn_evaluator.specs.declared.notes.Note.{Note}
use Rattle.txn_evaluator.specs.Notes.{undone, AreInside, LeadBack}

undone_append : (ns more : List Note) (m : State) → undone (ns ++ more) m ≡ undone ns (undone more m)
undone_append [] more m = refl
undone_append (n ∷ ns) more m = ap (λ (k : State). slice_set k n.place n.old) (undone_append ns more m)

pub length-undone : (ns : List Note) (m : State) → length (undone ns m) ≡ length m
length-undone [] m = refl
length-undone (n ∷ ns) m = length-set (undone ns m) n.place n.old ∙ length-undone ns m

inside_append : (k : ℕ) (ns more : List Note) → AreInside k ns → AreInside k more → AreInside k (ns ++ more)
inside_append k [] more a b = b
inside_append k (n ∷ ns) more a b = (a.0, inside_append k ns more a.1 b)

-- the last note and those before it
inside_front : (k : ℕ) (ns : List Note) (n : Note) → AreInside k (ns ++ n ∷ []) → (n.place < k) × AreInside k ns
inside_front k [] n a = (a.0, tt)
inside_front k (m ∷ ns) n a = let r = inside_front k ns n a.1 in (r.0, (a.0, r.1))

-- undone by its last note first
pub back_step : (h : ℕ) (ns : List Note) (n : Note) (m : State) → h ≤ length ns → undone (drop h ns) (slice_set m n.place n.old) ≡ undone (drop h (ns ++ n ∷ [])) m
back_step h ns n m le = sym (ap (λ (l : List Note). undone l m) (drop-append-le h ns (n ∷ []) le) ∙ undone_append (drop h ns) (n ∷ []) m)

pub inside_step : (k h : ℕ) (ns : List Note) (n : Note) → h ≤ length ns → AreInside k (drop h (ns ++ n ∷ [])) → (n.place < k) × AreInside k (drop h ns)
inside_step k h ns n le a = inside_front k (drop h ns) n (subst (AreInside k) (drop-append-le h ns (n ∷ []) le) a)

pub front_step : (h : ℕ) (ns : List Note) (n : Note) → h ≤ length ns → take h ns ≡ take h (ns ++ n ∷ [])
front_step h ns n le = sym (take-append-le h ns (n ∷ []) le)

-- by one write
pub lead_back_write : (ns : List Note) (m : State) (n : Note) (v : ℤ) → n.place < length m → n.old ≡ get_or m n.place (pos 0) → LeadBack ns m (ns ++ n ∷ []) (slice_set m n.place v)
lead_back_write ns m n v lt e =
    record {
      more = n ∷ [];
      noted = refl;
      inside = (lt, tt);
      back = set-set m n.place v n.old ∙ ap (slice_set m n.place) e ∙ set-get_or m n.place (pos 0);
    }

-- by what was done first, and then by what was done after it
pub lead_back_then : (a : List Note) (m : State) (b : List Note) (n : State) (c : List Note) (o : State) → LeadBack a m b n → LeadBack b n c o → LeadBack a m c o
lead_back_then a m b n c o first then' =
    let long : length n ≡ length m = sym (length-undone first.more n) ∙ ap length first.back in
    record {
      more = first.more ++ then'.more;
      noted = then'.noted ∙ ap (λ (xs : List Note). xs ++ then'.more) first.noted ∙ append_assoc a first.more then'.more;
      inside = inside_append (length m) first.more then'.more first.inside (subst (λ k. AreInside k then'.more) long then'.inside);
      back = undone_append first.more then'.more o ∙ ap (undone first.more) then'.back ∙ first.back;
    }
