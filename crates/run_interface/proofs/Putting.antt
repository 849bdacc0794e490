-- One more put.
use Rattle.std.proofs.Common.{◌≡◌, ℕ, ◌+◌, ◌-◌, List, ◌++◌, Option, length, take, drop, sym, ap, ◌∙◌, subst, arith, length-drop, take-add}
use Rattle.std.specs.Io.KnownBytes.{Appends, Keeps}
use Rattle.std.proofs.KnownBytes.{Appends-kept, Appends-trans}
use Rattle.std.proofs.lemmas.List.{drop-drop, take_all}
use Rattle.run_interface.specs.Puts.{Taken}

-- what is left after a put, as the code cuts it off
pub cut : (n : ℕ) (rest : List ℕ) → take (length rest - n) (drop n rest) ≡ drop n rest
cut n rest = take_all (length rest - n) (drop n rest) (omega (arith, length-drop n rest))

pub put_step : (old mid new : Option (List ℕ)) (all rest : List ℕ) (n : ℕ) → Taken old mid all rest → Appends mid new (take n rest) → Taken old new all (take (length rest - n) (drop n rest))
put_step old mid new all rest n t more =
    let k = t.count in
    let both : Appends old new (take k all ++ take n rest) = Appends-trans old mid new (take k all) (take n rest) t.appended more in
    let joined : take k all ++ take n rest ≡ take (k + n) all = ap (λ r. take k all ++ take n r) t.left ∙ sym (take-add k n all) in
    record {
      count = k + n;
      left = cut n rest ∙ ap (drop n) t.left ∙ drop-drop n k all;
      appended = subst (Appends old new) joined both;
    }

-- all was taken, and then nothing more
pub beginning_kept : (old mid new : Option (List ℕ)) (all : List ℕ) → Appends old mid all → Keeps mid new → (n : ℕ) × Appends old new (take n all)
beginning_kept old mid new all more kept =
    (length all, subst (Appends old new) (sym (take_all (length all) all (omega arith))) (Appends-kept old mid new all more kept))
