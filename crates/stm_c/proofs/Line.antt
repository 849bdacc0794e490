-- A line without its newline.
use Rattle.std.proofs.Common.{◌≡◌, ◌∙◌, ℕ, ◌-◌, List, [], ◌∷◌, ◌++◌, length, take, codes, sym, ap, arith, append_assoc}
use Rattle.std.proofs.Math.Seq.{take-append_seam}
use Rattle.std.proofs.lemmas.List.{length-append}
use Rattle.explain_files.specs.Telling.{IsLineWith}

-- all but the last
without_last : (front : List ℕ) (b : ℕ) → take (length (front ++ b ∷ []) - 1) (front ++ b ∷ []) ≡ front
without_last front b =
    let n : length (front ++ b ∷ []) - 1 ≡ length front = (let e = length-append front (b ∷ []) in omega (arith, e)) in
    ap (λ n. take n (front ++ b ∷ [])) n ∙ take-append_seam front (b ∷ [])

-- what stands before the newline is the line without it
pub without_end : (front line : List ℕ) → IsLineWith front line → IsLineWith front (take (length line - 1) line ++ codes "\n")
without_end front line x =
    let whole : line ≡ (front ++ x.rest) ++ codes "\n" = x.text_is ∙ sym (append_assoc front x.rest (codes "\n")) in
    let cut : take (length line - 1) line ≡ front ++ x.rest =
    ap (λ (l : List ℕ). take (length l - 1) l) whole ∙ without_last (front ++ x.rest) 10
    in
    record {
      rest = x.rest;
      text_is = ap (λ (l : List ℕ). l ++ codes "\n") cut ∙ append_assoc front x.rest (codes "\n");
      single = x.single;
    }
