-- The tokens behind blanks, comments and tokens.
use Rattle.std.proofs.Common.{◌≡◌, ◌≢◌, ℕ, suc, ◌+◌, ◌<◌, ◌||◌, not, Bool, true, false, eqb, List, [], ◌∷◌, length, drop, get_or, refl, sym, subst, arith, add-one}
use Rattle.std.specs.List.{prefix_len}
use Rattle.std.proofs.Common.{inl, inr}
use Rattle.std.proofs.lemmas.Bool.{ne_eqb, eqb-true}
use Rattle.std.proofs.lemmas.Bool.Decides.{eqb_tells}
use Rattle.text_words.specs.Bytes.{is_in_line, is_blank, is_atom_byte}
use Rattle.text_words.specs.Tokens.{tokens}
use Rattle.text_words.proofs.Lexing.{tokens-gap, tokens-comment, tokens-nil, tokens-open, tokens-close, tokens-atom}
use Rattle.explain_files.specs.Tokens.{BeginsToken, is_parenthesis}

pub behind_blank : (bytes : List ℕ) → 0 < length bytes → is_blank (get_or bytes 0 0) ≡ true → tokens (drop 1 bytes) ≡ tokens bytes
behind_blank [] lt h = absurd (omega arith)
behind_blank (b ∷ bytes) lt h = sym (tokens-gap b bytes h)

comment_line : (n : ℕ) (bytes : List ℕ) → n ≡ prefix_len is_in_line bytes → tokens (drop (n + 1) (59 ∷ bytes)) ≡ tokens (59 ∷ bytes)
comment_line n bytes e = rw (add-one, e) (sym (tokens-comment bytes))

pub behind_comment : (n : ℕ) (bytes : List ℕ) → 0 < length bytes → get_or bytes 0 0 ≡ 59 → n ≡ prefix_len is_in_line (drop 1 bytes) → tokens (drop (n + 1) bytes) ≡ tokens bytes
behind_comment n [] lt h e = absurd (omega arith)
behind_comment n (b ∷ bytes) lt h e = subst (λ (x : ℕ). tokens (drop (n + 1) (x ∷ bytes)) ≡ tokens (x ∷ bytes)) (sym h) (comment_line n bytes e)

pub begins : (bytes : List ℕ) → (0 < length bytes → is_blank (get_or bytes 0 0) ≡ false) → (0 < length bytes → get_or bytes 0 0 ≢ 59) → BeginsToken bytes
begins [] h g = tt
begins (b ∷ bytes) h g = let p : is_blank b ≡ false = h (omega arith) in rw (p, ne_eqb b 59 (g (omega arith))) refl

pub next_none : (bytes : List ℕ) → length bytes ≡ 0 → tokens (drop 0 bytes) ≡ drop 1 (tokens bytes)
next_none [] e = rw tokens-nil refl
next_none (b ∷ bytes) e = absurd (omega arith)

pub next_parenthesis : (bytes : List ℕ) → 0 < length bytes → is_parenthesis (get_or bytes 0 0) ≡ true → tokens (drop 1 bytes) ≡ drop 1 (tokens bytes)
next_parenthesis [] lt h = absurd (omega arith)
next_parenthesis (b ∷ bytes) lt h =
    elim (eqb_tells b 40) [
      | inl p ↦ rw p.1 (rw (tokens-open bytes) refl)
      | inr p ↦ let e : eqb b 41 ≡ true = rw p.0 at h in rw (eqb-true b 41 e) (rw (tokens-close bytes) refl)
    ]

pub neither : (a c d e : Bool) → (a || e) ≡ false → (c || d) ≡ false → not (a || (c || (d || e))) ≡ true
neither true c d e h g = absurd cc
neither false true d e h g = absurd cc
neither false false true e h g = absurd cc
neither false false false true h g = absurd cc
neither false false false false h g = refl

pub next_atom : (n : ℕ) (bytes : List ℕ) → 0 < length bytes → BeginsToken bytes → is_parenthesis (get_or bytes 0 0) ≡ false → n ≡ prefix_len is_atom_byte bytes → tokens (drop n bytes) ≡ drop 1 (tokens bytes)
next_atom n [] lt begins h e = absurd (omega arith)
next_atom n (b ∷ bytes) lt begins h e =
    let part : is_atom_byte b ≡ true = neither (is_blank b) (eqb b 40) (eqb b 41) (eqb b 59) begins h in
    let one_more : n ≡ suc (prefix_len is_atom_byte bytes) = (let f = rw part at e in omega arith) in
    rw (tokens-atom b bytes part, one_more) refl
