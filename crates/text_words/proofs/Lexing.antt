-- The tokens of bytes, step by step, with no bound on the steps.
use Rattle.std.proofs.Common.{◌≡◌, ℕ, zero, suc, ◌≤◌, Bool, true, false, eqb, ◌&&◌, List, [], ◌∷◌, ◌++◌, length, drop, take, refl, ap, ◌∙◌, arith, length-drop}
use Rattle.std.specs.List.{prefix_len, take_while, list_all}
use Rattle.std.proofs.lemmas.List.{take_at, drop_at}
use Rattle.std.proofs.Common.{inl, inr}
use Rattle.std.proofs.lemmas.Bool.{eqb-true}
use Rattle.std.proofs.lemmas.Bool.Decides.{eqb_tells}
use Rattle.text_words.specs.Bytes.{is_atom_byte, is_in_line, is_blank}
use Rattle.text_words.specs.Tokens.{Lexeme, Opens, Closes, atom, after, tokens_within, tokens}

both-1 : (a b : Bool) → (a && b) ≡ true → a ≡ true
both-1 true b h = refl
both-1 false b h = absurd cc

both-2 : (a b : Bool) → (a && b) ≡ true → b ≡ true
both-2 true b h = h
both-2 false b h = absurd cc

within-same : (n m : ℕ) (bytes : List ℕ) → length bytes ≤ n → length bytes ≤ m → tokens_within n bytes ≡ tokens_within m bytes
unfolding tokens_within
within-same zero zero bytes p q = refl
within-same zero (suc m) [] p q = refl
within-same zero (suc m) (b ∷ bytes) p q = absurd (omega arith)
within-same (suc n) zero [] p q = refl
within-same (suc n) zero (b ∷ bytes) p q = absurd (omega arith)
within-same (suc n) (suc m) [] p q = refl
within-same (suc n) (suc m) (b ∷ bytes) p q =
    let here : tokens_within n bytes ≡ tokens_within m bytes = within-same n m bytes (omega arith) (omega arith) in
    let past : (f : ℕ → Bool) → tokens_within n (after f bytes) ≡ tokens_within m (after f bytes) = λ f. within-same n m (after f bytes) (omega (arith, length-drop (prefix_len f bytes) bytes)) (omega (arith, length-drop (prefix_len f bytes) bytes)) in
    rw (here, past is_atom_byte, past is_in_line) refl

past : (f : ℕ → Bool) (bytes : List ℕ) → tokens_within (length bytes) (after f bytes) ≡ tokens (after f bytes)
unfolding tokens
past f bytes = within-same (length bytes) (length (after f bytes)) (after f bytes) (omega (arith, length-drop (prefix_len f bytes) bytes)) (omega arith)

pub tokens-open : (bytes : List ℕ) → tokens (40 ∷ bytes) ≡ Opens ∷ tokens bytes
unfolding tokens tokens_within
tokens-open bytes = refl

pub tokens-close : (bytes : List ℕ) → tokens (41 ∷ bytes) ≡ Closes ∷ tokens bytes
unfolding tokens tokens_within
tokens-close bytes = refl

pub tokens-space : (bytes : List ℕ) → tokens (32 ∷ bytes) ≡ tokens bytes
unfolding tokens tokens_within
tokens-space bytes = refl

pub tokens-newline : (bytes : List ℕ) → tokens (10 ∷ bytes) ≡ tokens bytes
unfolding tokens tokens_within
tokens-newline bytes = refl

pub tokens-comment : (bytes : List ℕ) → tokens (59 ∷ bytes) ≡ tokens (after is_in_line bytes)
unfolding tokens tokens_within
tokens-comment bytes = past is_in_line bytes

pub tokens-atom : (b : ℕ) (bytes : List ℕ) → is_atom_byte b ≡ true → tokens (b ∷ bytes) ≡ atom (b ∷ take_while is_atom_byte bytes) ∷ tokens (after is_atom_byte bytes)
unfolding tokens tokens_within
tokens-atom b bytes h = rw h (ap (λ (ts : List Lexeme). atom (b ∷ take_while is_atom_byte bytes) ∷ ts) (past is_atom_byte bytes))

pub tokens-nil : tokens [] ≡ []
unfolding tokens tokens_within
tokens-nil = refl

pub tokens-blank : (b : ℕ) (bytes : List ℕ) → is_atom_byte b ≡ false → eqb b 40 ≡ false → eqb b 41 ≡ false → eqb b 59 ≡ false → tokens (b ∷ bytes) ≡ tokens bytes
unfolding tokens tokens_within
tokens-blank b bytes h p q r = rw (h, p, q, r) refl

-- where bytes that pass meet one that does not
pub stops : (p : ℕ → Bool) (bs rest : List ℕ) → list_all p bs ≡ true → prefix_len p rest ≡ 0 → prefix_len p (bs ++ rest) ≡ length bs
stops p [] rest h stop = stop
stops p (b ∷ bs) rest h stop =
    let here : p b ≡ true = both-1 (p b) (list_all p bs) h in
    let there : list_all p bs ≡ true = both-2 (p b) (list_all p bs) h in
    rw here (let ih = stops p bs rest there stop in omega arith)

-- an atom is its own token, where no byte of an atom follows
pub tokens-text : (b : ℕ) (bs rest : List ℕ) → list_all is_atom_byte (b ∷ bs) ≡ true → prefix_len is_atom_byte rest ≡ 0 → tokens ((b ∷ bs) ++ rest) ≡ atom (b ∷ bs) ∷ tokens rest
tokens-text b bs rest h stop =
    let here : is_atom_byte b ≡ true = both-1 (is_atom_byte b) (list_all is_atom_byte bs) h in
    let n : prefix_len is_atom_byte (bs ++ rest) ≡ length bs = stops is_atom_byte bs rest (both-2 (is_atom_byte b) (list_all is_atom_byte bs) h) stop in
    let front : take_while is_atom_byte (bs ++ rest) ≡ bs = ap (λ (k : ℕ). take k (bs ++ rest)) n ∙ take_at bs rest (length bs) refl in
    let back : after is_atom_byte (bs ++ rest) ≡ rest = ap (λ (k : ℕ). drop k (bs ++ rest)) n ∙ drop_at bs rest (length bs) refl in
    tokens-atom b (bs ++ rest) here ∙ ap (λ (text : List ℕ). atom (b ∷ text) ∷ tokens (after is_atom_byte (bs ++ rest))) front ∙ ap (λ (more : List ℕ). atom (b ∷ bs) ∷ tokens more) back

pub tokens-gap : (b : ℕ) (rest : List ℕ) → is_blank b ≡ true → tokens (b ∷ rest) ≡ tokens rest
tokens-gap b rest h =
    elim (eqb_tells b 10) [
      | inl p ↦ rw p.1 (tokens-newline rest)
      | inr p ↦ let e : eqb b 32 ≡ true = rw p.0 at h in rw (eqb-true b 32 e) (tokens-space rest)
    ]

pub tokens-line : (text rest : List ℕ) → list_all is_in_line text ≡ true → tokens (59 ∷ (text ++ 10 ∷ rest)) ≡ tokens rest
tokens-line text rest h =
    let n : prefix_len is_in_line (text ++ 10 ∷ rest) ≡ length text = stops is_in_line text (10 ∷ rest) h refl in
    let back : after is_in_line (text ++ 10 ∷ rest) ≡ 10 ∷ rest = ap (λ (k : ℕ). drop k (text ++ 10 ∷ rest)) n ∙ drop_at text (10 ∷ rest) (length text) refl in
    tokens-comment (text ++ 10 ∷ rest) ∙ ap tokens back ∙ tokens-newline rest
