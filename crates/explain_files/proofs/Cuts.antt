-- Where bytes may be cut: between two pieces, each a token, a blank or a comment.
use Rattle.std.proofs.Common.{◌≡◌, ◌∙◌, ℕ, zero, suc, ◌+◌, ◌-◌, ◌<◌, ◌≤◌, Bool, true, false, eqb, List, [], ◌∷◌, ◌++◌, length, take, drop, get_or, refl, sym, ap, subst, arith, add-one, add_assoc, append_assoc}
use Rattle.std.specs.List.{prefix_len, list_all}
use Rattle.std.proofs.Common.{inl, inr}
use Rattle.std.proofs.Math.Seq.{take-add, take-length}
use Rattle.std.proofs.lemmas.List.{append-nil, drop-drop, drop_at, take_rest, take-append-drop}
use Rattle.std.proofs.lemmas.Bool.{eqb-true}
use Rattle.std.proofs.lemmas.Bool.Decides.{eqb_tells}
use Rattle.text_words.specs.Bytes.{is_in_line, is_blank, is_atom_byte}
use Rattle.text_words.specs.Tokens.{Lexeme, Opens, Closes, atom, tokens}
use Rattle.text_words.proofs.Lexing.{stops, tokens-gap, tokens-comment, tokens-nil, tokens-open, tokens-close, tokens-text}
use Rattle.explain_files.specs.Tokens.{BeginsToken, IsApart, is_parenthesis}
use Rattle.explain_files.proofs.Gaps.{neither, behind_blank, behind_comment, begins, next_none, next_parenthesis, next_atom}
use Rattle.explain_files.proofs.Prefixes.{before}

-- ---- runs of bytes

stopped_at : (p : ℕ → Bool) (x : ℕ) (xs : List ℕ) (b : Bool) → p x ≡ b → prefix_len p (drop (prefix_len p xs) xs) ≡ 0 → prefix_len p (drop (prefix_len p (x ∷ xs)) (x ∷ xs)) ≡ 0
stopped_at p x xs false e there = rw (e, e) refl
stopped_at p x xs true e there = let one_more : 1 + prefix_len p xs ≡ suc (prefix_len p xs) = omega arith in rw (e, one_more) there

-- behind the longest run of bytes that pass stands none that does
stopped : (p : ℕ → Bool) (xs : List ℕ) → prefix_len p (drop (prefix_len p xs) xs) ≡ 0
stopped p [] = refl
stopped p (x ∷ xs) = stopped_at p x xs (p x) refl (stopped p xs)

still : (p : ℕ → Bool) (x : ℕ) (xs ys : List ℕ) (b : Bool) → p x ≡ b → prefix_len p (x ∷ xs) ≡ 0 → prefix_len p (x ∷ ys) ≡ 0
still p x xs ys true e h = absurd (let h' = rw e at h in omega arith)
still p x xs ys false e h = rw e refl

-- nor where they end sooner
stopped_sooner : (p : ℕ → Bool) (n : ℕ) (xs : List ℕ) → prefix_len p xs ≡ 0 → prefix_len p (take n xs) ≡ 0
stopped_sooner p zero xs h = refl
stopped_sooner p (suc n) [] h = refl
stopped_sooner p (suc n) (x ∷ xs) h = still p x xs (take n xs) (p x) refl h

-- ---- pieces

-- a piece with these tokens, whatever is left of the bytes behind it
record IsPiece (bytes : List ℕ) (k : ℕ) (front : List Lexeme) : Type 0 where
  with : (n : ℕ) → tokens (take k bytes ++ take n (drop k bytes)) ≡ front ++ tokens (take n (drop k bytes))

alone : (bytes : List ℕ) (k : ℕ) (front : List Lexeme) → IsPiece bytes k front → tokens (take k bytes) ≡ front
alone bytes k front h =
    ap tokens (sym (append-nil (take k bytes))) ∙ h.with 0 ∙ ap (λ (ts : List Lexeme). front ++ ts) tokens-nil ∙ append-nil front

apart : (bytes : List ℕ) (k : ℕ) (front : List Lexeme) → IsPiece bytes k front → IsApart bytes k
apart bytes k front h =
    record {
      cut = λ n. ap tokens (take-add k n bytes) ∙ h.with n ∙ ap (λ (ts : List Lexeme). ts ++ tokens (take n (drop k bytes))) (sym (alone bytes k front h));
    }

nothing_piece : (bytes : List ℕ) → IsPiece bytes 0 []
nothing_piece bytes = record { with = λ n. refl }

blank_piece : (b : ℕ) (bytes : List ℕ) → is_blank b ≡ true → IsPiece (b ∷ bytes) 1 []
blank_piece b bytes h = record { with = λ n. tokens-gap b (take n bytes) h }

open_piece : (bytes : List ℕ) → IsPiece (40 ∷ bytes) 1 (Opens ∷ [])
open_piece bytes = record { with = λ n. tokens-open (take n bytes) }

close_piece : (bytes : List ℕ) → IsPiece (41 ∷ bytes) 1 (Closes ∷ [])
close_piece bytes = record { with = λ n. tokens-close (take n bytes) }

note : (text rest : List ℕ) → list_all is_in_line text ≡ true → prefix_len is_in_line rest ≡ 0 → tokens (59 ∷ (text ++ rest)) ≡ tokens rest
note text rest h stop =
    let n : prefix_len is_in_line (text ++ rest) ≡ length text = stops is_in_line text rest h stop in
    tokens-comment (text ++ rest) ∙ ap (λ (k : ℕ). tokens (drop k (text ++ rest))) n ∙ ap tokens (drop_at text rest (length text) refl)

comment_piece : (bytes : List ℕ) → IsPiece (59 ∷ bytes) (suc (prefix_len is_in_line bytes)) []
comment_piece bytes =
    let m = prefix_len is_in_line bytes in
    record { with = λ n. note (take m bytes) (take n (drop m bytes)) (before is_in_line bytes) (stopped_sooner is_in_line n (drop m bytes) (stopped is_in_line bytes)) }

passes : (b : ℕ) (bytes : List ℕ) → is_atom_byte b ≡ true → list_all is_atom_byte (b ∷ take (prefix_len is_atom_byte bytes) bytes) ≡ true
passes b bytes h = rw h (before is_atom_byte bytes)

atom_piece : (b : ℕ) (bytes : List ℕ) → is_atom_byte b ≡ true → IsPiece (b ∷ bytes) (suc (prefix_len is_atom_byte bytes)) (atom (b ∷ take (prefix_len is_atom_byte bytes) bytes) ∷ [])
atom_piece b bytes h =
    let m = prefix_len is_atom_byte bytes in
    record { with = λ n. tokens-text b (take m bytes) (take n (drop m bytes)) (passes b bytes h) (stopped_sooner is_atom_byte n (drop m bytes) (stopped is_atom_byte bytes)) }

-- ---- as the code meets them

pub nothing_apart : (bytes : List ℕ) → IsApart bytes 0
nothing_apart bytes = apart bytes 0 [] (nothing_piece bytes)

pub blank_apart : (bytes : List ℕ) → 0 < length bytes → is_blank (get_or bytes 0 0) ≡ true → IsApart bytes 1
blank_apart [] lt h = absurd (omega arith)
blank_apart (b ∷ bytes) lt h = apart (b ∷ bytes) 1 [] (blank_piece b bytes h)

pub blank_nothing : (bytes : List ℕ) → 0 < length bytes → is_blank (get_or bytes 0 0) ≡ true → tokens (take 1 bytes) ≡ []
blank_nothing [] lt h = absurd (omega arith)
blank_nothing (b ∷ bytes) lt h = alone (b ∷ bytes) 1 [] (blank_piece b bytes h)

comment_at : (n : ℕ) (bytes : List ℕ) → n ≡ prefix_len is_in_line bytes → IsPiece (59 ∷ bytes) (n + 1) []
comment_at n bytes e = subst (λ (k : ℕ). IsPiece (59 ∷ bytes) k []) (ap (λ (k : ℕ). suc k) (sym e) ∙ sym (add-one n)) (comment_piece bytes)

comment_of : (n : ℕ) (bytes : List ℕ) → 0 < length bytes → get_or bytes 0 0 ≡ 59 → n ≡ prefix_len is_in_line (drop 1 bytes) → IsPiece bytes (n + 1) []
comment_of n [] lt h e = absurd (omega arith)
comment_of n (b ∷ bytes) lt h e = subst (λ (x : ℕ). IsPiece (x ∷ bytes) (n + 1) []) (sym h) (comment_at n bytes e)

pub comment_apart : (n : ℕ) (bytes : List ℕ) → 0 < length bytes → get_or bytes 0 0 ≡ 59 → n ≡ prefix_len is_in_line (drop 1 bytes) → IsApart bytes (n + 1)
comment_apart n bytes lt h e = apart bytes (n + 1) [] (comment_of n bytes lt h e)

pub comment_nothing : (n : ℕ) (bytes : List ℕ) → 0 < length bytes → get_or bytes 0 0 ≡ 59 → n ≡ prefix_len is_in_line (drop 1 bytes) → tokens (take (n + 1) bytes) ≡ []
comment_nothing n bytes lt h e = alone bytes (n + 1) [] (comment_of n bytes lt h e)

pub none_alone : (bytes : List ℕ) → length bytes ≡ 0 → tokens (take 0 bytes) ≡ take 1 (tokens bytes)
none_alone [] e = rw tokens-nil refl
none_alone (b ∷ bytes) e = absurd (omega arith)

-- a token with its piece
record IsOne (bytes : List ℕ) (k : ℕ) : Type 0 where
  token : Lexeme
  piece : IsPiece bytes k (token ∷ [])
  first : take 1 (tokens bytes) ≡ token ∷ []

first_of : (bytes : List ℕ) (k : ℕ) (t : Lexeme) → IsPiece bytes k (t ∷ []) → take 1 (tokens bytes) ≡ t ∷ []
first_of bytes k t h =
    let whole : take k bytes ++ take (length bytes - k) (drop k bytes) ≡ bytes = ap (λ (b : List ℕ). take k bytes ++ b) (take_rest bytes k) ∙ take-append-drop k bytes in
    ap (λ (b : List ℕ). take 1 (tokens b)) (sym whole) ∙ ap (λ (ts : List Lexeme). take 1 ts) (h.with (length bytes - k))

one_alone : (bytes : List ℕ) (k : ℕ) → IsOne bytes k → tokens (take k bytes) ≡ take 1 (tokens bytes)
one_alone bytes k o = alone bytes k (o.token ∷ []) o.piece ∙ sym o.first

one_apart : (bytes : List ℕ) (k : ℕ) → IsOne bytes k → IsApart bytes k
one_apart bytes k o = apart bytes k (o.token ∷ []) o.piece

parenthesis : (bytes : List ℕ) → 0 < length bytes → is_parenthesis (get_or bytes 0 0) ≡ true → IsOne bytes 1
parenthesis [] lt h = absurd (omega arith)
parenthesis (b ∷ bytes) lt h =
    elim (eqb_tells b 40) [
      | inl p ↦ subst (λ (x : ℕ). IsOne (x ∷ bytes) 1) (sym p.1) record { token = Opens; piece = open_piece bytes; first = rw (tokens-open bytes) refl }
      | inr p ↦
          let e : eqb b 41 ≡ true = rw p.0 at h in
          subst (λ (x : ℕ). IsOne (x ∷ bytes) 1) (sym (eqb-true b 41 e)) record { token = Closes; piece = close_piece bytes; first = rw (tokens-close bytes) refl }
    ]

pub parenthesis_apart : (bytes : List ℕ) → 0 < length bytes → is_parenthesis (get_or bytes 0 0) ≡ true → IsApart bytes 1
parenthesis_apart bytes lt h = one_apart bytes 1 (parenthesis bytes lt h)

pub parenthesis_alone : (bytes : List ℕ) → 0 < length bytes → is_parenthesis (get_or bytes 0 0) ≡ true → tokens (take 1 bytes) ≡ take 1 (tokens bytes)
parenthesis_alone bytes lt h = one_alone bytes 1 (parenthesis bytes lt h)

atom_of : (n : ℕ) (bytes : List ℕ) → 0 < length bytes → BeginsToken bytes → is_parenthesis (get_or bytes 0 0) ≡ false → n ≡ prefix_len is_atom_byte bytes → IsOne bytes n
atom_of n [] lt begins h e = absurd (omega arith)
atom_of n (b ∷ bytes) lt begins h e =
    let part : is_atom_byte b ≡ true = neither (is_blank b) (eqb b 40) (eqb b 41) (eqb b 59) begins h in
    let one_more : n ≡ suc (prefix_len is_atom_byte bytes) = (let f = rw part at e in omega arith) in
    let t = atom (b ∷ take (prefix_len is_atom_byte bytes) bytes) in
    let piece = atom_piece b bytes part in
    subst (λ (k : ℕ). IsOne (b ∷ bytes) k) (sym one_more) record { token = t; piece = piece; first = first_of (b ∷ bytes) (suc (prefix_len is_atom_byte bytes)) t piece }

pub atom_apart : (n : ℕ) (bytes : List ℕ) → 0 < length bytes → BeginsToken bytes → is_parenthesis (get_or bytes 0 0) ≡ false → n ≡ prefix_len is_atom_byte bytes → IsApart bytes n
atom_apart n bytes lt begins h e = one_apart bytes n (atom_of n bytes lt begins h e)

pub atom_alone : (n : ℕ) (bytes : List ℕ) → 0 < length bytes → BeginsToken bytes → is_parenthesis (get_or bytes 0 0) ≡ false → n ≡ prefix_len is_atom_byte bytes → tokens (take n bytes) ≡ take 1 (tokens bytes)
atom_alone n bytes lt begins h e = one_alone bytes n (atom_of n bytes lt begins h e)

-- of a blank or a comment that stands first, or none
pub ruleset gaps = (behind_blank, behind_comment, begins, nothing_apart, blank_apart, blank_nothing)

-- of the first token, or none
pub ruleset first_tokens = (next_none, next_parenthesis, next_atom, nothing_apart, none_alone, parenthesis_apart, parenthesis_alone, atom_apart, atom_alone)

-- ---- pieces in a row

-- a place further on
pub apart_on : (bytes : List ℕ) (at k : ℕ) → IsApart bytes at → IsApart (drop at bytes) k → IsApart bytes (at + k)
apart_on bytes at k h g =
    record {
      cut = λ n.
          let front = tokens (take at bytes) in
          let piece = tokens (take k (drop at bytes)) in
          ap (λ (i : ℕ). tokens (take i bytes)) (add_assoc at k n)
          ∙ h.cut (k + n)
          ∙ ap (λ (ts : List Lexeme). front ++ ts) (g.cut n)
          ∙ sym (append_assoc front piece (tokens (take n (drop k (drop at bytes)))))
          ∙ ap (λ (ts : List Lexeme). ts ++ tokens (take n (drop k (drop at bytes)))) (sym (h.cut k))
          ∙ ap (λ (b : List ℕ). tokens (take (at + k) bytes) ++ tokens (take n b)) (drop-drop k at bytes);
    }

-- behind nothing the tokens are the same
pub still_front : (bytes : List ℕ) (at k : ℕ) → IsApart bytes at → tokens (take k (drop at bytes)) ≡ [] → tokens (take (at + k) bytes) ≡ tokens (take at bytes)
still_front bytes at k h none = h.cut k ∙ ap (λ (ts : List Lexeme). tokens (take at bytes) ++ ts) none ∙ append-nil (tokens (take at bytes))

-- all that is before the place, and all from it on
pub whole : (bytes : List ℕ) (at : ℕ) → at ≤ length bytes → IsApart bytes at → tokens bytes ≡ tokens (take at bytes) ++ tokens (drop at bytes)
whole bytes at le h =
    let n = length bytes - at in
    let all : at + n ≡ length bytes = omega arith in
    ap tokens (sym (take-length bytes)) ∙ ap (λ (i : ℕ). tokens (take i bytes)) (sym all) ∙ h.cut n ∙ ap (λ (b : List ℕ). tokens (take at bytes) ++ tokens b) (take_rest bytes at)

-- one token more
pub one_more : (bytes : List ℕ) (at k : ℕ) → IsApart bytes at → tokens (take k (drop at bytes)) ≡ take 1 (tokens (drop at bytes)) → tokens (take (at + k) bytes) ≡ tokens (take at bytes) ++ take 1 (tokens (drop at bytes))
one_more bytes at k h e = h.cut k ∙ ap (λ (ts : List Lexeme). tokens (take at bytes) ++ ts) e
