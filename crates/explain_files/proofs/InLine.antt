-- Texts without a newline.
use Rattle.std.proofs.Common.{◌≡◌, ◌∙◌, ℕ, zero, suc, ◌^◌, ◌<◌, ◌≤◌, ◌||◌, Bool, true, false, eqb, List, [], ◌∷◌, ◌++◌, length, take, get_or, refl, subst, arith}
use Rattle.std.specs.List.{prefix_len, take_while, list_all}
use Rattle.std.specs.Fmt.{decimal}
use Rattle.std.proofs.lemmas.Bool.{and_from, eqb-true, ne_eqb}
use Rattle.std.proofs.lemmas.Fmt.{decimal_is_IsNumeral}
use Rattle.std.specs.Str.Parse.{AllDigits}
use Rattle.std.proofs.lemmas.Str.Parse.{digit_from_value}
use Rattle.std.proofs.lemmas.List.Folds.{list_all-append}
use Rattle.txn_programs.specs.Names.{is_name}
use Rattle.text_words.specs.Bytes.{is_in_line, is_atom_byte, is_int}
use Rattle.text_words.specs.Tokens.{Lexeme, Name, atom, after, tokens_within, tokens}
use Rattle.explain_files.specs.Telling.{IsInLine}

pub in_line_append : (xs ys : List ℕ) → IsInLine xs → IsInLine ys → IsInLine (xs ++ ys)
in_line_append xs ys h k = list_all-append is_in_line xs ys ∙ and_from (list_all is_in_line xs) (list_all is_in_line ys) h k

-- a byte of an atom ends no line
atom_byte : (b : ℕ) → is_atom_byte b ≡ true → is_in_line b ≡ true
atom_byte b h = by (eqb b 10) refl h
  where
    by : (v : Bool) → eqb b 10 ≡ v → is_atom_byte b ≡ true → is_in_line b ≡ true
    by true e h = absurd (let f = rw e at h in cc)
    by false e h = rw e refl

short_at : (n : ℕ) (b : ℕ) (bytes : List ℕ) (v : Bool) → is_atom_byte b ≡ v → ((m : ℕ) → m ≤ prefix_len is_atom_byte bytes → IsInLine (take m bytes)) → n ≤ prefix_len is_atom_byte (b ∷ bytes) → IsInLine (take n (b ∷ bytes))
short_at zero b bytes v e more le = refl
short_at (suc n) b bytes false e more le = absurd (let f = rw e at le in omega arith)
short_at (suc n) b bytes true e more le =
    let shorter : n ≤ prefix_len is_atom_byte bytes = (let f = rw e at le in omega arith) in
    rw (atom_byte b e) (more n shorter)

-- so much of an atom has none
short : (bytes : List ℕ) (n : ℕ) → n ≤ prefix_len is_atom_byte bytes → IsInLine (take n bytes)
short [] zero le = refl
short [] (suc n) le = refl
short (b ∷ bytes) n le = short_at n b bytes (is_atom_byte b) refl (short bytes) le

pub atom_in_line : (bytes : List ℕ) (n : ℕ) → n ≤ prefix_len is_atom_byte bytes → IsInLine (take n bytes)
atom_in_line bytes n le = short bytes n le

-- a parenthesis is none
pub parenthesis_in_line : (bytes : List ℕ) → 0 < length bytes → (eqb (get_or bytes 0 0) 40 || eqb (get_or bytes 0 0) 41) ≡ true → IsInLine (take 1 bytes)
parenthesis_in_line [] lt h = absurd (omega arith)
parenthesis_in_line (b ∷ bytes) lt h = by (eqb b 10) refl h
  where
    by : (v : Bool) → eqb b 10 ≡ v → (eqb b 40 || eqb b 41) ≡ true → IsInLine (b ∷ [])
    by true e h = let is : b ≡ 10 = eqb-true b 10 e in absurd (let f = rw is at h in cc)
    by false e h = rw e refl

run : (bytes : List ℕ) → IsInLine (take_while is_atom_byte bytes)
run bytes = short bytes (prefix_len is_atom_byte bytes) (omega arith)

-- an atom that is a name is its own text
named : (whole text : List ℕ) → IsInLine whole → atom whole ≡ Name text → IsInLine text
unfolding atom
named whole text h e = by (is_name whole) (is_int whole) refl refl e
  where
    by : (v w : Bool) → is_name whole ≡ v → is_int whole ≡ w → atom whole ≡ Name text → IsInLine text
    by true w p q e = let f = rw p at e in let same : whole ≡ text = cc in subst IsInLine same h
    by false true p q e = absurd (let f = rw (p, q) at e in cc)
    by false false p q e = absurd (let f = rw (p, q) at e in cc)

first_at : (n : ℕ) (b : ℕ) (bytes text : List ℕ) (ts : List Lexeme) (v o c s : Bool) → is_atom_byte b ≡ v → eqb b 40 ≡ o → eqb b 41 ≡ c → eqb b 59 ≡ s
    → ((rest : List ℕ) → tokens_within n rest ≡ Name text ∷ ts → IsInLine text) → tokens_within (suc n) (b ∷ bytes) ≡ Name text ∷ ts → IsInLine text
unfolding tokens_within
first_at n b bytes text ts true o c s p q r z more e =
    let f = rw p at e in
    let same : atom (b ∷ take_while is_atom_byte bytes) ≡ Name text = cc in
    let whole : IsInLine (b ∷ take_while is_atom_byte bytes) = rw (atom_byte b p) (run bytes) in
    named (b ∷ take_while is_atom_byte bytes) text whole same
first_at n b bytes text ts false true c s p q r z more e = absurd (let f = rw (p, q) at e in cc)
first_at n b bytes text ts false false true s p q r z more e = absurd (let f = rw (p, q, r) at e in cc)
first_at n b bytes text ts false false false true p q r z more e = more (after is_in_line bytes) (rw (p, q, r, z) at e)
first_at n b bytes text ts false false false false p q r z more e = more bytes (rw (p, q, r, z) at e)

first_within : (n : ℕ) (bytes text : List ℕ) (ts : List Lexeme) → tokens_within n bytes ≡ Name text ∷ ts → IsInLine text
unfolding tokens_within
first_within zero bytes text ts e = absurd cc
first_within (suc n) [] text ts e = absurd cc
first_within (suc n) (b ∷ bytes) text ts e =
    first_at n b bytes text ts (is_atom_byte b) (eqb b 40) (eqb b 41) (eqb b 59) refl refl refl refl (λ rest. first_within n rest text ts) e

-- a name that stands first has none
pub token_in_line : (bytes text : List ℕ) (ts : List Lexeme) → tokens bytes ≡ Name text ∷ ts → IsInLine text
unfolding tokens
token_in_line bytes text ts e = first_within (length bytes) bytes text ts e

-- the digits of a number have none
digits_in_line : (ds : List ℕ) → AllDigits 10 ds → IsInLine ds
digits_in_line [] d = refl
digits_in_line (c ∷ cs) d =
    let other : eqb c 10 ≡ false = ne_eqb c 10 (λ e. absurd (omega (arith, digit_from_value c d.0))) in
    rw other (digits_in_line cs d.1)

pub decimal_in_line : (n : ℕ) → n < 2 ^ 64 → IsInLine (decimal n)
decimal_in_line n h = digits_in_line (decimal n) (decimal_is_IsNumeral n h).0.1
