-- How a file begins where something was added between two tokens.
use Rattle.std.proofs.Common.{◌≡◌, ◌≤◌, ◌∙◌, ℕ, le_refl, ◌⊎◌, inl, inr, Bool, true, false, ◌&&◌, ◌||◌, List, [], ◌∷◌, ◌++◌, length, take, refl, sym, ap, arith, subst, nat_eq, length-append}
use Rattle.std.specs.Prelude.{codes, if◌then◌else◌}
use Rattle.std.specs.List.{starts_with}
use lib.Pointwise.{pointwise}
use Rattle.std.proofs.lemmas.Bool.{eqb-true}
use Rattle.text_words.specs.Bytes.{is_blank}
use Rattle.text_words.specs.Tokens.{Lexeme, Opens, atom, tokens}
use Rattle.text_words.proofs.Lexing.{tokens-open, tokens-text, tokens-nil}
use Rattle.text_grammar.specs.Tree.{longest}
use Rattle.text_file_reader.specs.Gaps.{IsGap, Nothing, Blank, Comment, SplitsNoToken}

parts : {c d : ℕ} {xs ys : List ℕ} → c ∷ xs ≡ d ∷ ys → (c ≡ d) × (xs ≡ ys)
parts e = (cc, cc)

-- where two lists are one, the first ends in the front part of the other or behind it
data Cut (a x h rest : List ℕ) : Type 0 where
  Behind : (more : List ℕ) → a ≡ h ++ more → Cut a x h rest
  Inside : (c : ℕ) (m : List ℕ) → h ≡ a ++ (c ∷ m) → x ≡ c ∷ (m ++ rest) → Cut a x h rest

cut : (a x h rest : List ℕ) → a ++ x ≡ h ++ rest → Cut a x h rest
cut a x [] rest e = Behind a refl
cut [] x (c ∷ m) rest e = Inside c m refl e
cut (d ∷ a) x (c ∷ m) rest e =
    let same : d ≡ c = cc in
    elim (cut a x m rest (let t : a ++ x ≡ m ++ rest = cc in t)) [
      | Behind more f ↦ Behind more (let t : d ∷ a ≡ c ∷ (m ++ more) = cc in t)
      | Inside k n f g ↦ Inside k n (let t : c ∷ m ≡ d ∷ (a ++ (k ∷ n)) = cc in t) g
    ]

both : (b c : Bool) → (b && c) ≡ true → (b ≡ true) × (c ≡ true)
both true c h = (refl, h)
both false c h = absurd (let k : false ≡ true = h in cc)

rest_of : (h xs : List ℕ) → pointwise nat_eq h (take (length h) xs) ≡ true → (rest : List ℕ) × (xs ≡ h ++ rest)
rest_of [] xs e = (xs, refl)
rest_of (c ∷ h) [] e = absurd (let k : false ≡ true = e in cc)
rest_of (c ∷ h) (x ∷ xs) e =
    let split = both (nat_eq c x) (pointwise nat_eq h (take (length h) xs)) e in
    let behind = rest_of h xs split.1 in
    let same : c ≡ x = eqb-true c x split.0 in
    (behind.0, let t = behind.1 in let u : x ∷ xs ≡ c ∷ (h ++ behind.0) = cc in u)

-- what a gap may begin with
opens_gap : ℕ → Bool
opens_gap c = is_blank c || nat_eq c 59

no : (k c : ℕ) → opens_gap k ≡ false → k ≡ c → opens_gap c ≡ true → ⊥
no k c f e h = let t : opens_gap c ≡ false = subst (λ (n : ℕ). opens_gap n ≡ false) e f in cc

record IsSplit (a : List ℕ) (c : ℕ) (m : List ℕ) : Type 0 where
  front : a ≡ codes "(stm"
  byte : c ≡ 32
  behind : m ≡ codes "3)"

-- the only place in it where a gap may begin is before the 3
inside : (a : List ℕ) (c : ℕ) (m : List ℕ) → codes "(stm 3)" ≡ a ++ (c ∷ m) → opens_gap c ≡ true → IsSplit a c m
unfolding opens_gap
inside [] c m e h = absurd (no 40 c refl (let t : 40 ≡ c = cc in t) h)
inside (p ∷ []) c m e h = absurd (no 115 c refl (let t : 115 ≡ c = cc in t) h)
inside (p ∷ (q ∷ [])) c m e h = absurd (no 116 c refl (let t : 116 ≡ c = cc in t) h)
inside (p ∷ (q ∷ (r ∷ []))) c m e h = absurd (no 109 c refl (let t : 109 ≡ c = cc in t) h)
inside (p ∷ (q ∷ (r ∷ (s ∷ [])))) c m e h =
    record {
      front = let t : p ∷ (q ∷ (r ∷ (s ∷ []))) ≡ 40 ∷ (115 ∷ (116 ∷ (109 ∷ []))) = cc in t;
      byte = let t : c ≡ 32 = cc in t;
      behind = let t : m ≡ 51 ∷ (41 ∷ []) = cc in t;
    }
inside (p ∷ (q ∷ (r ∷ (s ∷ (u ∷ []))))) c m e h = absurd (no 51 c refl (let t : 51 ≡ c = cc in t) h)
inside (p ∷ (q ∷ (r ∷ (s ∷ (u ∷ (v ∷ [])))))) c m e h = absurd (no 41 c refl (let t : 41 ≡ c = cc in t) h)
inside (p ∷ (q ∷ (r ∷ (s ∷ (u ∷ (v ∷ (w ∷ more))))))) c m e h = absurd (omega (arith, ap length e, length-append more (c ∷ m)))

-- without a gap there the two words are one
one_word : (rest : List ℕ) → SplitsNoToken (codes "(stm") (51 ∷ (41 ∷ rest)) → ⊥
one_word rest s =
    let left : tokens (codes "(stm" ++ (51 ∷ (41 ∷ rest))) ≡ Opens ∷ (atom (codes "stm3") ∷ tokens (41 ∷ rest)) =
    tokens-open (115 ∷ (116 ∷ (109 ∷ (51 ∷ (41 ∷ rest))))) ∙ ap (λ (ts : List Lexeme). Opens ∷ ts) (tokens-text 115 (116 ∷ (109 ∷ (51 ∷ []))) (41 ∷ rest) refl refl) in
    let first : tokens (codes "(stm") ≡ Opens ∷ (atom (codes "stm") ∷ []) =
    tokens-open (115 ∷ (116 ∷ (109 ∷ []))) ∙ ap (λ (ts : List Lexeme). Opens ∷ ts) (tokens-text 115 (116 ∷ (109 ∷ [])) [] refl refl ∙ ap (λ (ts : List Lexeme). atom (codes "stm") ∷ ts) tokens-nil) in
    let second : tokens (51 ∷ (41 ∷ rest)) ≡ atom (51 ∷ []) ∷ tokens (41 ∷ rest) = tokens-text 51 [] (41 ∷ rest) refl refl in
    omega (arith, ap length (sym left ∙ s), length-append (tokens (codes "(stm")) (tokens (51 ∷ (41 ∷ rest))), ap length first, ap length second)

after_gap : (r b rest : List ℕ) → IsGap r → r ++ b ≡ 51 ∷ (41 ∷ rest) → b ≡ 51 ∷ (41 ∷ rest)
unfolding opens_gap
after_gap r b rest Nothing e = e
after_gap r b rest (Blank k more blank g) e = absurd (let t : k ≡ 51 = (parts e).0 in let u : is_blank 51 ≡ true = subst (λ (n : ℕ). is_blank n ≡ true) t blank in let v : false ≡ true = u in cc)
after_gap r b rest (Comment text more line g) e = absurd (omega (arith, (parts e).0))

blank_opens : (k : ℕ) → is_blank k ≡ true → opens_gap k ≡ true
unfolding opens_gap
blank_opens k blank = rw blank refl

no_gap : (a gap b rest : List ℕ) (c : ℕ) (m : List ℕ) → IsGap gap → SplitsNoToken a b → codes "(stm 3)" ≡ a ++ (c ∷ m) → gap ++ b ≡ c ∷ (m ++ rest) → gap ≡ []
unfolding opens_gap
no_gap a gap b rest c m Nothing s f e = refl
no_gap a gap b rest c m (Blank k r blank g) s f e =
    let k_is : k ≡ c = (parts e).0 in
    let opened : opens_gap c ≡ true = subst (λ (n : ℕ). opens_gap n ≡ true) k_is (blank_opens k blank) in
    let is = inside a c m f opened in
    let behind : r ++ b ≡ m ++ rest = (parts e).1 in
    let b_is = after_gap r b rest g (behind ∙ ap (λ (l : List ℕ). l ++ rest) is.behind) in
    absurd (one_word rest (subst (λ (l : List ℕ). SplitsNoToken l (51 ∷ (41 ∷ rest))) is.front (subst (SplitsNoToken a) b_is s)))
no_gap a gap b rest c m (Comment text r line g) s f e =
    let c_is : 59 ≡ c = (parts e).0 in
    let is = inside a c m f (subst (λ (n : ℕ). opens_gap n ≡ true) c_is refl) in
    absurd (omega (arith, c_is, is.byte))

begins_still : (a gap b : List ℕ) → IsGap gap → SplitsNoToken a b → starts_with nat_eq (a ++ (gap ++ b)) (codes "(stm 3)") ≡ true
    → (gap ≡ []) ⊎ (starts_with nat_eq (a ++ b) (codes "(stm 3)") ≡ true)
begins_still a gap b g s h =
    let r = rest_of (codes "(stm 3)") (a ++ (gap ++ b)) h in
    elim (cut a (gap ++ b) (codes "(stm 3)") r.0 r.1) [
      | Behind more f ↦ inr (subst (λ (l : List ℕ). starts_with nat_eq (l ++ b) (codes "(stm 3)") ≡ true) (sym f) refl)
      | Inside c m f e ↦ inl (no_gap a gap b r.0 c m g s f e)
    ]

-- the limit of a file is not lowered where a gap is taken out
pub longest_still : (a gap b : List ℕ) → IsGap gap → SplitsNoToken a b → longest (a ++ (gap ++ b)) ≤ longest (a ++ b)
unfolding longest
longest_still a gap b g s = by_begin (starts_with nat_eq (a ++ (gap ++ b)) (codes "(stm 3)")) refl
  where
    limit : Bool → ℕ
    limit begins = if begins then 67108864 else 1048576

    least : (begins : Bool) → 1048576 ≤ limit begins
    least true = omega (arith)
    least false = omega (arith)

    by_begin : (begins : Bool) → starts_with nat_eq (a ++ (gap ++ b)) (codes "(stm 3)") ≡ begins → longest (a ++ (gap ++ b)) ≤ longest (a ++ b)
    by_begin false e = rw e (least (starts_with nat_eq (a ++ b) (codes "(stm 3)")))
    by_begin true e =
        elim (begins_still a gap b g s e) [
          | inl none ↦ subst (λ (l : List ℕ). longest (a ++ (l ++ b)) ≤ longest (a ++ b)) (sym none) (le_refl (longest (a ++ b)))
          | inr still ↦ rw (e, still) (le_refl 67108864)
        ]
