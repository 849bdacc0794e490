-- The text of lines, and the lines of the text.
use Rattle.std.proofs.Common.{◌≡◌, ◌∙◌, ℕ, Bool, true, List, [], ◌∷◌, ◌++◌, map, refl, sym, ap, append_assoc}
use Rattle.std.specs.List.{list_all, flat_map, AllByRecursion}
use Rattle.std.proofs.lemmas.Bool.{and_from}
use Rattle.text_words.specs.Words.{line}
use Rattle.text_line_reader.specs.Lines.{Line, Whole, lines}
use Rattle.text_line_reader.proofs.Parting.{lacks, lines_text}
use Rattle.text_line_reader.proofs.Steps.{text_of, text_lacks}
use Rattle.text_line_reader.proofs.Rows.{line_of}

-- no word has a newline
abbrev pub all_lack : List (List ℕ) → Bool
all_lack words = list_all (lacks 10) words

line_text : (word : List ℕ) (words rest : List (List ℕ)) → line (word ∷ words) ≡ text_of (word ∷ words) ++ 10 ∷ []
line_text word [] rest = refl
line_text word (next ∷ words) rest =
    ap (λ (t : List ℕ). word ++ 32 ∷ t) (line_text next words rest) ∙ sym (append_assoc word (32 ∷ text_of (next ∷ words)) (10 ∷ []))

-- the bytes make these lines, whatever follows
pub record Makes (bytes : List ℕ) (ls : List Line) : Type 0 where
  pub by : (rest : List ℕ) → lines (bytes ++ rest) ≡ ls ++ lines rest

pub one_line : (word : List ℕ) (words : List (List ℕ)) → all_lack (word ∷ words) ≡ true → Makes (line (word ∷ words)) (Whole (text_of (word ∷ words)) ∷ [])
one_line word words h =
    record {
      by = λ rest. ap (λ (t : List ℕ). lines (t ++ rest)) (line_text word words []) ∙ ap lines (append_assoc (text_of (word ∷ words)) (10 ∷ []) rest) ∙ lines_text (text_of (word ∷ words)) rest (text_lacks 10 refl (word ∷ words) h);
    }

pub two_parts : (a b : List ℕ) (x y : List Line) → Makes a x → Makes b y → Makes (a ++ b) (x ++ y)
two_parts a b x y p q =
    record {
      by = λ rest. ap lines (append_assoc a b rest) ∙ p.by (b ++ rest) ∙ ap (λ (z : List Line). x ++ z) (q.by rest) ∙ sym (append_assoc x y (lines rest));
    }

pub no_lines : Makes [] []
no_lines = record { by = λ rest. refl }

pub each_line : {A : Type 0} (words : A → List (List ℕ)) (Is : A → Type 0) → ((x : A) → Is x → Makes (line (words x)) (line_of words x ∷ [])) → (xs : List A) → AllByRecursion Is xs → Makes (flat_map (λ x. line (words x)) xs) (map (line_of words) xs)
each_line words Is one [] h = no_lines
each_line words Is one (x ∷ xs) h = two_parts (line (words x)) (flat_map (λ y. line (words y)) xs) (line_of words x ∷ []) (map (line_of words) xs) (one x h.0) (each_line words Is one xs h.1)

pub three : (a b c : List ℕ) → lacks 10 a ≡ true → lacks 10 b ≡ true → lacks 10 c ≡ true → all_lack (a ∷ b ∷ c ∷ []) ≡ true
three a b c p q r = and_from _ _ p (and_from _ _ q (and_from _ _ r refl))
