-- Names and integers have allowed bytes alone, and so have lines of them.
use Rattle.std.proofs.Common.{◌≡◌, ◌∙◌, ℕ, ◌≤◌, Bool, true, List, [], ◌∷◌, ◌++◌, refl, arith}
use Rattle.std.specs.Prelude.{codes}
use Rattle.std.specs.List.{list_all, flat_map, AllByRecursion}
use Rattle.std.proofs.lemmas.Bool.{and_parts, and_from}
use Rattle.std.proofs.lemmas.Bool.Decides.{nat_tests}
use Rattle.std.proofs.lemmas.Grind.{common_steps}
use Rattle.std.proofs.lemmas.List.Folds.{list_all-append}
use Rattle.txn_programs.specs.Names.{is_name, is_name_byte}
use Rattle.text_words.specs.Bytes.{is_allowed, is_int}
use Rattle.text_words.specs.Words.{line}
use Rattle.text_line_reader.specs.Words.{is_number}
use Rattle.text_line_reader.proofs.Numbers.{is_int_byte, name_bytes, int_bytes, number_is_int}

abbrev pub allowed : List ℕ → Bool
allowed bytes = list_all is_allowed bytes

between : (b : ℕ) → 32 ≤ b → b ≤ 126 → is_allowed b ≡ true
between b low high = grind (arith, nat_tests)

name_low : (b : ℕ) → is_name_byte b ≡ true → 32 ≤ b
name_low b h = grind (arith, common_steps)

name_high : (b : ℕ) → is_name_byte b ≡ true → b ≤ 126
name_high b h = grind (arith, common_steps)

int_low : (b : ℕ) → is_int_byte b ≡ true → 32 ≤ b
int_low b h = grind (arith, common_steps)

int_high : (b : ℕ) → is_int_byte b ≡ true → b ≤ 126
int_high b h = grind (arith, common_steps)

all_by : (p : ℕ → Bool) → ((b : ℕ) → p b ≡ true → is_allowed b ≡ true) → (bs : List ℕ) → list_all p bs ≡ true → allowed bs ≡ true
all_by p one [] h = refl
all_by p one (b ∷ bs) h =
    let q = and_parts (p b) (list_all p bs) h in
    and_from _ _ (one b q.0) (all_by p one bs q.1)

pub name_allowed : (text : List ℕ) → is_name text ≡ true → allowed text ≡ true
name_allowed text h = all_by is_name_byte (λ b q. between b (name_low b q) (name_high b q)) text (name_bytes text h)

pub int_allowed : (text : List ℕ) → is_int text ≡ true → allowed text ≡ true
int_allowed text h = all_by is_int_byte (λ b q. between b (int_low b q) (int_high b q)) text (int_bytes text h)

pub number_allowed : (text : List ℕ) → is_number text ≡ true → allowed text ≡ true
number_allowed text h = int_allowed text (number_is_int text h)

pub two : (a b : List ℕ) → allowed a ≡ true → allowed b ≡ true → allowed (a ++ b) ≡ true
two a b p q = list_all-append is_allowed a b ∙ and_from _ _ p q

abbrev pub words_allowed : List (List ℕ) → Bool
words_allowed words = list_all allowed words

pub line_allowed : (words : List (List ℕ)) → words_allowed words ≡ true → allowed (line words) ≡ true
line_allowed [] h = refl
line_allowed (word ∷ []) h = two word (codes "\n") (and_parts (allowed word) true h).0 refl
line_allowed (word ∷ next ∷ words) h =
    let p = and_parts (allowed word) (words_allowed (next ∷ words)) h in
    two word (codes " " ++ line (next ∷ words)) p.0 (line_allowed (next ∷ words) p.1)

pub lines_allowed : {A : Type 0} (words : A → List (List ℕ)) (Is : A → Type 0) → ((x : A) → Is x → words_allowed (words x) ≡ true) → (xs : List A) → AllByRecursion Is xs → allowed (flat_map (λ x. line (words x)) xs) ≡ true
lines_allowed words Is one [] h = refl
lines_allowed words Is one (x ∷ xs) h = two (line (words x)) (flat_map (λ y. line (words y)) xs) (line_allowed (words x) (one x h.0)) (lines_allowed words Is one xs h.1)
