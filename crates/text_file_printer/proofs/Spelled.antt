-- Texts and the tokens that they are read as, whatever follows.
use Rattle.std.proofs.Common.{◌≡◌, ◌∙◌, ℕ, ◌<◌, true, List, [], ◌∷◌, ◌++◌, length, refl, sym, ap, subst, arith, append_assoc}
use Rattle.std.specs.Prelude.{codes}
use Rattle.std.specs.List.{list_all, prefix_len, flat_map, AllByRecursion}
use Rattle.std.proofs.lemmas.Bool.{and_from}
use Rattle.std.proofs.lemmas.List.{append-nil}
use Rattle.std.proofs.lemmas.List.Folds.{list_all-append}
use Rattle.text_words.specs.Bytes.{is_allowed, is_atom_byte}
use Rattle.text_words.specs.Tokens.{Lexeme, Opens, Closes, tokens, atom}
use Rattle.text_words.specs.Tokens as token
use Rattle.text_grammar.specs.Tree.{form}
use Rattle.text_file_printer.specs.Canonical.{form_text, spaced}
use Rattle.text_words.proofs.Lexing.{tokens-open, tokens-close, tokens-space, tokens-newline, tokens-text, tokens-nil}

-- no byte of an atom stands first
abbrev pub Ends : List ℕ → Type 0
Ends rest = prefix_len is_atom_byte rest ≡ 0

-- the text is an atom, which is this token
pub record IsWord (text : List ℕ) (t : Lexeme) : Type 0 where
  pub some : 0 < length text
  pub bytes : list_all is_atom_byte text ≡ true
  pub allowed : list_all is_allowed text ≡ true
  pub read : atom text ≡ t

-- the text is read as these tokens, where its last atom ends with it
pub record Reads (text : List ℕ) (ts : List Lexeme) : Type 0 where
  pub allowed : list_all is_allowed text ≡ true
  pub read : (rest : List ℕ) → Ends rest → tokens (text ++ rest) ≡ ts ++ tokens rest

-- and an atom before it ends there
pub record Follows (text : List ℕ) (ts : List Lexeme) : Type 0 where
  pub allowed : list_all is_allowed text ≡ true
  pub stops : (rest : List ℕ) → Ends rest → Ends (text ++ rest)
  pub read : (rest : List ℕ) → Ends rest → tokens (text ++ rest) ≡ ts ++ tokens rest

-- whole lines, read as these tokens
pub record Lines (text : List ℕ) (ts : List Lexeme) : Type 0 where
  pub allowed : list_all is_allowed text ≡ true
  pub read : (rest : List ℕ) → tokens (text ++ rest) ≡ ts ++ tokens rest

allowed-append : (a b : List ℕ) → list_all is_allowed a ≡ true → list_all is_allowed b ≡ true → list_all is_allowed (a ++ b) ≡ true
allowed-append a b p q = list_all-append is_allowed a b ∙ and_from _ _ p q

word_read : (text rest : List ℕ) (t : Lexeme) → IsWord text t → Ends rest → tokens (text ++ rest) ≡ t ∷ tokens rest
word_read [] rest t w e = absurd (let h = w.some in omega arith)
word_read (b ∷ bs) rest t w e = tokens-text b bs rest w.bytes e ∙ ap (λ (u : Lexeme). u ∷ tokens rest) w.read

pub word_reads : (text : List ℕ) (t : Lexeme) → IsWord text t → Reads text (t ∷ [])
word_reads text t w = record { allowed = w.allowed; read = λ rest e. word_read text rest t w e }

-- an empty list
pub empty_reads : Reads (codes "()") (Opens ∷ Closes ∷ [])
empty_reads = record { allowed = refl; read = λ rest e. tokens-open (41 ∷ rest) ∙ ap (λ (x : List Lexeme). Opens ∷ x) (tokens-close rest) }

pub spaced_follows : (text : List ℕ) (ts : List Lexeme) → Reads text ts → Follows (spaced text) ts
spaced_follows text ts r =
    record {
      allowed = r.allowed;
      stops = λ rest e. refl;
      read = λ rest e. tokens-space (text ++ rest) ∙ r.read rest e;
    }

pub none_follows : Follows [] []
none_follows = record { allowed = refl; stops = λ rest e. e; read = λ rest e. refl }

pub both_follow : (a b : List ℕ) (ts us : List Lexeme) → Follows a ts → Follows b us → Follows (a ++ b) (ts ++ us)
both_follow a b ts us p q =
    record {
      allowed = allowed-append a b p.allowed q.allowed;
      stops = λ rest e. subst Ends (sym (append_assoc a b rest)) (p.stops (b ++ rest) (q.stops rest e));
      read = λ rest e. ap tokens (append_assoc a b rest) ∙ p.read (b ++ rest) (q.stops rest e)
          ∙ ap (λ (us : List Lexeme). ts ++ us) (q.read rest e) ∙ sym (append_assoc ts us (tokens rest));
    }

form_read : (word parts : List ℕ) (ts : List Lexeme) → IsWord word (token.Name word) → Follows parts ts → (rest : List ℕ) → tokens (form_text word parts ++ rest) ≡ form word ts ++ tokens rest
form_read word parts ts w p rest =
    let end = 41 ∷ rest in
    let text : form_text word parts ++ rest ≡ 40 ∷ (word ++ (parts ++ end)) =
    ap (λ (x : List ℕ). 40 ∷ x) (append_assoc word (parts ++ (41 ∷ [])) rest ∙ ap (λ (x : List ℕ). word ++ x) (append_assoc parts (41 ∷ []) rest)) in
    let inside : tokens (parts ++ end) ≡ ts ++ (Closes ∷ tokens rest) = p.read end refl ∙ ap (λ (x : List Lexeme). ts ++ x) (tokens-close rest) in
    let spelled : form word ts ++ tokens rest ≡ Opens ∷ token.Name word ∷ (ts ++ (Closes ∷ tokens rest)) =
    ap (λ (x : List Lexeme). Opens ∷ token.Name word ∷ x) (append_assoc ts (Closes ∷ []) (tokens rest)) in
    ap tokens text ∙ tokens-open (word ++ (parts ++ end))
    ∙ ap (λ (x : List Lexeme). Opens ∷ x) (word_read word (parts ++ end) (token.Name word) w (p.stops end refl) ∙ ap (λ (x : List Lexeme). token.Name word ∷ x) inside)
    ∙ sym spelled

pub form_reads : (word parts : List ℕ) (ts : List Lexeme) → IsWord word (token.Name word) → Follows parts ts → Reads (form_text word parts) (form word ts)
form_reads word parts ts w p =
    record {
      allowed = allowed-append word (parts ++ (41 ∷ [])) w.allowed (allowed-append parts (41 ∷ []) p.allowed refl);
      read = λ rest e. form_read word parts ts w p rest;
    }

pub line_of : (text : List ℕ) (ts : List Lexeme) → Reads text ts → Lines (text ++ codes "\n") ts
line_of text ts r =
    record {
      allowed = allowed-append text (10 ∷ []) r.allowed refl;
      read = λ rest. ap tokens (append_assoc text (10 ∷ []) rest) ∙ r.read (10 ∷ rest) refl ∙ ap (λ (x : List Lexeme). ts ++ x) (tokens-newline rest);
    }

pub none_lines : Lines [] []
none_lines = record { allowed = refl; read = λ rest. refl }

pub both_lines : (a b : List ℕ) (ts us : List Lexeme) → Lines a ts → Lines b us → Lines (a ++ b) (ts ++ us)
both_lines a b ts us p q =
    record {
      allowed = allowed-append a b p.allowed q.allowed;
      read = λ rest. ap tokens (append_assoc a b rest) ∙ p.read (b ++ rest)
          ∙ ap (λ (us : List Lexeme). ts ++ us) (q.read rest) ∙ sym (append_assoc ts us (tokens rest));
    }

-- the lines of a list
pub lines_of : {X : Type 0} (f : X → List ℕ) (g : X → List Lexeme) (P : X → Type 0) → ((x : X) → P x → Lines (f x) (g x)) → (xs : List X) → AllByRecursion P xs → Lines (flat_map f xs) (flat_map g xs)
lines_of f g P one [] h = none_lines
lines_of f g P one (x ∷ xs) h = both_lines (f x) (flat_map f xs) (g x) (flat_map g xs) (one x h.0) (lines_of f g P one xs h.1)

-- whole lines spell their tokens
pub spelled_by : (text : List ℕ) (ts : List Lexeme) → Lines text ts → tokens text ≡ ts
spelled_by text ts l = ap tokens (sym (append-nil text)) ∙ l.read [] ∙ ap (λ (x : List Lexeme). ts ++ x) tokens-nil ∙ append-nil ts
