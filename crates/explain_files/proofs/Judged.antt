-- A walk over the tokens of a text, each of which is so until one is found that is not.
use Rattle.std.proofs.Common.{◌≡◌, ℕ, ◌≤◌, List, [], ◌∷◌, ◌++◌, length, take, drop, reverse, Some, refl, sym, ap, subst, ◌∙◌, arith}
use Rattle.std.proofs.lemmas.Grind.{common_steps}
use Rattle.std.proofs.lemmas.List.{append-nil}
use Rattle.text_words.specs.Tokens.{Lexeme, tokens}
use Rattle.text_words.specs.Tokens as token
use Rattle.text_grammar.specs.declared.file.FileForm.{FileForm}
use Rattle.explain_files.specs.declared.wanted.Role.{Role}
use Rattle.explain_files.specs.declared.wanted.Role.TheVariants as role
use Rattle.explain_files.specs.declared.wanted.NameUse.{NameUse}
use Rattle.explain_files.specs.Roles.{role_at, role_behind, form_of}
use Rattle.explain_files.specs.Judging.{IsNext, OfToken, Saying, EachToken, AllTokens, IsRight, IsFirstSaid}
use Rattle.explain_files.specs.Declarations.{DoesNotDeclare, IsDeclared}
use Rattle.explain_files.specs.Tokens.{IsApart}
use Rattle.text_words.proofs.Lexing.{tokens-nil}
use Rattle.explain_files.proofs.Cuts.{nothing_apart}

-- the walk of a file of this form has come to a place, knows what the next token is for, and has seen this of those before it, each of which is so
pub record Walked {K : Type 0} (P : OfToken) (form : FileForm) (seen : List Lexeme → K) (bytes : List ℕ) (at : ℕ) (used : Role) (state : K) : Type 0 where
  pub bound : at ≤ length bytes
  pub apart : IsApart bytes at
  pub before : List Lexeme
  pub front : tokens (take at bytes) ≡ reverse before
  pub parts : tokens bytes ≡ reverse before ++ tokens (drop at bytes)
  pub used_is : used ≡ role_at form before
  pub state_is : state ≡ seen before
  pub each : EachToken P before (tokens (drop at bytes))

pub begun : {K : Type 0} (P : OfToken) (form : FileForm) (seen : List Lexeme → K) (bytes : List ℕ) (state : K) → state ≡ seen [] → Walked P form seen bytes 0 role.Value state
begun P form seen bytes state e = record { bound = omega arith; apart = nothing_apart bytes; before = []; front = tokens-nil; parts = refl; used_is = refl; state_is = e; each = tt }

pub onto : (before : List Lexeme) (t : Lexeme) (ts : List Lexeme) → reverse (t ∷ before) ++ ts ≡ reverse before ++ t ∷ ts
onto before t ts = grind (arith, common_steps)

split : {bytes : List ℕ} (before : List Lexeme) (t : Lexeme) (from place next : ℕ) → tokens bytes ≡ reverse before ++ tokens (drop from bytes) → IsNext bytes from place next t → tokens bytes ≡ reverse before ++ t ∷ tokens (drop next bytes)
split before t from place next e n = e ∙ ap (λ (us : List Lexeme). reverse before ++ us) (n.same ∙ n.token)

-- the tokens before the place, and before the next
front_here : {bytes : List ℕ} (before : List Lexeme) (t : Lexeme) (from place next : ℕ) → tokens (take from bytes) ≡ reverse before → IsNext bytes from place next t → tokens (take place bytes) ≡ reverse before
front_here before t from place next e n = n.before ∙ e

front_more : {bytes : List ℕ} (before : List Lexeme) (t : Lexeme) (from place next : ℕ) → tokens (take from bytes) ≡ reverse before → IsNext bytes from place next t → tokens (take next bytes) ≡ reverse (t ∷ before)
front_more before t from place next e n =
    n.one_more ∙ ap (λ (us : List Lexeme). us ++ t ∷ []) (front_here before t from place next e n) ∙ sym (onto before t []) ∙ append-nil (reverse (t ∷ before))

-- the tokens from a place on are the next one, and those behind it
next_tokens : {bytes : List ℕ} (t : Lexeme) (from place next : ℕ) → IsNext bytes from place next t → tokens (drop from bytes) ≡ t ∷ tokens (drop next bytes)
next_tokens t from place next n = n.same ∙ n.token

each_here : {bytes : List ℕ} (P : OfToken) (before : List Lexeme) (t : Lexeme) (from place next : ℕ) → EachToken P before (tokens (drop from bytes)) → IsNext bytes from place next t → EachToken P before (t ∷ tokens (drop next bytes))
each_here P before t from place next h n = subst (EachToken P before) (next_tokens t from place next n) h

pub goes_on : {K : Type 0} (P : OfToken) (form : FileForm) (seen : List Lexeme → K) (bytes : List ℕ) (from place next : ℕ) (used more : Role) (state new : K) (t : Lexeme)
    → (w : Walked P form seen bytes from used state) → IsNext bytes from place next t → P w.before t (tokens (drop next bytes)) → more ≡ role_behind form used t → new ≡ seen (t ∷ w.before)
    → Walked P form seen bytes next more new
goes_on P form seen bytes from place next used more state new t w n so e f =
    record {
      bound = n.bound;
      apart = n.apart;
      before = t ∷ w.before;
      front = front_more w.before t from place next w.front n;
      parts = split w.before t from place next w.parts n ∙ sym (onto w.before t (tokens (drop next bytes)));
      used_is = e ∙ ap (λ (r : Role). role_behind form r t) w.used_is;
      state_is = f;
      each = (so, each_here P w.before t from place next w.each n);
    }

pub found : {F K : Type 0} (fault : Saying F) (form : FileForm) (seen : List Lexeme → K) (bytes : List ℕ) (from place next : ℕ) (used : Role) (state : K) (t : Lexeme) (said : F)
    → (w : Walked (IsRight fault) form seen bytes from used state) → IsNext bytes from place next t → fault w.before t (tokens (drop next bytes)) ≡ Some said → IsFirstSaid fault bytes place said
found fault form seen bytes from place next used state t said w n e =
    record {
      here = n.here;
      before = w.before;
      token = t;
      behind = tokens (drop next bytes);
      front = front_here w.before t from place next w.front n;
      at = n.token;
      wrong = e;
      first = each_here (IsRight fault) w.before t from place next w.each n;
    }

-- where no token is left, each was so
pub ended : {K : Type 0} (P : OfToken) (form : FileForm) (seen : List Lexeme → K) (bytes : List ℕ) (at : ℕ) (used : Role) (state : K) → Walked P form seen bytes at used state → tokens (drop at bytes) ≡ [] → AllTokens P bytes
ended P form seen bytes at used state w e =
    record {
      before = w.before;
      parts = w.parts ∙ ap (λ (us : List Lexeme). reverse w.before ++ us) e ∙ append-nil (reverse w.before);
      each = subst (EachToken P w.before) e w.each;
    }

-- ---- a walk to a declaration

abbrev pub nothing_seen : List Lexeme → Unit {0}
nothing_seen before = tt

pub on_declaration : (bytes : List ℕ) (from place next : ℕ) (used : Role) (declared : NameUse) (t : Lexeme) (text : List ℕ)
    → Walked (DoesNotDeclare (form_of (tokens bytes)) declared text) (form_of (tokens bytes)) nothing_seen bytes from used tt → IsNext bytes from place next t → used ≡ role.Name declared → t ≡ token.Name text
    → IsDeclared bytes place declared text
on_declaration bytes from place next used declared t text w n u e =
    let P = DoesNotDeclare (form_of (tokens bytes)) declared text in
    record {
      here = n.here;
      before = w.before;
      behind = tokens (drop next bytes);
      front = front_here w.before t from place next w.front n;
      at = n.token ∙ ap (λ (x : Lexeme). x ∷ tokens (drop next bytes)) e;
      for = sym w.used_is ∙ u;
      first = subst (λ (x : Lexeme). EachToken P w.before (x ∷ tokens (drop next bytes))) e (each_here P w.before t from place next w.each n);
    }

pub does_not_declare : (form : FileForm) (declared : NameUse) (text : List ℕ) (before : List Lexeme) (used : Role) (t : Lexeme) (behind : List Lexeme) → used ≡ role_at form before → (used ≡ role.Name declared → t ≡ token.Name text → ⊥)
    → DoesNotDeclare form declared text before t behind
does_not_declare form declared text before used t behind u h r e = h (u ∙ r) e
