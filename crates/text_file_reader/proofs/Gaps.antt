-- What may be added between two tokens, by cutting bytes into chunks: one for each token, blank and comment.
use Rattle.std.proofs.Common.{◌≡◌, ◌∙◌, ℕ, zero, suc, ◌≤◌, Bool, true, false, List, [], ◌∷◌, ◌++◌, length, drop, refl, sym, ap, subst, arith, append_assoc, length-append, inl, inr}
use Rattle.std.specs.List.{prefix_len, list_all}
use Rattle.std.proofs.lemmas.List.{append-nil, append_cancel_left, drop_at}
use Rattle.std.proofs.lemmas.List.Folds.{list_all-append}
use Rattle.std.proofs.lemmas.Bool.{and_from}
use Rattle.std.proofs.lemmas.Bool.Decides.{eqb_tells}
use Rattle.text_words.specs.Bytes.{is_atom_byte, is_in_line, is_blank}
use Rattle.text_words.specs.Tokens.{Lexeme, Opens, Closes, atom, tokens}
use Rattle.text_file_reader.specs.Gaps.{IsGap, Nothing, Blank, Comment, SplitsNoToken, Division}
use Rattle.text_words.proofs.Lexing.{stops, tokens-nil, tokens-open, tokens-close, tokens-comment, tokens-text, tokens-gap, tokens-line}

-- ---- bytes in chunks

-- the longest run of bytes that pass, and the others
record Cut (p : ℕ → Bool) (bytes : List ℕ) : Type 0 where
  run : List ℕ
  rest : List ℕ
  whole : run ++ rest ≡ bytes
  passes : list_all p run ≡ true
  ends : prefix_len p rest ≡ 0

cut-by : (p : ℕ → Bool) (b : ℕ) (bytes : List ℕ) (v : Bool) → p b ≡ v → Cut p bytes → Cut p (b ∷ bytes)
cut-by p b bytes true is c = record { run = b ∷ c.run; rest = c.rest; whole = ap (λ (x : List ℕ). b ∷ x) c.whole; passes = rw is c.passes; ends = c.ends }
cut-by p b bytes false is c = record { run = []; rest = b ∷ bytes; whole = refl; passes = refl; ends = rw is refl }

cut : (p : ℕ → Bool) (bytes : List ℕ) → Cut p bytes
cut p [] = record { run = []; rest = []; whole = refl; passes = refl; ends = refl }
cut p (b ∷ bytes) = cut-by p b bytes (p b) refl (cut p bytes)

data Chunks : List ℕ → Type 0 where
  none : Chunks []
  opening : (rest : List ℕ) → Chunks rest → Chunks (40 ∷ rest)
  closing : (rest : List ℕ) → Chunks rest → Chunks (41 ∷ rest)
  blank : (b : ℕ) (rest : List ℕ) → is_blank b ≡ true → Chunks rest → Chunks (b ∷ rest)
  comment : (text rest : List ℕ) → list_all is_in_line text ≡ true → prefix_len is_in_line rest ≡ 0 → Chunks rest → Chunks (59 ∷ (text ++ rest))
  word : (b : ℕ) (bs rest : List ℕ) → list_all is_atom_byte (b ∷ bs) ≡ true → prefix_len is_atom_byte rest ≡ 0 → Chunks rest → Chunks (b ∷ (bs ++ rest))

shorter : (p : ℕ → Bool) (bytes : List ℕ) (n : ℕ) (c : Cut p bytes) → length bytes ≤ n → length c.rest ≤ n
shorter p bytes n c le = let e = ap (λ (x : List ℕ). length x) c.whole in omega (arith, e, length-append c.run c.rest)

-- what a byte may begin
data Kind (b : ℕ) : Type 0 where
  of_word : is_atom_byte b ≡ true → Kind b
  of_blank : is_blank b ≡ true → Kind b
  of_opening : b ≡ 40 → Kind b
  of_closing : b ≡ 41 → Kind b
  of_comment : b ≡ 59 → Kind b

kind : (b : ℕ) → Kind b
kind b =
    elim (eqb_tells b 40) [
      | inl p ↦ of_opening p.1
      | inr p ↦ elim (eqb_tells b 41) [
        | inl q ↦ of_closing q.1
        | inr q ↦ elim (eqb_tells b 59) [
          | inl r ↦ of_comment r.1
          | inr r ↦ elim (eqb_tells b 10) [
            | inl s ↦ of_blank (rw s.0 refl)
            | inr s ↦ elim (eqb_tells b 32) [
              | inl t ↦ of_blank (rw (s.0, t.0) refl)
              | inr t ↦ of_word (rw (s.0, t.0, p.0, q.0, r.0) refl)
            ]
          ]
        ]
      ]
    ]

chunk : (b : ℕ) → Kind b → (bytes : List ℕ) → ((rest : List ℕ) → length rest ≤ length bytes → Chunks rest) → Chunks (b ∷ bytes)
chunk b (of_word h) bytes more =
    let c = cut is_atom_byte bytes in
    subst (λ (x : List ℕ). Chunks (b ∷ x)) c.whole (word b c.run c.rest (rw h c.passes) c.ends (more c.rest (shorter is_atom_byte bytes (length bytes) c (omega arith))))
chunk b (of_blank h) bytes more = blank b bytes h (more bytes (omega arith))
chunk b (of_opening e) bytes more = subst (λ (x : ℕ). Chunks (x ∷ bytes)) (sym e) (opening bytes (more bytes (omega arith)))
chunk b (of_closing e) bytes more = subst (λ (x : ℕ). Chunks (x ∷ bytes)) (sym e) (closing bytes (more bytes (omega arith)))
chunk b (of_comment e) bytes more =
    let c = cut is_in_line bytes in
    let here : Chunks (59 ∷ (c.run ++ c.rest)) = comment c.run c.rest c.passes c.ends (more c.rest (shorter is_in_line bytes (length bytes) c (omega arith))) in
    subst (λ (x : ℕ). Chunks (x ∷ bytes)) (sym e) (subst (λ (x : List ℕ). Chunks (59 ∷ x)) c.whole here)

chunks-within : (n : ℕ) (bytes : List ℕ) → length bytes ≤ n → Chunks bytes
chunks-within n [] le = none
chunks-within zero (b ∷ bytes) le = absurd (omega arith)
chunks-within (suc n) (b ∷ bytes) le = chunk b (kind b) bytes (λ rest shorter. chunks-within n rest (omega arith))

chunks : (bytes : List ℕ) → Chunks bytes
chunks bytes = chunks-within (length bytes) bytes (omega arith)

-- ---- the tokens of a chunk

-- a comment is nothing, up to where it ends
tokens-note : (text rest : List ℕ) → list_all is_in_line text ≡ true → prefix_len is_in_line rest ≡ 0 → tokens (59 ∷ (text ++ rest)) ≡ tokens rest
tokens-note text rest h stop =
    let n : prefix_len is_in_line (text ++ rest) ≡ length text = stops is_in_line text rest h stop in
    tokens-comment (text ++ rest) ∙ ap (λ (k : ℕ). tokens (drop k (text ++ rest))) n ∙ ap tokens (drop_at text rest (length text) refl)

-- what stops a run stops it with more behind
still : (p : ℕ → Bool) (b : ℕ) (bs more : List ℕ) → prefix_len p (b ∷ bs) ≡ 0 → prefix_len p (b ∷ more) ≡ 0
still p b bs more h = by (p b) refl
  where
    by : (v : Bool) → p b ≡ v → prefix_len p (b ∷ more) ≡ 0
    by true is = absurd (let h' = rw is at h in omega arith)
    by false is = rw is refl

-- a part of bytes whose run is stopped at once
at_front : (p : ℕ → Bool) (a b bytes : List ℕ) → a ++ b ≡ bytes → prefix_len p bytes ≡ 0 → prefix_len p a ≡ 0
at_front p [] b bytes e h = refl
at_front p (x ∷ a) b bytes e h = still p x (a ++ b) a (ap (prefix_len p) e ∙ h)

passes-append : (p : ℕ → Bool) (xs ys : List ℕ) → list_all p xs ≡ true → list_all p ys ≡ true → list_all p (xs ++ ys) ≡ true
passes-append p xs ys h k = list_all-append p xs ys ∙ and_from (list_all p xs) (list_all p ys) h k

-- ---- where bytes end

-- between tokens, inside a comment, or inside an atom
data IsEnd : List ℕ → Type 0 where
  apart : IsEnd []
  in_comment : (text : List ℕ) → list_all is_in_line text ≡ true → IsEnd (59 ∷ text)
  in_word : (b : ℕ) (bs : List ℕ) → list_all is_atom_byte (b ∷ bs) ≡ true → IsEnd (b ∷ bs)

record Ending (bytes : List ℕ) : Type 0 where
  front : List Lexeme
  last : List ℕ
  is_end : IsEnd last
  same : (more : List ℕ) → tokens (bytes ++ more) ≡ front ++ tokens (last ++ more)

ends-comment : (text rest : List ℕ) → list_all is_in_line text ≡ true → prefix_len is_in_line rest ≡ 0 → Ending rest → Ending (59 ∷ (text ++ rest))
ends-comment text [] h stop e = record { front = []; last = 59 ∷ text; is_end = in_comment text h; same = λ more. ap (λ (x : List ℕ). tokens ((59 ∷ x) ++ more)) (append-nil text) }
ends-comment text (r ∷ rest) h stop e = record {
  front = e.front;
  last = e.last;
  is_end = e.is_end;
  same = λ more. ap (λ (x : List ℕ). tokens (59 ∷ x)) (append_assoc text (r ∷ rest) more) ∙ tokens-note text ((r ∷ rest) ++ more) h (still is_in_line r rest (rest ++ more) stop) ∙ e.same more;
}

ends-word : (b : ℕ) (bs rest : List ℕ) → list_all is_atom_byte (b ∷ bs) ≡ true → prefix_len is_atom_byte rest ≡ 0 → Ending rest → Ending (b ∷ (bs ++ rest))
ends-word b bs [] h stop e = record { front = []; last = b ∷ bs; is_end = in_word b bs h; same = λ more. ap (λ (x : List ℕ). tokens ((b ∷ x) ++ more)) (append-nil bs) }
ends-word b bs (r ∷ rest) h stop e = record {
  front = atom (b ∷ bs) ∷ e.front;
  last = e.last;
  is_end = e.is_end;
  same = λ more. ap (λ (x : List ℕ). tokens (b ∷ x)) (append_assoc bs (r ∷ rest) more) ∙ tokens-text b bs ((r ∷ rest) ++ more) h (still is_atom_byte r rest (rest ++ more) stop) ∙ ap (λ (ts : List Lexeme). atom (b ∷ bs) ∷ ts) (e.same more);
}

ends : (bytes : List ℕ) → Chunks bytes → Ending bytes
ends bytes none = record { front = []; last = []; is_end = apart; same = λ more. refl }
ends bytes (opening rest ps) =
    let e = ends rest ps in
    record { front = Opens ∷ e.front; last = e.last; is_end = e.is_end; same = λ more. tokens-open (rest ++ more) ∙ ap (λ (ts : List Lexeme). Opens ∷ ts) (e.same more) }
ends bytes (closing rest ps) =
    let e = ends rest ps in
    record { front = Closes ∷ e.front; last = e.last; is_end = e.is_end; same = λ more. tokens-close (rest ++ more) ∙ ap (λ (ts : List Lexeme). Closes ∷ ts) (e.same more) }
ends bytes (blank b rest h ps) =
    let e = ends rest ps in
    record { front = e.front; last = e.last; is_end = e.is_end; same = λ more. tokens-gap b (rest ++ more) h ∙ e.same more }
ends bytes (comment text rest h stop ps) = ends-comment text rest h stop (ends rest ps)
ends bytes (word b bs rest h stop ps) = ends-word b bs rest h stop (ends rest ps)

-- ---- gaps

-- a gap in front of any bytes
gap-front : (gap b : List ℕ) → IsGap gap → tokens (gap ++ b) ≡ tokens b
gap-front gap b Nothing = refl
gap-front gap b (Blank x rest h g) = tokens-gap x (rest ++ b) h ∙ gap-front rest b g
gap-front gap b (Comment text rest h g) = ap (λ (x : List ℕ). tokens (59 ∷ x)) (append_assoc text (10 ∷ rest) b) ∙ tokens-line text (rest ++ b) h ∙ gap-front rest b g

blank-stops : (x : ℕ) (more : List ℕ) → is_blank x ≡ true → prefix_len is_atom_byte (x ∷ more) ≡ 0
blank-stops x more h = rw h refl

-- a gap in front of what stops an atom stops it
gap-stops : (gap b : List ℕ) → IsGap gap → prefix_len is_atom_byte b ≡ 0 → prefix_len is_atom_byte (gap ++ b) ≡ 0
gap-stops gap b Nothing stop = stop
gap-stops gap b (Blank x rest h g) stop = blank-stops x (rest ++ b) h
gap-stops gap b (Comment text rest h g) stop = refl

-- a gap behind an open comment, where the bytes behind it would stand apart
gap-note : (b : List ℕ) → ((text : List ℕ) → list_all is_in_line text ≡ true → tokens (59 ∷ (text ++ b)) ≡ tokens b)
    → (gap : List ℕ) → IsGap gap → (text : List ℕ) → list_all is_in_line text ≡ true → tokens (59 ∷ (text ++ (gap ++ b))) ≡ tokens b
gap-note b same gap Nothing text h = same text h
gap-note b same gap (Blank x rest k g) text h =
    elim (eqb_tells x 10) [
      | inl p ↦ rw p.1 (tokens-line text (rest ++ b) h ∙ gap-front rest b g)
      | inr p ↦
          let longer : list_all is_in_line (text ++ x ∷ []) ≡ true = passes-append is_in_line text (x ∷ []) h (rw p.0 refl) in
          ap (λ (y : List ℕ). tokens (59 ∷ y)) (sym (append_assoc text (x ∷ []) (rest ++ b))) ∙ gap-note b same rest g (text ++ x ∷ []) longer
    ]
gap-note b same gap (Comment note rest k g) text h =
    let longer : list_all is_in_line (text ++ 59 ∷ note) ≡ true = passes-append is_in_line text (59 ∷ note) h k in
    ap (λ (y : List ℕ). tokens (59 ∷ (text ++ (59 ∷ y)))) (append_assoc note (10 ∷ rest) b)
    ∙ ap (λ (y : List ℕ). tokens (59 ∷ y)) (sym (append_assoc text (59 ∷ note) (10 ∷ (rest ++ b))))
    ∙ tokens-line (text ++ 59 ∷ note) (rest ++ b) longer
    ∙ gap-front rest b g

-- where an open comment splits no token, its end does not matter
note-apart : (text b : List ℕ) → list_all is_in_line text ≡ true → SplitsNoToken (59 ∷ text) b → (more : List ℕ) → list_all is_in_line more ≡ true → tokens (59 ∷ (more ++ b)) ≡ tokens b
note-apart text b h undivided more k =
    let c = cut is_in_line b in
    note-runs more k ∙ sym (note-runs text h) ∙ undivided ∙ ap (λ (ts : List Lexeme). ts ++ tokens b) (ap (λ (x : List ℕ). tokens (59 ∷ x)) (sym (append-nil text)) ∙ tokens-note text [] h refl ∙ tokens-nil)
  where
    note-runs : (t : List ℕ) → list_all is_in_line t ≡ true → tokens (59 ∷ (t ++ b)) ≡ tokens (cut is_in_line b).rest
    note-runs t l =
        let c = cut is_in_line b in
        ap (λ (x : List ℕ). tokens (59 ∷ (t ++ x))) (sym c.whole) ∙ ap (λ (x : List ℕ). tokens (59 ∷ x)) (sym (append_assoc t c.run c.rest)) ∙ tokens-note (t ++ c.run) c.rest (passes-append is_in_line t c.run l c.passes) c.ends

-- where an atom splits no token, what follows it stops it
word-apart : (b : ℕ) (bs more : List ℕ) → list_all is_atom_byte (b ∷ bs) ≡ true → SplitsNoToken (b ∷ bs) more → prefix_len is_atom_byte more ≡ 0
word-apart b bs more h undivided = by (cut is_atom_byte more)
  where
    lone : tokens (b ∷ bs) ≡ atom (b ∷ bs) ∷ []
    lone = ap (λ (x : List ℕ). tokens (b ∷ x)) (sym (append-nil bs)) ∙ tokens-text b bs [] h refl ∙ ap (λ (ts : List Lexeme). atom (b ∷ bs) ∷ ts) tokens-nil

    merged : (x : ℕ) (xs rest : List ℕ) → (x ∷ xs) ++ rest ≡ more → list_all is_atom_byte (x ∷ xs) ≡ true → prefix_len is_atom_byte rest ≡ 0 → ⊥
    merged x xs rest whole passes stop =
        let one : tokens ((b ∷ bs) ++ more) ≡ atom (b ∷ (bs ++ x ∷ xs)) ∷ tokens rest =
        ap (λ (y : List ℕ). tokens ((b ∷ bs) ++ y)) (sym whole) ∙ ap (λ (y : List ℕ). tokens (b ∷ y)) (sym (append_assoc bs (x ∷ xs) rest)) ∙ tokens-text b (bs ++ x ∷ xs) rest (passes-append is_atom_byte (b ∷ bs) (x ∷ xs) h passes) stop in
        let two : tokens more ≡ atom (x ∷ xs) ∷ tokens rest = ap tokens (sym whole) ∙ tokens-text x xs rest passes stop in
        let all : atom (b ∷ (bs ++ x ∷ xs)) ∷ tokens rest ≡ atom (b ∷ bs) ∷ (atom (x ∷ xs) ∷ tokens rest) = sym one ∙ undivided ∙ ap (λ (ts : List Lexeme). ts ++ tokens more) lone ∙ ap (λ (ts : List Lexeme). atom (b ∷ bs) ∷ ts) two in
        let count = ap (λ (ts : List Lexeme). length ts) all in
        omega (arith, count)

    by-run : (run rest : List ℕ) → run ++ rest ≡ more → list_all is_atom_byte run ≡ true → prefix_len is_atom_byte rest ≡ 0 → prefix_len is_atom_byte more ≡ 0
    by-run [] rest whole passes stop = ap (prefix_len is_atom_byte) (sym whole) ∙ stop
    by-run (x ∷ xs) rest whole passes stop = absurd (merged x xs rest whole passes stop)

    by : Cut is_atom_byte more → prefix_len is_atom_byte more ≡ 0
    by c = by-run c.run c.rest c.whole c.passes c.ends

gap-behind : (last gap b : List ℕ) → IsEnd last → IsGap gap → SplitsNoToken last b → tokens (last ++ (gap ++ b)) ≡ tokens (last ++ b)
gap-behind last gap b apart g h = gap-front gap b g
gap-behind last gap b (in_comment text k) g h = let same = note-apart text b k h in gap-note b same gap g text k ∙ sym (same text k)
gap-behind last gap b (in_word x xs k) g h =
    let stop : prefix_len is_atom_byte b ≡ 0 = word-apart x xs b k h in
    tokens-text x xs (gap ++ b) k (gap-stops gap b g stop) ∙ ap (λ (ts : List Lexeme). atom (x ∷ xs) ∷ ts) (gap-front gap b g) ∙ sym (tokens-text x xs b k stop)

-- a gap between two parts that split no token
pub gap-between : (a gap b : List ℕ) → IsGap gap → SplitsNoToken a b → tokens (a ++ (gap ++ b)) ≡ tokens (a ++ b)
gap-between a gap b g h =
    let e = ends a (chunks a) in
    let alone : tokens a ≡ e.front ++ tokens e.last = ap tokens (sym (append-nil a)) ∙ e.same [] ∙ ap (λ (x : List ℕ). e.front ++ tokens x) (append-nil e.last) in
    let both : e.front ++ tokens (e.last ++ b) ≡ e.front ++ (tokens e.last ++ tokens b) = sym (e.same b) ∙ h ∙ ap (λ (ts : List Lexeme). ts ++ tokens b) alone ∙ append_assoc e.front (tokens e.last) (tokens b) in
    let there : SplitsNoToken e.last b = append_cancel_left e.front (tokens (e.last ++ b)) (tokens e.last ++ tokens b) both in
    e.same (gap ++ b) ∙ ap (λ (ts : List Lexeme). e.front ++ ts) (gap-behind e.last gap b e.is_end g there) ∙ sym (e.same b)

-- ---- comments at the end of a line

note-behind : (last text b : List ℕ) → IsEnd last → list_all is_in_line text ≡ true → prefix_len is_in_line b ≡ 0 → prefix_len is_atom_byte b ≡ 0 → tokens (last ++ (59 ∷ (text ++ b))) ≡ tokens (last ++ b)
note-behind last text b apart h line_stop word_stop = tokens-note text b h line_stop
note-behind last text b (in_comment more k) h line_stop word_stop =
    ap (λ (y : List ℕ). tokens (59 ∷ y)) (sym (append_assoc more (59 ∷ text) b))
    ∙ tokens-note (more ++ 59 ∷ text) b (passes-append is_in_line more (59 ∷ text) k h) line_stop
    ∙ sym (tokens-note more b k line_stop)
note-behind last text b (in_word x xs k) h line_stop word_stop =
    tokens-text x xs (59 ∷ (text ++ b)) k refl ∙ ap (λ (ts : List Lexeme). atom (x ∷ xs) ∷ ts) (tokens-note text b h line_stop) ∙ sym (tokens-text x xs b k word_stop)

note-last : (a text b : List ℕ) → list_all is_in_line text ≡ true → prefix_len is_in_line b ≡ 0 → prefix_len is_atom_byte b ≡ 0 → tokens (a ++ (59 ∷ (text ++ b))) ≡ tokens (a ++ b)
note-last a text b h line_stop word_stop =
    let e = ends a (chunks a) in
    e.same (59 ∷ (text ++ b)) ∙ ap (λ (ts : List Lexeme). e.front ++ ts) (note-behind e.last text b e.is_end h line_stop word_stop) ∙ sym (e.same b)

pub note-before_newline : (a text b : List ℕ) → list_all is_in_line text ≡ true → tokens (a ++ (59 ∷ (text ++ 10 ∷ b))) ≡ tokens (a ++ 10 ∷ b)
note-before_newline a text b h = note-last a text (10 ∷ b) h refl refl

pub note-at_end : (a text : List ℕ) → list_all is_in_line text ≡ true → tokens (a ++ 59 ∷ text) ≡ tokens a
note-at_end a text h =
    ap (λ (y : List ℕ). tokens (a ++ 59 ∷ y)) (sym (append-nil text)) ∙ note-last a text [] h refl refl ∙ ap tokens (append-nil a)

-- ---- places between tokens

headed : {t u : Lexeme} {ts us vs : List Lexeme} → t ∷ ts ≡ u ∷ us → {ws : List Lexeme} → vs ≡ ws → t ∷ vs ≡ u ∷ ws
headed h e = cc

tail : {t u : Lexeme} {ts us : List Lexeme} → t ∷ ts ≡ u ∷ us → ts ≡ us
tail h = cc

divided : (bytes : List ℕ) → Chunks bytes → (front back : List Lexeme) → tokens bytes ≡ front ++ back → Division bytes front back
divided bytes ps [] back e = record { first = []; second = bytes; whole = refl; in_front = tokens-nil; behind = e }
divided bytes none (t ∷ front) back e = absurd (let h = sym tokens-nil ∙ e in cc)
divided bytes (opening rest ps) (t ∷ front) back e =
    let h : Opens ∷ tokens rest ≡ t ∷ (front ++ back) = sym (tokens-open rest) ∙ e in
    let d = divided rest ps front back (tail h) in
    record { first = 40 ∷ d.first; second = d.second; whole = ap (λ (x : List ℕ). 40 ∷ x) d.whole; in_front = tokens-open d.first ∙ headed h d.in_front; behind = d.behind }
divided bytes (closing rest ps) (t ∷ front) back e =
    let h : Closes ∷ tokens rest ≡ t ∷ (front ++ back) = sym (tokens-close rest) ∙ e in
    let d = divided rest ps front back (tail h) in
    record { first = 41 ∷ d.first; second = d.second; whole = ap (λ (x : List ℕ). 41 ∷ x) d.whole; in_front = tokens-close d.first ∙ headed h d.in_front; behind = d.behind }
divided bytes (blank b rest h ps) (t ∷ front) back e =
    let d = divided rest ps (t ∷ front) back (sym (tokens-gap b rest h) ∙ e) in
    record { first = b ∷ d.first; second = d.second; whole = ap (λ (x : List ℕ). b ∷ x) d.whole; in_front = tokens-gap b d.first h ∙ d.in_front; behind = d.behind }
divided bytes (comment text rest h stop ps) (t ∷ front) back e =
    let d = divided rest ps (t ∷ front) back (sym (tokens-note text rest h stop) ∙ e) in
    record {
      first = 59 ∷ (text ++ d.first);
      second = d.second;
      whole = ap (λ (x : List ℕ). 59 ∷ x) (append_assoc text d.first d.second ∙ ap (λ (x : List ℕ). text ++ x) d.whole);
      in_front = tokens-note text d.first h (at_front is_in_line d.first d.second rest d.whole stop) ∙ d.in_front;
      behind = d.behind;
    }
divided bytes (word b bs rest k stop ps) (t ∷ front) back e =
    let h : atom (b ∷ bs) ∷ tokens rest ≡ t ∷ (front ++ back) = sym (tokens-text b bs rest k stop) ∙ e in
    let d = divided rest ps front back (tail h) in
    record {
      first = b ∷ (bs ++ d.first);
      second = d.second;
      whole = ap (λ (x : List ℕ). b ∷ x) (append_assoc bs d.first d.second ∙ ap (λ (x : List ℕ). bs ++ x) d.whole);
      in_front = tokens-text b bs d.first k (at_front is_atom_byte d.first d.second rest d.whole stop) ∙ headed h d.in_front;
      behind = d.behind;
    }

-- wherever the tokens are divided, the bytes are
pub divides : (bytes : List ℕ) (front back : List Lexeme) → tokens bytes ≡ front ++ back → Division bytes front back
divides bytes front back e = divided bytes (chunks bytes) front back e
