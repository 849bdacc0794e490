-- What is wanted on a stack: it can always be ended, and declarations stand at the bottom alone.
use Rattle.std.proofs.Common.{◌≡◌, ℕ, ◌-◌, Bool, true, false, cond, eqb, List, [], ◌∷◌, ◌++◌, Option, Some, None, refl, sym, ap, subst, ◌∙◌}
use Rattle.std.specs.Prelude.{ℤ, codes}
use Rattle.std.specs.Result.{result_ok}
use Rattle.std.specs.Str.{bytes_eq}
use Rattle.text_words.specs.Tokens.{Lexeme, Opens, Closes}
use Rattle.text_words.specs.Tokens as token
use Rattle.text_grammar.specs.declared.words.Head.{Head}
use Rattle.text_grammar.specs.declared.words.Head.TheVariants as head
use Rattle.text_grammar.specs.declared.words.Test.{Test}
use Rattle.text_grammar.specs.declared.words.Test.TheVariants as test
use Rattle.text_grammar.specs.declared.words.Keyword.{Keyword}
use Rattle.text_grammar.specs.declared.words.Keyword.TheVariants as keyword
use Rattle.text_grammar.specs.Reading.{form_numbered}
use Rattle.text_grammar.specs.declared.file.FileForm.{FileForm}
use Rattle.text_grammar.specs.declared.file.FileForm.TheVariants.{One, Two, Three}
use Rattle.explain_files.specs.declared.wanted.Kind.{Kind}
use Rattle.explain_files.specs.declared.wanted.Kind.TheVariants as kind
use Rattle.explain_files.specs.declared.wanted.Section.{Section}
use Rattle.explain_files.specs.declared.wanted.Section.TheVariants as section
use Rattle.explain_files.specs.declared.wanted.Wanted.{Wanted}
use Rattle.explain_files.specs.declared.wanted.Wanted.TheVariants as want
use Rattle.explain_files.specs.Forms.{Wants, deeper, behind_head, behind_test, behind_keyword, tx_wants, run_end, form_in, behind_kind, behind_part, part_behind, kind_of, behind_stm, behind_declared, behind_form, behind_open, behind_close, behind_word, behind_int, behind}
use Rattle.explain_files.specs.Wanting.{Left, ◌▷◌, none_left, from_part, read_one, read_all, onto}
use Rattle.explain_files.proofs.Endings.{finish, part_end, word_ends, number_ends, simple_ends, expr_ends, head_ends, cond_ends, test_ends, stmt_ends, keyword_ends, parts_ends, list_ends, parameters_ends, numbers_ends}

-- declarations are wanted at the bottom, and nowhere else
abbrev pub IsBottomed : List Wanted → Type 0
IsBottomed [] = ⊥
IsBottomed (want.Declarations part ∷ below) = below ≡ []
IsBottomed (want.Word part ∷ below) = below ≡ []
IsBottomed (want.FormNumber ∷ below) = below ≡ []
IsBottomed (want.Close ∷ below) = IsBottomed below
IsBottomed (want.Name used ∷ below) = IsBottomed below
IsBottomed (want.Number used ∷ below) = IsBottomed below
IsBottomed (want.Expr form depth ∷ below) = IsBottomed below
IsBottomed (want.Head form depth ∷ below) = IsBottomed below
IsBottomed (want.Cond form depth ∷ below) = IsBottomed below
IsBottomed (want.Test form depth ∷ below) = IsBottomed below
IsBottomed (want.Stmt form depth ∷ below) = IsBottomed below
IsBottomed (want.Keyword form depth ∷ below) = IsBottomed below
IsBottomed (want.Parts form depth ∷ below) = IsBottomed below
IsBottomed (want.List ∷ below) = IsBottomed below
IsBottomed (want.Parameters ∷ below) = IsBottomed below
IsBottomed (want.Numbers used ∷ below) = IsBottomed below

-- what is put on a stack keeps that
abbrev KeepsBottom : List Wanted → Wants → Type 0
KeepsBottom below None = Unit {0}
KeepsBottom below (Some more) = IsBottomed (onto more below)

deeper_keeps : (depth : ℕ) (below more : List Wanted) → IsBottomed (onto more below) → KeepsBottom below (deeper depth more)
deeper_keeps depth below more h = chosen (eqb depth 0)
  where
    chosen : (b : Bool) → KeepsBottom below (cond b None (Some more))
    chosen true = tt
    chosen false = h

head_keeps : (form : FileForm) (depth : ℕ) (below : List Wanted) (o : Option Head) → IsBottomed below → KeepsBottom below (behind_head form depth o)
head_keeps form depth below None h = tt
head_keeps form depth below (Some (head.Operates op)) h = h
head_keeps form depth below (Some head.Picks) h = h
head_keeps form depth below (Some (head.Folds fold)) h = h

test_keeps : (form : FileForm) (depth : ℕ) (below : List Wanted) (o : Option Test) → IsBottomed below → KeepsBottom below (behind_test form depth o)
test_keeps form depth below None h = tt
test_keeps form depth below (Some (test.Compares op)) h = h
test_keeps form depth below (Some test.Negates) h = deeper_keeps depth below (want.Close ∷ want.Cond form (depth - 1) ∷ []) h
test_keeps form depth below (Some (test.Connects op)) h = deeper_keeps depth below (want.Close ∷ want.Cond form (depth - 1) ∷ want.Cond form (depth - 1) ∷ []) h

keyword_keeps : (form : FileForm) (depth : ℕ) (below : List Wanted) (o : Option Keyword) → IsBottomed below → KeepsBottom below (behind_keyword form depth o)
keyword_keeps form depth below None h = tt
keyword_keeps form depth below (Some keyword.Skip) h = h
keyword_keeps form depth below (Some keyword.Set) h = h
keyword_keeps form depth below (Some keyword.Put) h = h
keyword_keeps form depth below (Some keyword.Seq) h = h
keyword_keeps form depth below (Some keyword.If) h = deeper_keeps depth below (want.Close ∷ want.Stmt form (depth - 1) ∷ want.Stmt form (depth - 1) ∷ want.Cond form (depth - 1) ∷ []) h
keyword_keeps form depth below (Some keyword.Repeat) h = deeper_keeps depth below _ h
keyword_keeps form depth below (Some keyword.Retry) h = h
keyword_keeps form depth below (Some keyword.OrElse) h = deeper_keeps depth below _ h
keyword_keeps form depth below (Some keyword.Throw) h = h

tx_keeps : (form : FileForm) (part : Section) → IsBottomed (onto (want.Declarations part ∷ want.Close ∷ tx_wants form) [])
tx_keeps One part = refl
tx_keeps Two part = refl
tx_keeps Three part = refl

run_keeps : (form : FileForm) (part : Section) → IsBottomed (run_end form ∷ want.Declarations part ∷ [])
run_keeps One part = refl
run_keeps Two part = refl
run_keeps Three part = refl

part_keeps : (k : Kind) (o : Option Section) → KeepsBottom [] (behind_part k o)
part_keeps k None = tt
part_keeps kind.Variable (Some part) = refl
part_keeps kind.Table (Some part) = refl
part_keeps kind.Condition (Some part) = refl
part_keeps kind.Transaction (Some part) = tx_keeps (form_in part) part
part_keeps kind.Run (Some part) = run_keeps (form_in part) part

kind_keeps : (part : Section) (o : Option Kind) → KeepsBottom [] (behind_kind part o)
kind_keeps part None = tt
kind_keeps part (Some k) = part_keeps k (part_behind part k)

stm_keeps : (part : Section) → KeepsBottom [] (behind_stm part)
stm_keeps section.Start = refl
stm_keeps (section.Variables form) = tt
stm_keeps section.Tables = tt
stm_keeps (section.Conditions form) = tt
stm_keeps (section.Transactions form) = tt
stm_keeps (section.Runs form) = tt

declared_keeps : (part : Section) (word : List ℕ) → KeepsBottom [] (behind_declared part word)
declared_keeps part word = chosen (bytes_eq word (codes "stm"))
  where
    chosen : (b : Bool) → KeepsBottom [] (cond b (behind_stm part) (behind_kind part (kind_of word)))
    chosen true = stm_keeps part
    chosen false = kind_keeps part (kind_of word)

form_keeps : (o : Option FileForm) → KeepsBottom [] (behind_form o)
form_keeps None = tt
form_keeps (Some form) = refl

open_keeps : (wanted : Wanted) (below : List Wanted) → IsBottomed (wanted ∷ below) → KeepsBottom below (behind_open wanted)
open_keeps (want.Declarations part) below h = h
open_keeps (want.Word part) below h = tt
open_keeps want.FormNumber below h = tt
open_keeps want.Close below h = tt
open_keeps (want.Name used) below h = tt
open_keeps (want.Number used) below h = tt
open_keeps (want.Expr form depth) below h = deeper_keeps depth below (want.Head form (depth - 1) ∷ []) h
open_keeps (want.Head form depth) below h = tt
open_keeps (want.Cond form depth) below h = h
open_keeps (want.Test form depth) below h = tt
open_keeps (want.Stmt form depth) below h = h
open_keeps (want.Keyword form depth) below h = tt
open_keeps (want.Parts form depth) below h = deeper_keeps depth below (want.Parts form depth ∷ want.Keyword form (depth - 1) ∷ []) h
open_keeps want.List below h = h
open_keeps want.Parameters below h = tt
open_keeps (want.Numbers used) below h = tt

close_keeps : (wanted : Wanted) (below : List Wanted) → IsBottomed (wanted ∷ below) → KeepsBottom below (behind_close wanted)
close_keeps (want.Declarations part) below h = tt
close_keeps (want.Word part) below h = tt
close_keeps want.FormNumber below h = tt
close_keeps want.Close below h = h
close_keeps (want.Name used) below h = tt
close_keeps (want.Number used) below h = tt
close_keeps (want.Expr form depth) below h = tt
close_keeps (want.Head form depth) below h = tt
close_keeps (want.Cond form depth) below h = tt
close_keeps (want.Test form depth) below h = tt
close_keeps (want.Stmt form depth) below h = tt
close_keeps (want.Keyword form depth) below h = tt
close_keeps (want.Parts form depth) below h = h
close_keeps want.List below h = tt
close_keeps want.Parameters below h = h
close_keeps (want.Numbers used) below h = h

int_keeps : (wanted : Wanted) (below : List Wanted) (value : ℤ) → IsBottomed (wanted ∷ below) → KeepsBottom below (behind_int wanted value)
int_keeps (want.Declarations part) below value h = tt
int_keeps (want.Word part) below value h = tt
int_keeps want.FormNumber below value h = subst (λ (b : List Wanted). KeepsBottom b (behind_form (result_ok (form_numbered value)))) (sym h) (form_keeps (result_ok (form_numbered value)))
int_keeps want.Close below value h = tt
int_keeps (want.Name used) below value h = tt
int_keeps (want.Number used) below value h = h
int_keeps (want.Expr form depth) below value h = h
int_keeps (want.Head form depth) below value h = tt
int_keeps (want.Cond form depth) below value h = tt
int_keeps (want.Test form depth) below value h = tt
int_keeps (want.Stmt form depth) below value h = tt
int_keeps (want.Keyword form depth) below value h = tt
int_keeps (want.Parts form depth) below value h = tt
int_keeps want.List below value h = tt
int_keeps want.Parameters below value h = tt
int_keeps (want.Numbers used) below value h = h

word_keeps : (wanted : Wanted) (below : List Wanted) (word : List ℕ) → IsBottomed (wanted ∷ below) → KeepsBottom below (behind_word wanted word)
word_keeps (want.Declarations part) below word h = tt
word_keeps (want.Word part) below word h = subst (λ (b : List Wanted). KeepsBottom b (behind_declared part word)) (sym h) (declared_keeps part word)
word_keeps want.FormNumber below word h = tt
word_keeps want.Close below word h = tt
word_keeps (want.Name used) below word h = h
word_keeps (want.Number used) below word h = tt
word_keeps (want.Expr form depth) below word h = h
word_keeps (want.Head form depth) below word h = head_keeps form depth below _ h
word_keeps (want.Cond form depth) below word h = tt
word_keeps (want.Test form depth) below word h = test_keeps form depth below _ h
word_keeps (want.Stmt form depth) below word h = tt
word_keeps (want.Keyword form depth) below word h = keyword_keeps form depth below _ h
word_keeps (want.Parts form depth) below word h = tt
word_keeps want.List below word h = tt
word_keeps want.Parameters below word h = h
word_keeps (want.Numbers used) below word h = tt

token_keeps : (wanted : Wanted) (below : List Wanted) (t : Lexeme) → IsBottomed (wanted ∷ below) → KeepsBottom below (behind wanted t)
unfolding behind
token_keeps wanted below Opens h = open_keeps wanted below h
token_keeps wanted below Closes h = close_keeps wanted below h
token_keeps wanted below (token.Name word) h = word_keeps wanted below word h
token_keeps wanted below (token.Int value) h = int_keeps wanted below value h
token_keeps wanted below token.Other h = tt

pub bottomed_on : (wanted : Wanted) (below more : List Wanted) (t : Lexeme) → behind wanted t ≡ Some more → IsBottomed (wanted ∷ below) → IsBottomed (onto more below)
bottomed_on wanted below more t e h = subst (KeepsBottom below) e (token_keeps wanted below t h)

-- ---- what is wanted can be ended

abbrev pub finish_all : List Wanted → List Lexeme
finish_all [] = []
finish_all (wanted ∷ below) = finish wanted ++ finish_all below

goes_on : (wanted : Wanted) (below : List Wanted) → read_one wanted (finish wanted ++ finish_all below) ≡ Some (finish_all below) → read_all below (finish_all below) ≡ Some [] → read_all (wanted ∷ below) (finish_all (wanted ∷ below)) ≡ Some []
goes_on wanted below e h = ap (λ (l : Left). l ▷ read_all below) e ∙ h

at_bottom : (l : Left) (below : List Wanted) → below ≡ [] → l ≡ Some [] → (l ▷ read_all below) ≡ Some []
at_bottom l below e h = rw (e, h) refl

pub all_ends : (stack : List Wanted) → IsBottomed stack → read_all stack (finish_all stack) ≡ Some []
all_ends [] h = absurd h
all_ends (want.Declarations part ∷ below) h = rw h (at_bottom (none_left (from_part part [])) [] refl (part_end part))
all_ends (want.Word part ∷ below) h = rw h (at_bottom (none_left (from_part part (Opens ∷ finish (want.Word part)))) [] refl (word_ends part))
all_ends (want.FormNumber ∷ below) h = rw h (at_bottom (read_one want.FormNumber (finish want.FormNumber)) [] refl number_ends)
all_ends (want.Close ∷ below) h = goes_on want.Close below (simple_ends (finish_all below)).0 (all_ends below h)
all_ends (want.Name used ∷ below) h = goes_on (want.Name used) below (simple_ends (finish_all below)).1 (all_ends below h)
all_ends (want.Number used ∷ below) h = goes_on (want.Number used) below (simple_ends (finish_all below)).2 (all_ends below h)
all_ends (want.Expr form depth ∷ below) h = goes_on (want.Expr form depth) below (expr_ends form depth (finish_all below)) (all_ends below h)
all_ends (want.Head form depth ∷ below) h = goes_on (want.Head form depth) below (head_ends form depth (finish_all below)) (all_ends below h)
all_ends (want.Cond form depth ∷ below) h = goes_on (want.Cond form depth) below (cond_ends form depth (finish_all below)) (all_ends below h)
all_ends (want.Test form depth ∷ below) h = goes_on (want.Test form depth) below (test_ends form depth (finish_all below)) (all_ends below h)
all_ends (want.Stmt form depth ∷ below) h = goes_on (want.Stmt form depth) below (stmt_ends form depth (finish_all below)) (all_ends below h)
all_ends (want.Keyword form depth ∷ below) h = goes_on (want.Keyword form depth) below (keyword_ends form depth (finish_all below)) (all_ends below h)
all_ends (want.Parts form depth ∷ below) h = goes_on (want.Parts form depth) below (parts_ends form depth (finish_all below)) (all_ends below h)
all_ends (want.List ∷ below) h = goes_on want.List below (list_ends (finish_all below)) (all_ends below h)
all_ends (want.Parameters ∷ below) h = goes_on want.Parameters below (parameters_ends (finish_all below)) (all_ends below h)
all_ends (want.Numbers used ∷ below) h = goes_on (want.Numbers used) below (numbers_ends used (finish_all below)) (all_ends below h)

-- ---- stacks whose top is the last

pub onto-append : (a b below : List Wanted) → onto (a ++ b) below ≡ onto b (onto a below)
onto-append [] b below = refl
onto-append (x ∷ a) b below = onto-append a b (x ∷ below)
