-- What the words behind a parenthesis are read as.
use Rattle.std.proofs.Common.{◌≡◌, ℕ, Bool, true, cond, List, Result, Ok, Err, refl, subst, ◌∙◌, ◌⊎◌, inl, inr}
use Rattle.std.specs.Prelude.{◌&&◌, codes}
use Rattle.std.specs.Str.{bytes_eq}
use Rattle.std.proofs.lemmas.Bool.{and_parts}
use Rattle.std.proofs.lemmas.Slice.Eq.{bytes_eq-Decides}
use Rattle.txn_programs.specs.declared.ast.Fold.{Fold}
use Rattle.txn_programs.specs.declared.ast.Fold.TheVariants as folds
use Rattle.text_words.specs.Answers.{◌>>=◌}
use Rattle.text_words.specs.declared.fault.ReadFault.{ReadFault}
use Rattle.text_words.specs.declared.fault.ReadFault.TheVariants.{Shape}
use Rattle.text_grammar.specs.Tree.{operator_word, fold_word, comparison_word, connective_word, keyword_word, has_tables}
use Rattle.text_grammar.specs.declared.file.FileForm.{FileForm}
use Rattle.text_grammar.specs.declared.words.Head.{Head}
use Rattle.text_grammar.specs.declared.words.Head.TheVariants as heads
use Rattle.text_grammar.specs.declared.words.Operator.{Operator}
use Rattle.text_grammar.specs.declared.words.Operator.TheVariants as operators
use Rattle.text_grammar.specs.declared.words.Comparison.TheVariants as comparisons
use Rattle.text_grammar.specs.declared.words.Connective.TheVariants as connectives
use Rattle.text_grammar.specs.declared.words.Test.{Test}
use Rattle.text_grammar.specs.declared.words.Test.TheVariants as tests
use Rattle.text_grammar.specs.declared.words.Keyword.{Keyword}
use Rattle.text_grammar.specs.declared.words.Keyword.TheVariants as keywords
use Rattle.text_grammar.specs.Reading.{operator_of, fold_of, table_head_of, operator_or, head_of, test_of, keyword_of}
use Rattle.text_words.proofs.Steps.{bind_ok, ok_is, done, chosen, worded}

pub operator_takes : (word : List ℕ) (op : Operator) → operator_of word ≡ Ok op → word ≡ operator_word op
operator_takes word op =
    worded operator_word word (codes "add") operators.Add op _ refl
    (worded operator_word word (codes "sub") operators.Sub op _ refl
    (worded operator_word word (codes "mul") operators.Mul op _ refl
    (worded operator_word word (codes "div") operators.Div op _ refl
    (worded operator_word word (codes "rem") operators.Rem op _ refl (λ h. absurd cc)))))

pub operator_again : (op : Operator) → operator_of (operator_word op) ≡ Ok op
operator_again operators.Add = refl
operator_again operators.Sub = refl
operator_again operators.Mul = refl
operator_again operators.Div = refl
operator_again operators.Rem = refl

pub fold_takes : (word : List ℕ) (fold : Fold) → fold_of word ≡ Ok fold → word ≡ fold_word fold
fold_takes word fold =
    worded fold_word word (codes "sum") folds.Sum fold _ refl
    (worded fold_word word (codes "min") folds.Min fold _ refl
    (worded fold_word word (codes "max") folds.Max fold _ refl (λ h. absurd cc)))

-- the word that begins an expression of a kind
abbrev pub head_word : Head → List ℕ
head_word (heads.Operates op) = operator_word op
head_word heads.Picks = codes "at"
head_word (heads.Folds fold) = fold_word fold

-- whether files of the form can have expressions of the kind
abbrev pub head_formed : FileForm → Head → Bool
head_formed form (heads.Operates op) = true
head_formed form heads.Picks = has_tables form
head_formed form (heads.Folds fold) = has_tables form

-- a word that is read as the kind, in a file that can have it
pub record TakesHead (form : FileForm) (word : List ℕ) (kind : Head) : Type 0 where
  pub worded : word ≡ head_word kind
  pub formed : head_formed form kind ≡ true

table_head_takes : (form : FileForm) (word : List ℕ) (kind : Head) → has_tables form ≡ true → table_head_of word ≡ Ok kind → TakesHead form word kind
table_head_takes form word kind tables e =
    elim (chosen (bytes_eq word (codes "at")) (done heads.Picks) (fold_of word >>= λ f. Ok (heads.Folds f)) (Ok kind) e) [
      | inl p ↦ subst (TakesHead form word) (ok_is heads.Picks kind p.1) (record { worded = (bytes_eq-Decides word (codes "at")).0 p.0; formed = tables })
      | inr p ↦
          let f = bind_ok (fold_of word) _ kind p.1 in
          subst (TakesHead form word) (ok_is (heads.Folds f.0) kind f.2) (record { worded = fold_takes word f.0 f.1; formed = tables })
    ]

-- an operator, or else what may stand in its place
either : (read : Result Operator ReadFault) (other : Result Head ReadFault) (kind : Head) → operator_or read other ≡ Ok kind
    → ((op : Operator) × (read ≡ Ok op) × (heads.Operates op ≡ kind)) ⊎ (other ≡ Ok kind)
either (Ok op) other kind e = inl (op, refl, ok_is (heads.Operates op) kind e)
either (Err fault) other kind e = inr e

pub head_takes : (form : FileForm) (word : List ℕ) (kind : Head) → head_of form word ≡ Ok kind → TakesHead form word kind
head_takes form word kind e =
    elim (either (operator_of word) (cond (has_tables form) (table_head_of word) (Err Shape)) kind e) [
      | inl p ↦ subst (TakesHead form word) p.2 (record { worded = operator_takes word p.0 p.1; formed = refl })
      | inr p ↦ elim (chosen (has_tables form) (table_head_of word) (Err Shape) (Ok kind) p) [
        | inl q ↦ table_head_takes form word kind q.0 q.1
        | inr q ↦ absurd (let h = q.1 in cc)
      ]
    ]

pub head_again : (form : FileForm) (kind : Head) → head_formed form kind ≡ true → head_of form (head_word kind) ≡ Ok kind
head_again form (heads.Operates op) h = rw (operator_again op) refl
head_again form heads.Picks h = rw h refl
head_again form (heads.Folds folds.Sum) h = rw h refl
head_again form (heads.Folds folds.Min) h = rw h refl
head_again form (heads.Folds folds.Max) h = rw h refl

abbrev pub test_word : Test → List ℕ
test_word (tests.Compares op) = comparison_word op
test_word tests.Negates = codes "not"
test_word (tests.Connects op) = connective_word op

pub test_takes : (word : List ℕ) (kind : Test) → test_of word ≡ Ok kind → word ≡ test_word kind
test_takes word kind =
    worded test_word word (codes "eq") (tests.Compares comparisons.Eq) kind _ refl
    (worded test_word word (codes "lt") (tests.Compares comparisons.Lt) kind _ refl
    (worded test_word word (codes "le") (tests.Compares comparisons.Le) kind _ refl
    (worded test_word word (codes "not") tests.Negates kind _ refl
    (worded test_word word (codes "and") (tests.Connects connectives.And) kind _ refl
    (worded test_word word (codes "or") (tests.Connects connectives.Or) kind _ refl (λ h. absurd cc))))))

pub test_again : (kind : Test) → test_of (test_word kind) ≡ Ok kind
test_again (tests.Compares comparisons.Eq) = refl
test_again (tests.Compares comparisons.Lt) = refl
test_again (tests.Compares comparisons.Le) = refl
test_again tests.Negates = refl
test_again (tests.Connects connectives.And) = refl
test_again (tests.Connects connectives.Or) = refl

-- whether files of the form can have statements of the keyword
abbrev pub keyword_formed : FileForm → Keyword → Bool
keyword_formed form keywords.Put = has_tables form
keyword_formed form keyword = true

-- a word that is read as the keyword, in a file that can have it
pub record TakesKeyword (form : FileForm) (word : List ℕ) (kind : Keyword) : Type 0 where
  pub worded : word ≡ keyword_word kind
  pub formed : keyword_formed form kind ≡ true

-- a test of a word that is one of a list of tests
tested : (form : FileForm) (word wanted : List ℕ) (k kind : Keyword) (next : Result Keyword ReadFault) → wanted ≡ keyword_word k → keyword_formed form k ≡ true
    → (next ≡ Ok kind → TakesKeyword form word kind) → cond (bytes_eq word wanted) (Ok k) next ≡ Ok kind → TakesKeyword form word kind
tested form word wanted k kind next is formed others e =
    elim (chosen (bytes_eq word wanted) (done k) next (Ok kind) e) [
      | inl p ↦ subst (TakesKeyword form word) (ok_is k kind p.1) (record { worded = (bytes_eq-Decides word wanted).0 p.0 ∙ is; formed = formed })
      | inr p ↦ others p.1
    ]

put_takes : (form : FileForm) (word : List ℕ) (kind : Keyword) → cond (bytes_eq word (codes "put") && has_tables form) (done keywords.Put) (Err Shape) ≡ Ok kind → TakesKeyword form word kind
put_takes form word kind e =
    elim (chosen (bytes_eq word (codes "put") && has_tables form) (done keywords.Put) (Err Shape) (Ok kind) e) [
      | inl p ↦
          let both = and_parts (bytes_eq word (codes "put")) (has_tables form) p.0 in
          subst (TakesKeyword form word) (ok_is keywords.Put kind p.1) (record { worded = (bytes_eq-Decides word (codes "put")).0 both.0; formed = both.1 })
      | inr p ↦ absurd (let h = p.1 in cc)
    ]

pub keyword_takes : (form : FileForm) (word : List ℕ) (kind : Keyword) → keyword_of form word ≡ Ok kind → TakesKeyword form word kind
keyword_takes form word kind =
    tested form word (codes "skip") keywords.Skip kind _ refl refl
    (tested form word (codes "set") keywords.Set kind _ refl refl
    (tested form word (codes "seq") keywords.Seq kind _ refl refl
    (tested form word (codes "if") keywords.If kind _ refl refl
    (tested form word (codes "repeat") keywords.Repeat kind _ refl refl
    (tested form word (codes "retry") keywords.Retry kind _ refl refl
    (tested form word (codes "orelse") keywords.OrElse kind _ refl refl
    (tested form word (codes "throw") keywords.Throw kind _ refl refl (put_takes form word kind))))))))

pub keyword_again : (form : FileForm) (kind : Keyword) → keyword_formed form kind ≡ true → keyword_of form (keyword_word kind) ≡ Ok kind
keyword_again form keywords.Skip h = refl
keyword_again form keywords.Set h = refl
keyword_again form keywords.Put h = rw h refl
keyword_again form keywords.Seq h = refl
keyword_again form keywords.If h = refl
keyword_again form keywords.Repeat h = refl
keyword_again form keywords.Retry h = refl
keyword_again form keywords.OrElse h = refl
keyword_again form keywords.Throw h = refl
