-- What is told of a file: that it is read, or where and why it is not.
use Rattle.std.specs.Prelude.{◌≡◌, ◌⊎◌, ℕ, List, [], ◌++◌, codes, pos}
use Rattle.txn_programs.specs.Listing.{Listing}
use Rattle.text_grammar.specs.Spelling.{Spells}
use Rattle.explain_files.specs.Places.{line_at, column_at}
use Rattle.explain_files.specs.Explaining.{IsRefused}
use Rattle.explain_files.specs.Telling.{IsLineWith, head_of}
use Rattle.explain_files.specs.declared.explaining.Refusal.{Refusal}
use Rattle.stm_c.specs.declared.explaining.Explained.{Explained}
use Rattle.stm_c.specs.Numbers.{number_of_fault}

-- the bytes spell a file: there is no place, and there are no words
pub record IsRead (bytes : List ℕ) (out : Explained) (text : List ℕ) : Type 0 where
  pub file : Listing
  pub spelled : Spells bytes file
  pub out_is : out ≡ record { code = pos 0; line = 0; column = 0; place = 0 }
  pub text_is : text ≡ []

-- the first fault of the bytes, by its number, its line and column, and how many bytes stand before it; and the words, in one
-- line, that begin with line, column and kind
pub record IsRefusedThere (bytes : List ℕ) (out : Explained) (text : List ℕ) : Type 0 where
  pub refusal : Refusal
  pub refused : IsRefused bytes refusal
  pub code : out.code ≡ number_of_fault refusal.kind
  pub line : out.line ≡ line_at bytes refusal.place
  pub column : out.column ≡ column_at bytes refusal.place
  pub place : out.place ≡ refusal.place
  pub words : IsLineWith (head_of bytes refusal) (text ++ codes "\n")

-- `stm_explain`
abbrev pub IsExplainedBy : List ℕ → Explained → List ℕ → Type 0
IsExplainedBy bytes out text = IsRead bytes out text ⊎ IsRefusedThere bytes out text
