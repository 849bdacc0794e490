-- A line begins with its head, and has no newline but the one at its end.
use Rattle.std.proofs.Common.{◌≡◌, ℕ, List, ◌++◌, sym, ap, ◌∙◌, append_assoc}
use Rattle.std.specs.Prelude.{codes}
use Rattle.explain_files.specs.Places.{line_at, column_at}
use Rattle.text_words.specs.declared.fault.ReadFault.{ReadFault}
use Rattle.explain_files.specs.Telling.{IsInLine, IsLineWith, head, told_line, kind_name}
use Rattle.explain_files.proofs.InLine.{in_line_append}

rest_of : List ℕ → List ℕ → List ℕ
rest_of words found = (words ++ found) ++ codes "\n"

apart : (line column : ℕ) (kind words found : List ℕ) → told_line line column kind words found ≡ head line column kind ++ rest_of words found
unfolding rest_of
apart line column kind words found = sym (simp append_assoc)

pub line_at_head : (bytes : List ℕ) (place : ℕ) (fault : ReadFault) (line column : ℕ) (kind words found text : List ℕ)
    → line ≡ line_at bytes place → column ≡ column_at bytes place → kind ≡ kind_name fault → IsInLine words → IsInLine found → text ≡ told_line line column kind words found
    → IsLineWith (head (line_at bytes place) (column_at bytes place) (kind_name fault)) text
unfolding rest_of
line_at_head bytes place fault line column kind words found text is_line is_column is_kind h k e =
    record {
      rest = words ++ found;
      text_is =
          e ∙ apart line column kind words found
          ∙ ap (λ (n : ℕ). head n column kind ++ rest_of words found) is_line
          ∙ ap (λ (n : ℕ). head (line_at bytes place) n kind ++ rest_of words found) is_column
          ∙ ap (λ (k : List ℕ). head (line_at bytes place) (column_at bytes place) k ++ rest_of words found) is_kind;
      single = in_line_append words found h k;
    }
