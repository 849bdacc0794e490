-- What an explanation says of a file.
use Rattle.std.specs.Prelude.{◌≡◌, ◌<◌, ◌≤◌, ℕ, true, false, List, length, take, slice_index, Some}
use Rattle.std.specs.List.{list_all}
use Rattle.txn_programs.specs.Listing.{Listing}
use Rattle.text_words.specs.Bytes.{is_allowed}
use Rattle.text_words.specs.Tokens.{tokens}
use Rattle.text_grammar.specs.Tree.{longest}
use Rattle.text_grammar.specs.Spelling.{Spells, first_fault}
use Rattle.text_file_reader.specs.Faults.{IsFirst}
use Rattle.text_words.specs.declared.fault.ReadFault.{ReadFault}
use Rattle.text_words.specs.declared.fault.ReadFault.TheVariants.{TooLong, BadByte, Shape, Name, Limit, Broken}
use Rattle.explain_files.specs.Walking.{IsStop}
use Rattle.explain_files.specs.Roles.{form_of}
use Rattle.explain_files.specs.Judging.{AllTokens, IsRight, IsFirstSaid, name_fault_at}
use Rattle.explain_files.specs.Limiting.{limit_fault_at}
use Rattle.explain_files.specs.Declarations.{IsCostlyAt, IsFalseAt}
use Rattle.explain_files.specs.declared.explaining.Finding.{Finding}
use Rattle.explain_files.specs.declared.explaining.Finding.TheVariants as found
use Rattle.explain_files.specs.declared.explaining.Refusal.{Refusal}
use Rattle.explain_files.specs.declared.explaining.Explanation.{Explanation}
use Rattle.explain_files.specs.declared.explaining.Explanation.TheVariants.{Good, Refused}

-- the first byte that no file may have
pub record IsBadByte (bytes : List ℕ) (place : ℕ) : Type 0 where
  pub bound : place < length bytes
  pub before : list_all is_allowed (take place bytes) ≡ true
  pub here : is_allowed (slice_index bytes place) ≡ false

-- by the kind of fault and by what is found at the place: what is so there
abbrev pub IsPlaced : ReadFault → List ℕ → ℕ → Finding → Type 0
IsPlaced TooLong bytes place found.TooLong = (place ≡ longest bytes) × (place < length bytes)
IsPlaced BadByte bytes place found.BadByte = IsBadByte bytes place
IsPlaced Shape bytes place (found.Unwanted wanted) = IsStop bytes place
-- the first name that is declared a second time, or used and not declared, or run with another number of arguments
IsPlaced Name bytes place (found.Name fault) = IsFirstSaid (name_fault_at (form_of (tokens bytes))) bytes place fault
-- the first name or number that goes over a limit
IsPlaced Limit bytes place (found.Limit fault) = IsFirstSaid (limit_fault_at (form_of (tokens bytes))) bytes place fault
-- where there is none: the name of the first declaration that costs too much
IsPlaced Limit bytes place found.Cost = AllTokens (IsRight (limit_fault_at (form_of (tokens bytes)))) bytes × IsCostlyAt bytes place
-- the name of the first standing condition that is not true of the initial values
IsPlaced Broken bytes place found.Untrue = IsFalseAt bytes place
-- nothing else is found
IsPlaced kind bytes place finding = ⊥

-- why the bytes are refused: the first kind of fault, its place, and what is found there
pub record IsRefused (bytes : List ℕ) (refusal : Refusal) : Type 0 where
  pub kind : IsFirst bytes refusal.kind
  pub fault : first_fault bytes ≡ Some refusal.kind
  pub placed : IsPlaced refusal.kind bytes refusal.place refusal.finding
  pub bound : refusal.place ≤ length bytes

-- a file is spelt, or this is why none is
abbrev pub IsExplained : List ℕ → Explanation → Type 0
IsExplained bytes Good = (l : Listing) × Spells bytes l
IsExplained bytes (Refused refusal) = IsRefused bytes refusal
