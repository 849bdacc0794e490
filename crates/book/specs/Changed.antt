-- Which variables changed since when, where a book lists them.
use Rattle.std.specs.Prelude.{◌≡◌, ℕ, ◌<◌, ◌≤◌, true, List, length, replicate, slice_index, All, Contains, count_by, nat_lt, vec_capacity}
use Rattle.txn_words.specs.Words.{state_value}
use Rattle.txn_programs.specs.Meaning.{State}
use Rattle.book.specs.declared.stored.Stored.{Stored}
use Rattle.book.specs.declared.since.Since.{Since}

-- the list has each variable whose version is above the number, and no more entries than there are such variables
pub record AreAbove (n : ℕ) (versions list : List ℕ) : Type 0 where
  pub all : (x : ℕ) → x < length versions → n < slice_index versions x → Contains list x
  pub exist : All (λ x. x < length versions) list
  pub few : length list ≤ count_by (nat_lt n) versions

-- one list has what changed since the base, one what changed since the chapter began, and each has room for all
-- variables. What did not change since the base stands there as it does in these values and versions
pub record AreListed (base : Stored) (values : State) (versions : List ℕ) (s : Since) : Type 0 where
  pub of_base : AreAbove base.number versions s.base.items
  pub of_chapter : AreAbove 0 versions s.chapter.items
  pub base_room : length versions ≤ vec_capacity s.base
  pub chapter_room : length versions ≤ vec_capacity s.chapter
  pub same_values : (x : ℕ) → x < length versions → slice_index versions x ≤ base.number → state_value base.values.items x ≡ state_value values x
  pub same_versions : (x : ℕ) → x < length versions → slice_index versions x ≤ base.number → slice_index base.versions.items x ≡ slice_index versions x

-- where lists are kept, they say what changed up to the present
abbrev pub Follows : Stored → Stored → Since → Type 0
Follows base present s = s.is_listed ≡ true → AreListed base present.values.items present.versions.items s

-- as many values as versions, and as many in the base as in the present
pub record AreAlike (base present : Stored) : Type 0 where
  pub values : length base.values.items ≡ length present.values.items
  pub base_versions : length base.versions.items ≡ length present.values.items
  pub versions : length present.versions.items ≡ length present.values.items

-- the same values, number 0 and versions 0
pub record IsAnew (now was : Stored) : Type 0 where
  pub number : now.number ≡ 0
  pub values : now.values.items ≡ was.values.items
  pub versions : now.versions.items ≡ replicate (length was.values.items) 0
