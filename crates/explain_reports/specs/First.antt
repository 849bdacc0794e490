-- The first of a list that is wrong.
use Rattle.std.specs.Prelude.{◌≡◌, ◌<◌, ℕ, List, Option, Some, None, slice_get}

-- what stands before place n is right
abbrev pub RightBefore : {A : Type 0} → (ℕ → A → Type 0) → List A → ℕ → Type 0
RightBefore Right xs n = (j : ℕ) (x : _) → j < n → slice_get xs j ≡ Some x → Right j x

-- all is right
abbrev pub AllRight : {A : Type 0} → (ℕ → A → Type 0) → List A → Type 0
AllRight Right xs = (j : ℕ) (x : _) → slice_get xs j ≡ Some x → Right j x

-- what stands at place i is wrong, and all before it is right
pub record IsFirstWrong {A : Type 0} (Right : ℕ → A → Type 0) (xs : List A) (i : ℕ) : Type 0 where
  pub item : A
  pub stands : slice_get xs i ≡ Some item
  pub wrong : Right i item → ⊥
  pub before : RightBefore Right xs i

-- the place of the first that is wrong, if there is one
abbrev pub IsSearched : {A : Type 0} → (ℕ → A → Type 0) → List A → Option ℕ → Type 0
IsSearched Right xs None = AllRight Right xs
IsSearched Right xs (Some i) = IsFirstWrong Right xs i
