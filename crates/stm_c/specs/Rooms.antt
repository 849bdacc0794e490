-- What a call leaves in the host's buffer.
use Rattle.std.specs.Prelude.{◌≡◌, ◌<◌, ℕ, List, ◌++◌, length, drop}

-- such a text stands at the begin of the room, what is behind it stayed, and its length was told
pub record Holds (Is : List ℕ → Type 0) (old new : List ℕ) (wanted : ℕ) : Type 0 where
  pub text : List ℕ
  pub is : Is text
  pub length_is : wanted ≡ length text
  pub written : new ≡ text ++ drop (length text) old

-- the room is too short for such a text and stayed, and the text's length was told
pub record TooShort (Is : List ℕ → Type 0) (old new : List ℕ) (wanted : ℕ) : Type 0 where
  pub text : List ℕ
  pub is : Is text
  pub length_is : wanted ≡ length text
  pub longer : length old < length text
  pub stays : new ≡ old
