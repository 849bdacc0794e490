-- What stands at the front of bytes, as a scan finds it.
use Rattle.std.specs.Prelude.{◌≡◌, ℕ, Bool, ◌==◌, List, drop}
use Rattle.std.specs.List.{prefix_len, take_while}
use Rattle.text_words.specs.Bytes.{is_atom_byte}

-- the atom at the front passes exactly where no byte of it follows the first n, and then it has just these
pub record IsFront (passes : List ℕ → Bool) (n : ℕ) (bytes : List ℕ) : Type 0 where
  pub word : passes (take_while is_atom_byte bytes) ≡ (prefix_len is_atom_byte (drop n bytes) == 0)
  pub whole : prefix_len is_atom_byte (drop n bytes) ≡ 0 → prefix_len is_atom_byte bytes ≡ n
