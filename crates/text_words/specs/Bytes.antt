-- Which bytes a file has, and which of them make an integer.
use Rattle.std.specs.Prelude.{ℕ, ℤ, Bool, false, not, ◌&&◌, ◌||◌, ◌==◌, nat_le, if◌then◌else◌, List, [], ◌∷◌, length}
use Rattle.std.specs.List.{list_all}
use Rattle.std.specs.Char.{is_ascii_digit}
use Rattle.std.specs.Str.Parse.{signed_digits_value}

-- newline, and 32 to 126
abbrev pub is_allowed : ℕ → Bool
is_allowed b = (b == 10) || (nat_le 32 b && nat_le b 126)

-- newline and space
abbrev pub is_blank : ℕ → Bool
is_blank b = (b == 10) || (b == 32)

-- neither a blank, nor a parenthesis, nor the semicolon that opens a comment
abbrev pub is_atom_byte : ℕ → Bool
is_atom_byte b = not (is_blank b || ((b == 40) || ((b == 41) || (b == 59))))

-- any byte but a newline
abbrev pub is_in_line : ℕ → Bool
is_in_line b = not (b == 10)

-- a digit from 1 on, and any digits
unfoldable pub is_positive : List ℕ → Bool
is_positive [] = false
is_positive (b ∷ bs) = (nat_le 49 b && nat_le b 57) && list_all is_ascii_digit bs

-- 0, or an optional minus and a number from 1 on
unfoldable pub is_int : List ℕ → Bool
is_int [] = false
is_int (b ∷ bs) = if b == 48 then length bs == 0 else (if b == 45 then is_positive bs else is_positive (b ∷ bs))

-- what the text of an integer is worth, however long it is
abbrev pub int_value : List ℕ → ℤ
int_value text = signed_digits_value 10 text
