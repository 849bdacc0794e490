-- What stands before the end of a line.
use Rattle.std.proofs.Common.{◌≡◌, ℕ, ◌<◌, List, [], ◌∷◌, ◌++◌, subst, sym, arith}
use Rattle.std.specs.Str.{IsUtf8}
use Rattle.std.proofs.lemmas.Str.{IsUtf8-append, IsUtf8-from_ascii}
use Rattle.std.proofs.lemmas.Str.Ascii.{IsAscii-cons}

-- a text before a text is a text
pub before_text : (all front behind : List ℕ) → all ≡ front ++ behind → IsUtf8 front → IsUtf8 behind → IsUtf8 all
before_text all front behind e f b = subst IsUtf8 (sym e) (IsUtf8-append front behind f b)

-- a byte of ASCII is a text
pub ascii_text : (b : ℕ) → b < 128 → IsUtf8 (b ∷ [])
ascii_text b h = IsUtf8-from_ascii (b ∷ []) (search (arith, IsAscii-cons))
