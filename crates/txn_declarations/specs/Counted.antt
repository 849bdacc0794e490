-- What a table says of which its name is kept and how many cells it has.
use Rattle.std.specs.Prelude.{ℕ, List, string_bytes}
use Rattle.std.specs.declared.alloc.Global.{Global}
use Rattle.std.specs.declared.string.String.{String}

abbrev pub counted : String Global × ℕ → List ℕ × ℕ
counted t = (string_bytes t.0, t.1)
