-- What the code's parts of bytes say, and not where they lie in memory.
use Rattle.std.specs.Prelude.{ℕ, Option, Some, None, List}
use Rattle.std.proofs.Common.{Bor}
use Rattle.text_line_reader.specs.Lines.{Line, lines}

abbrev pub view_parts : Option (Bor (List ℕ) × Bor (List ℕ)) → Option (List ℕ × List ℕ)
view_parts None = None
view_parts (Some x) = Some (x.0.now, x.1.now)

abbrev pub view_text : Option (Bor (List ℕ)) → Option (List ℕ)
view_text None = None
view_text (Some x) = Some x.now

-- a line, and the lines of the bytes behind it
abbrev pub view_line : Option (Bor (List ℕ) × Bor (List ℕ)) → Option (List ℕ × List Line)
view_line None = None
view_line (Some x) = Some (x.0.now, lines x.1.now)

-- the next line as it is read, if there is one
abbrev pub view_next : {A B : Type 0} → (A → B) → Option (A × Bor (List ℕ)) → Option (B × List Line)
view_next view None = None
view_next view (Some x) = Some (view x.0, lines x.1.now)
