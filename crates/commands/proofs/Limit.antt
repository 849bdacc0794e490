-- What is read of a reader to a limit.
use Rattle.std.proofs.Common.{◌≡◌, ℕ, ◌+◌, List, [], ◌++◌, Option, None, Some, take, ap, ◌∙◌}
use Rattle.std.specs.Prelude.{IfSome, option_map}
use Rattle.commands.specs.Files.{read_of}

pub known_read : (known : Option (List ℕ)) (n limit : ℕ) (old items : List ℕ) → n ≡ limit + 1 → old ≡ [] → IfSome (option_map (take n) known) (λ xs. items ≡ old ++ xs) → IfSome known (λ all. items ≡ read_of limit all)
known_read None n limit old items is empty h = tt
known_read (Some all) n limit old items is empty h =
    h ∙ (ap (λ (k : ℕ). old ++ take k all) is ∙ ap (λ (l : List ℕ). l ++ take (limit + 1) all) empty)
