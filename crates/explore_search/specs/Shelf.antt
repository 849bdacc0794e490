-- What a contract sees of a list of configurations.
use Rattle.std.specs.Prelude.{◌≡◌, ◌⊎◌, ℕ, ℤ, List, [], ◌∷◌, ◌++◌, refl}
use Rattle.std.specs.List.{Contains}
use Rattle.std.specs.Coded.{Coded, code_by, coded×, coded_ℕ, coded_ℤ, coded_list}
use Rattle.explore_law.specs.Orders.{Config}

pub record Shelf : Type 0 where
  -- how many values a configuration has, and how many counts
  pub variables : ℕ
  pub counts : ℕ
  -- in the order found
  pub configs : List Config

abbrev pub nowhere : Config
nowhere = record { state = []; left = [] }

abbrev pub config : List ℤ → List ℕ → Config
config values left = record { state = values; left = left }

-- with the configuration p behind the others
abbrev pub behind : Shelf → Config → Shelf
behind s p = record { variables = s.variables; counts = s.counts; configs = s.configs ++ p ∷ [] }

-- with the configuration p behind the others, unless it is one of them
pub record Adds (old new : Shelf) (p : Config) : Type 0 where
  pub variables : new.variables ≡ old.variables
  pub counts : new.counts ≡ old.counts
  pub added : (Contains old.configs p × (new.configs ≡ old.configs)) ⊎ ((Contains old.configs p → ⊥) × (new.configs ≡ old.configs ++ p ∷ []))

abbrev pub coded_config : Coded Config
coded_config = code_by (List ℤ × List ℕ) (coded× (coded_list coded_ℤ) (coded_list coded_ℕ)) (λ p. (p.state, p.left)) (λ p. record { state = p.0; left = p.1 }) (λ _. refl)

abbrev pub coded_shelf : Coded Shelf
coded_shelf =
    code_by (ℕ × (ℕ × List Config)) (coded× coded_ℕ (coded× coded_ℕ (coded_list coded_config)))
    (λ s. (s.variables, (s.counts, s.configs))) (λ p. record { variables = p.0; counts = p.1.0; configs = p.1.1 }) (λ _. refl)
