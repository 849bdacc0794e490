-- What a call does if a handle may be empty.
use Rattle.std.specs.Prelude.{◌≡◌, Option, Some, None}

-- where the handle is empty, it stays so and the answer says it; else the call is made on what it holds, and it holds what is left
abbrev pub On : {X A : Type 0} → Option X → Option X → A → A → (X → A → X → Type 0) → Type 0
On None None empty answer Call = answer ≡ empty
On (Some old) (Some new) empty answer Call = Call old answer new
On None (Some new) empty answer Call = ⊥
On (Some old) None empty answer Call = ⊥

-- the same of a call that changes nothing
abbrev pub Asked : {X A : Type 0} → Option X → A → A → (X → A → Type 0) → Type 0
Asked None empty answer Is = answer ≡ empty
Asked (Some held) empty answer Is = Is held answer

-- so it is of what the handle holds, and it holds something
abbrev pub HoldsSome : {X : Type 0} → (X → Type 0) → Option X → Type 0
HoldsSome Is None = ⊥
HoldsSome Is (Some held) = Is held

-- the same as `On` of a call on what two handles hold: both handles are as they were where one is
-- empty
abbrev pub OnBoth : {S X A : Type 0} → Option S → Option X → Option S → Option X → A → A
    → (S → X → A → S → X → Type 0) → Type 0
OnBoth (Some old) (Some before) (Some new) (Some after) empty answer Call = Call old before answer new after
OnBoth (Some old) (Some before) (Some new) None empty answer Call = ⊥
OnBoth (Some old) (Some before) None other empty answer Call = ⊥
OnBoth (Some old) None one other empty answer Call = (answer ≡ empty) × (one ≡ Some old) × (other ≡ None)
OnBoth None before one other empty answer Call = (answer ≡ empty) × (one ≡ None) × (other ≡ before)
