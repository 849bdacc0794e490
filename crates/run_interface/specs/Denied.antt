-- What is denied, and the words for it.
use Rattle.std.specs.Prelude.{◌≢◌, ℕ, Bool, true, false, List, codes}
use Rattle.run_interface.specs.declared.denial.Denial.{Denial}
use Rattle.run_interface.specs.declared.denial.Denial.TheVariants.{Parked, Threw, Broke, Overflow, ZeroDiv, Outside}
use Rattle.run_interface.specs.declared.denial.Denials.{Denials}

abbrev pub denial_word : Denial → List ℕ
denial_word Parked = codes "parked"
denial_word Threw = codes "threw"
denial_word Broke = codes "broke"
denial_word Overflow = codes "overflow"
denial_word ZeroDiv = codes "zerodiv"
denial_word Outside = codes "outside"

-- it is the word of none
abbrev pub IsNoWord : List ℕ → Type 0
IsNoWord word = (denial : Denial) → word ≢ denial_word denial

-- whether this one is denied
abbrev pub denies : Denials → Denial → Bool
denies ds Parked = ds.parked
denies ds Threw = ds.threw
denies ds Broke = ds.broke
denies ds Overflow = ds.overflow
denies ds ZeroDiv = ds.zerodiv
denies ds Outside = ds.outside

abbrev pub none_denied : Denials
none_denied = record { parked = false; threw = false; broke = false; overflow = false; zerodiv = false; outside = false }

-- this one, too
abbrev pub with_denial : Denials → Denial → Denials
with_denial ds Parked = record ds { parked = true }
with_denial ds Threw = record ds { threw = true }
with_denial ds Broke = record ds { broke = true }
with_denial ds Overflow = record ds { overflow = true }
with_denial ds ZeroDiv = record ds { zerodiv = true }
with_denial ds Outside = record ds { outside = true }
