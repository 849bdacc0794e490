-- What is sought, in words.
use Rattle.std.specs.Prelude.{◌≡◌, ◌≢◌, true, FitsSigned, List, ◌++◌, codes, ℕ, ℤ, Option, Some, None}
use Rattle.std.specs.Fmt.{signed_decimal}
use Rattle.std.specs.Int.{w64}
use Rattle.txn_programs.specs.Listing.{Listing, condition_named}
use Rattle.txn_programs.specs.Names.{is_name}
use Rattle.txn_programs.specs.declared.ast.AlwaysId.{AlwaysId}
use Rattle.explore_law.specs.declared.sought.Sought.{Sought}
use Rattle.explore_law.specs.declared.sought.Sought.TheVariants as sought
use Rattle.explore_runner.specs.declared.outcomes.OutcomeWords.{OutcomeWords}
use Rattle.explore_runner.specs.declared.outcomes.OutcomeWords.TheVariants.{Returned, Threw, Overflow, ZeroDiv, Broke, Parks, Outside}

-- as an entry of a report has it, or the kind alone
abbrev pub outcome_words : OutcomeWords → List ℕ
outcome_words (Returned None) = codes "returned"
outcome_words (Returned (Some v)) = codes "returned " ++ signed_decimal v
outcome_words (Threw None) = codes "threw"
outcome_words (Threw (Some v)) = codes "threw " ++ signed_decimal v
outcome_words Overflow = codes "overflow"
outcome_words ZeroDiv = codes "zerodiv"
outcome_words (Broke None) = codes "broke"
outcome_words (Broke (Some name)) = codes "broke " ++ name.now
outcome_words Parks = codes "parks"
outcome_words Outside = codes "outside"

-- its value has room in 64 signed bits, and its name is a name
abbrev pub CanBe : OutcomeWords → Type 0
CanBe (Returned (Some v)) = FitsSigned w64 v
CanBe (Threw (Some v)) = FitsSigned w64 v
CanBe (Broke (Some name)) = is_name name.now ≡ true
CanBe other = Unit {0}

-- the text is that of none
abbrev pub IsNoOutcome : List ℕ → Type 0
IsNoOutcome text = (o : OutcomeWords) → CanBe o → text ≢ outcome_words o

abbrev pub this_condition : Option AlwaysId → Option Sought
this_condition None = None
this_condition (Some id) = Some (sought.Broke (Some id))

-- the text is none of a word and what belongs to it
pub record IsNoPair (text : List ℕ) : Type 0 where
  pub returned : (v : ℤ) → FitsSigned w64 v → text ≢ codes "returned " ++ signed_decimal v
  pub threw : (v : ℤ) → FitsSigned w64 v → text ≢ codes "threw " ++ signed_decimal v
  pub broke : (name : List ℕ) → is_name name ≡ true → text ≢ codes "broke " ++ name

-- what is sought by them of the file's transactions, unless they name a condition that it does not have
abbrev pub sought_by : Listing → OutcomeWords → Option Sought
sought_by l (Returned wanted) = Some (sought.Returned wanted)
sought_by l (Threw wanted) = Some (sought.Threw wanted)
sought_by l Overflow = Some sought.Overflow
sought_by l ZeroDiv = Some sought.ZeroDiv
sought_by l (Broke None) = Some (sought.Broke None)
sought_by l (Broke (Some name)) = this_condition (condition_named l name.now)
sought_by l Parks = Some sought.Parks
sought_by l Outside = Some sought.Outside
