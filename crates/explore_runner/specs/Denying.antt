-- Whether some order comes to what is denied, and what is said of it.
use Rattle.std.specs.Prelude.{◌≡◌, ℕ, ◌+◌, ◌<◌, true, false, List, ◌++◌, codes, Option, Some, None, All, slice_get, take}
use Rattle.std.specs.Fmt.{decimal}
use Rattle.txn_programs.specs.declared.ast.AlwaysId.{AlwaysId}
use Rattle.txn_programs.specs.declared.ast.TxId.{TxId}
use Rattle.txn_programs.specs.Listing.{Listing, always_name}
use Rattle.text_report_printer.specs.Names.{transaction_name}
use Rattle.run_interface.specs.declared.denial.Denial.{Denial}
use Rattle.run_interface.specs.declared.denial.Denial.TheVariants as denial
use Rattle.run_interface.specs.declared.denial.Denials.{Denials}
use Rattle.run_interface.specs.Denied.{denies}
use Rattle.explore_law.specs.declared.found.End.{End}
use Rattle.explore_law.specs.declared.found.Kinds.{Kinds}
use Rattle.explore_law.specs.declared.found.Found.{Found}
use Rattle.explore_law.specs.Orders.{Config, Reached, IsEnd}
use Rattle.explore_law.specs.Explored.{Kind, Returning, Throwing, Overflowing, DividingByZero, GoingOutside, Breaking, shows, Somewhere}
use Rattle.explore_runner.specs.FoundText.{some_wait}
use Rattle.explore_runner.specs.declared.denied.Ending.{Ending}
use Rattle.explore_runner.specs.declared.denied.Ending.TheVariants as ending
use Rattle.explore_runner.specs.declared.denied.Offence.{Offence}
use Rattle.explore_runner.specs.declared.denied.Offence.TheVariants.{Parked, Turn}

-- what is denied of a turn that ends so
abbrev pub denial_of : Kind → Option Denial
denial_of Returning = None
denial_of Throwing = Some denial.Threw
denial_of Overflowing = Some denial.Overflow
denial_of DividingByZero = Some denial.ZeroDiv
denial_of GoingOutside = Some denial.Outside
denial_of (Breaking id) = Some denial.Broke

-- some order comes to an end at which a task waits
pub record WaitsSomewhere (l : Listing) : Type 0 where
  pub config : Config
  pub reached : Reached l config
  pub last : IsEnd l config
  pub waits : some_wait config.left ≡ true

-- some order comes to a turn of which this is denied
pub record TurnsSomewhere (l : Listing) (d : Denial) : Type 0 where
  pub tx : TxId
  pub kind : Kind
  pub somewhere : Somewhere l tx kind
  pub denied : denial_of kind ≡ Some d

-- some order comes to it
abbrev pub IsPossible : Listing → Denial → Type 0
IsPossible l denial.Parked = WaitsSomewhere l
IsPossible l denial.Threw = TurnsSomewhere l denial.Threw
IsPossible l denial.Broke = TurnsSomewhere l denial.Broke
IsPossible l denial.Overflow = TurnsSomewhere l denial.Overflow
IsPossible l denial.ZeroDiv = TurnsSomewhere l denial.ZeroDiv
IsPossible l denial.Outside = TurnsSomewhere l denial.Outside

-- it is not denied, or no order comes to it
abbrev pub IsClear : Listing → Denials → Denial → Type 0
IsClear l ds d = denies ds d ≡ true → IsPossible l d → ⊥

-- that is so of each before it
abbrev pub ClearBefore : Listing → Denials → Denial → Type 0
ClearBefore l ds denial.Parked = Unit {0}
ClearBefore l ds denial.Threw = IsClear l ds denial.Parked
ClearBefore l ds denial.Broke = IsClear l ds denial.Parked × IsClear l ds denial.Threw
ClearBefore l ds denial.Overflow = IsClear l ds denial.Parked × IsClear l ds denial.Threw × IsClear l ds denial.Broke
ClearBefore l ds denial.ZeroDiv = IsClear l ds denial.Parked × IsClear l ds denial.Threw × IsClear l ds denial.Broke × IsClear l ds denial.Overflow
ClearBefore l ds denial.Outside = IsClear l ds denial.Parked × IsClear l ds denial.Threw × IsClear l ds denial.Broke × IsClear l ds denial.Overflow × IsClear l ds denial.ZeroDiv

-- no order comes to anything that is denied
abbrev pub NothingDenied : Listing → Denials → Type 0
NothingDenied l ds = (d : Denial) → IsClear l ds d

abbrev pub kind_of_ending : Ending → Kind
kind_of_ending ending.Threw = Throwing
kind_of_ending (ending.Broke id) = Breaking id
kind_of_ending ending.Overflow = Overflowing
kind_of_ending ending.ZeroDiv = DividingByZero
kind_of_ending ending.Outside = GoingOutside

abbrev pub denial_by : Ending → Denial
denial_by ending.Threw = denial.Threw
denial_by (ending.Broke id) = denial.Broke
denial_by ending.Overflow = denial.Overflow
denial_by ending.ZeroDiv = denial.ZeroDiv
denial_by ending.Outside = denial.Outside

-- what of it is denied
abbrev pub what : Offence → Denial
what (Parked n) = denial.Parked
what (Turn tx how) = denial_by how

-- a task waits at the end of this number, counted from 1, and none does at an end before it
pub record Waits (es : List End) (n : ℕ) : Type 0 where
  pub place : ℕ
  pub number : n ≡ place + 1
  pub end : End
  pub at : slice_get es place ≡ Some end
  pub waits : some_wait end.waiting.items ≡ true
  pub before : All (λ e. some_wait e.waiting.items ≡ false) (take place es)

-- some turn of the transaction ends so; of no transaction before it does a turn end in a way of which the same is denied,
-- and of its own turns none leaves a standing condition untrue that is before that one
pub record IsFirstTurn (l : Listing) (tx : TxId) (how : Ending) : Type 0 where
  pub somewhere : Somewhere l tx (kind_of_ending how)
  pub transaction : (other : TxId) → other.0 < tx.0 → (kind : Kind) → denial_of kind ≡ Some (denial_by how) → Somewhere l other kind → ⊥
  pub condition : (id other : AlwaysId) → how ≡ ending.Broke id → other.0 < id.0 → Somewhere l tx (Breaking other) → ⊥

-- it shows there first: at the end of that number, or in some turn of the transaction
abbrev pub IsSeen : Listing → Found → Offence → Type 0
IsSeen l f (Parked n) = Waits f.ends.items n
IsSeen l f (Turn tx how) = IsFirstTurn l tx how

-- the first of what is denied that some order comes to
pub record IsFirst (l : Listing) (f : Found) (ds : Denials) (o : Offence) : Type 0 where
  pub denied : denies ds (what o) ≡ true
  pub seen : IsSeen l f o
  pub before : ClearBefore l ds (what o)

abbrev pub ending_words : Listing → Ending → List ℕ
ending_words l ending.Threw = codes " threw"
ending_words l (ending.Broke id) = codes " broke " ++ always_name l id
ending_words l ending.Overflow = codes " overflow"
ending_words l ending.ZeroDiv = codes " zerodiv"
ending_words l ending.Outside = codes " outside"

-- a space, and the same as one word of a command line
abbrev pub ending_word : Listing → Ending → List ℕ
ending_word l ending.Threw = codes " threw"
ending_word l (ending.Broke id) = codes " 'broke " ++ (always_name l id ++ codes "'")
ending_word l ending.Overflow = codes " overflow"
ending_word l ending.ZeroDiv = codes " zerodiv"
ending_word l ending.Outside = codes " outside"

abbrev pub find_words : Listing → TxId → Ending → List ℕ
find_words l tx how = codes ": see --find " ++ (transaction_name l tx.0 ++ ending_word l how)

abbrev pub turn_words : Listing → TxId → Ending → List ℕ
turn_words l tx how = transaction_name l tx.0 ++ (ending_words l how ++ find_words l tx how)

-- what is denied, and what shows it
abbrev pub offence_words : Listing → Offence → List ℕ
offence_words l (Parked n) = codes "parked: see --to " ++ decimal n
offence_words l (Turn tx how) = turn_words l tx how

abbrev pub denied_line : Listing → Offence → List ℕ
denied_line l o = codes "stm: denied: " ++ offence_words l o

-- by the kinds of a transaction's turns: none of which this is denied
abbrev pub NoneEnds : Kinds → Denial → Type 0
NoneEnds ks denial.Parked = Unit {0}
NoneEnds ks denial.Threw = ks.threw ≡ false
NoneEnds ks denial.Broke = All (λ b. b ≡ false) ks.broke
NoneEnds ks denial.Overflow = ks.overflow ≡ false
NoneEnds ks denial.ZeroDiv = ks.zerodiv ≡ false
NoneEnds ks denial.Outside = ks.outside ≡ false

-- by the kinds of a transaction's turns: none leaves a standing condition untrue that is before the one of this end
abbrev pub IsFirstBroken : Kinds → Ending → Type 0
IsFirstBroken ks how = (id other : AlwaysId) → how ≡ ending.Broke id → other.0 < id.0 → shows ks (Breaking other) ≡ false

-- by the kinds of all transactions' turns: the first of this transaction, of which this is denied
pub record Ends (kinds : List Kinds) (d : Denial) (tx : TxId) (how : Ending) : Type 0 where
  pub ks : Kinds
  pub at : slice_get kinds tx.0 ≡ Some ks
  pub shows : shows ks (kind_of_ending how) ≡ true
  pub denied : denial_by how ≡ d
  pub first : IsFirstBroken ks how
  pub before : All (λ k. NoneEnds k d) (take tx.0 kinds)
