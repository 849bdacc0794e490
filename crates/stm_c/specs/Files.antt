-- Calls on whole files.
use Rattle.std.specs.Prelude.{◌≡◌, ◌-◌, ℕ, ℤ, List, Some, Result, Ok, Err, ◌⊎◌}
use Rattle.text_grammar.specs.Spelling.{first_fault}
use Rattle.txn_text.specs.Faults.{IsFirst}
use Rattle.text_words.specs.declared.fault.ReadFault.{ReadFault}
use Rattle.text_words.specs.declared.fault.ReadFault.TheVariants as refused
use Rattle.checker.specs.Verdicts.{Judges}
use Rattle.checker.specs.declared.verdict.Verdict.{Verdict}
use Rattle.explore_runner.specs.Witness.{IsPast}
use Rattle.world_runner.specs.Showing.{IsNoSchedule}
use Rattle.stm_c.specs.Numbers.{number_of_fault, number_of_schedule_fault, number_of_verdict}

-- the verdict on the report; or out of memory, or the first fault of the file
abbrev pub IsJudged : List ℕ → List ℕ → Result Verdict ReadFault → Type 0
IsJudged file report (Ok v) = Judges file report v
IsJudged file report (Err e) = (e ≡ refused.Memory) ⊎ IsFirst file e

-- `stm_check`: the number of such an answer
pub record Judged (file report : List ℕ) (n : ℤ) : Type 0 where
  pub answer : Result Verdict ReadFault
  pub is : IsJudged file report answer
  pub answered : n ≡ number_of_verdict answer

-- the number of the fault of the file that reading comes to first, or of running out of memory
pub record IsRefused (file : List ℕ) (n : ℤ) : Type 0 where
  pub fault : ReadFault
  pub is : (fault ≡ refused.Memory) ⊎ (first_fault file ≡ Some fault)
  pub answered : n ≡ number_of_fault fault

-- the file is spelled, and this is the number of the first fault of the schedule
pub record IsNotPlayed (file schedule : List ℕ) (n : ℤ) : Type 0 where
  pub fault : ReadFault
  pub is : IsNoSchedule file schedule fault
  pub answered : n ≡ number_of_schedule_fault fault

-- `stm_explore_to`: ends are counted from 1, and there is none of this number
abbrev pub IsNoEnd : List ℕ → ℕ → Type 0
IsNoEnd file end = (end ≡ 0) ⊎ ((text : List ℕ) × IsPast file (end - 1) text)
