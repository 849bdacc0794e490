use Rattle.std.proofs.Common.{◌≡◌, map, take}
use Rattle.example_bank.specs.Balances.{total}
use Rattle.example_bank.proofs.declaring.all_of.Given as goal

abbrev pub invariant-loop-account : goal.invariant-loop-account
invariant-loop-account l = l.all ≡ total (map (λ a. a.1) (take l.account-index l.accounts))
