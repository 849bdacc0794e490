use Rattle.std.proofs.Common.{rules}
use Rattle.example_bank.proofs.Totals.{total_more}
use Rattle.example_bank.proofs.declaring.all_of.Goals as goal

pub loop-account-preserved : goal.loop-account-preserved
loop-account-preserved c = let more = total_more c.args.accounts.now c.loop-account.account-index c.account-item.result (search rules) c.account-item.is in search rules
