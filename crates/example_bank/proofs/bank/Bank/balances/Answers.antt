use Rattle.example_bank.proofs.Sound.{sound_values}
use Rattle.example_bank.proofs.bank.Bank.balances.Goals as goal

pub returns : goal.returns
returns g c =
    let s = c.args.self.now in
    sound_values s.store.catalogue.now _ s.store.book c.values.result s.named c.law.ensures.declared c.law.ensures.wide c.requires c.law.ensures.fits c.law.ensures.upheld c.values.ensures
