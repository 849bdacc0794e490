use Rattle.std.proofs.Common.{rules, length, map, ap, ◌∙◌}
use Rattle.std.proofs.lemmas.List.{length-map}
use Rattle.txn_programs.specs.Listing.{Listing}
use Rattle.example_bank.proofs.Sound.{is_bank}
use Rattle.example_bank.proofs.Totals.{bank_of, accounts_of, without_tables}
use Rattle.example_bank.proofs.declaring.declared.Goals as goal

pub returns-in-Ok-build-clause-accounts : goal.returns-in-Ok-build-clause-accounts
returns-in-Ok-build-clause-accounts c =
    accounts_of c.kept.result c.in-Ok-build.catalogue (map (λ a. a.1) c.args.accounts.items)
    (ap (λ (k : Listing). k.initial) c.in-Ok-build.ensures.built ∙ without_tables c.args.accounts.items c.new.result.items c.new.ensures.items)
    c.kept.ensures

pub returns-in-Ok-build-clause-bank : goal.returns-in-Ok-build-clause-bank
returns-in-Ok-build-clause-bank c =
    let values = ap (λ (k : Listing). k.initial) c.in-Ok-build.ensures.built ∙ without_tables c.args.accounts.items c.new.result.items c.new.ensures.items in
    bank_of c.kept.result c.in-Ok-build.catalogue
    (is_bank c.in-Ok-build.catalogue (length c.args.accounts.items) c.in-Some.all (search rules)
    (ap length values ∙ length-map c.args.accounts.items _)
    (search (rules, c.in-Some.ensures, c.deref.ensures.value, values)))
    c.kept.ensures
