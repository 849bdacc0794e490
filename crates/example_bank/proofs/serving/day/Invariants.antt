use Rattle.example_bank.proofs.serving.day.Given as goal

-- the bank is of this program
abbrev pub ghosts-day_of : goal.ghosts-day_of
ghosts-day_of g a = record { catalogue = a.program.catalogue.now }
