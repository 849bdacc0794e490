use Rattle.example_scheduler.specs.Plan.{after_of}
use Rattle.example_scheduler.proofs.crew.run.Given as goal

-- the run is of this plan
abbrev pub ghosts-run_named : goal.ghosts-run_named
ghosts-run_named g a = record { catalogue = a.program.catalogue.now; after = after_of a.steps.now }
