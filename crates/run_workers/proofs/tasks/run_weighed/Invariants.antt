use Rattle.run_workers.proofs.tasks.run_weighed.Given as goal

-- the run is of this catalogue, and has these checkpoints
abbrev pub ghosts-drain_named : goal.ghosts-drain_named
ghosts-drain_named g a = record { catalogue = a.catalogue.now; every = a.options.checkpoint }

abbrev pub ghosts-run_named : goal.ghosts-run_named
ghosts-run_named g a = record { catalogue = a.catalogue.now; every = a.ways.options.checkpoint }
