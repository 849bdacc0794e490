use Rattle.std.proofs.Common.{arith}
use Rattle.cells_tests.proofs.observing.told.Goals as goal

pub tell-requires-clause-exists : goal.tell-requires-clause-exists
tell-requires-clause-exists c =
    omega (arith, (c.advance.ensures.needed c.in-Need.x c.in-Need.is).0, c.advance.ensures.variables, c.requires.variables)
