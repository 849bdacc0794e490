use Rattle.std.proofs.Common.{refl}
use Rattle.world.proofs.trial.Trial.go_on.Goals as goal

pub returns : goal.returns
returns c = record {
  task = refl;
  rv = refl;
  loads = refl;
  movable = refl;
  check = refl;
  log = c.advance-self.ensures.log;
  program = c.advance-self.ensures.program;
  variables = c.advance-self.ensures.variables;
  answers = c.advance-self.ensures.answers;
  needs = λ x e. (c.advance-self.ensures.needed x e).0;
  fate = c.fate_after-self.ensures;
  seen = c.seen_of.ensures;
  short = c.advance-self.ensures.in_place;
}
