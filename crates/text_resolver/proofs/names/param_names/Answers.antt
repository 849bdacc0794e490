use Rattle.text_resolver.proofs.Each.{filled}
use Rattle.text_resolver.specs.Texts.{texts}
use Rattle.text_resolver.proofs.names.param_names.Goals as goal

pub returns : goal.returns
returns c = rw c.and.ensures (filled (λ names. texts names.keys) c.declare_parameters.result c.declare_parameters.new.names _ c.declare_parameters.ensures)
