use Rattle.text_resolver.proofs.Each.{filled}
use Rattle.text_resolver.specs.Texts.{texts}
use Rattle.text_resolver.proofs.tables.table_names.Goals as goal

pub returns : goal.returns
returns c = rw c.and.ensures (filled (λ names. texts names.keys) c.declare_tables.result c.declare_tables.new.names _ (rw c.new-names.ensures.empty at c.declare_tables.ensures))
