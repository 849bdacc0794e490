use Rattle.text_resolver.proofs.Texts.{new_name, old_name}
use Rattle.text_resolver.proofs.names.declare.Goals as goal

pub returns-in-Ok-true : goal.returns-in-Ok-true
returns-in-Ok-true c = new_name c.args.name c.args.names.now.keys c.insert.new.self.keys _ c.in-Ok-true.ensures.added c.in-Ok-true.field-0-test c.in-Ok-true.ensures.keys

pub returns-in-Ok-false : goal.returns-in-Ok-false
returns-in-Ok-false c = old_name c.args.name c.args.names.now.keys _ c.in-Ok-false.ensures.added c.in-Ok-false.field-0-test
