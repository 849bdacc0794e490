use Rattle.txn_text_tests.proofs.Late.{file_back, file_fails}
use Rattle.txn_text_tests.proofs.round_trips.file_of.Goals as goal

pub returns-clause-same : goal.returns-clause-same
returns-clause-same c = file_back c.args.bytes.now c.args.catalogue.now c.read_file.result c.requires c.read_file.ensures.found c.read_file.ensures.only

pub returns-clause-fault : goal.returns-clause-fault
returns-clause-fault c = file_fails c.args.bytes.now c.args.catalogue.now c.read_file.result c.requires c.read_file.ensures.only c.read_file.ensures.fault
