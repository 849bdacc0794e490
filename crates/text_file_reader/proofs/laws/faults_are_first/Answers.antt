use Rattle.text_file_reader.proofs.FirstFault.{first_fault_is}
use Rattle.text_file_reader.proofs.laws.faults_are_first.Goals as goal

pub returns : goal.returns
returns c = first_fault_is
