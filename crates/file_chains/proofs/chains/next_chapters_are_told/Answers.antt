use Rattle.file_chains.proofs.Coming.{next_is_told}
use Rattle.file_chains.proofs.chains.next_chapters_are_told.Goals as goal

pub returns : goal.returns
returns c b r fits idle is = next_is_told b r fits idle is
