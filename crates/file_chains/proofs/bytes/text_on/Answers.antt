use Rattle.std.proofs.Common.{IfOk, subst, string_bytes}
use Rattle.txn_programs.specs.Listing.{Listing}
use Rattle.file_chains.specs.Printing.{IsTextOf}
use Rattle.file_chains.proofs.bytes.text_on.Goals as goal

pub returns : goal.returns
returns c = subst (λ (l : Listing). IfOk c.text_of.result (λ text. IsTextOf l (string_bytes text))) c.in_ok-following.ensures c.text_of.ensures
