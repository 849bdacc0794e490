use Rattle.std.proofs.Common.{◌≡◌, ◌⊎◌, ℕ, List, Result, Ok, Err, Some, IfErr, inl, inr, ⊎_elim, subst}
use Rattle.text_words.specs.declared.fault.ReadFault.{ReadFault}
use Rattle.text_words.specs.declared.fault.ReadFault.TheVariants.{Memory}
use Rattle.text_grammar.specs.Spelling.{first_fault}
use Rattle.text_file_reader.specs.Faults.{IsFirst}
use Rattle.text_file_reader.proofs.FirstFault.{first_fault_is}
use Rattle.txn_programs.specs.Listing.{Listing}
use Rattle.text_words.specs.Answers.{Gives}
use Rattle.text_file_reader.proofs.Spelt.{is_found, is_fault, spelled_listing}
use Rattle.text_file_reader.proofs.read.read_file.Goals as goal

abbrev same : Listing → Listing
same c = c

pub returns-clause-found : goal.returns-clause-found
returns-clause-found c = is_found same c.args.bytes.now c.read.result c.read.ensures

pub returns-clause-only : goal.returns-clause-only
returns-clause-only c l spelled = subst (Gives same c.read.result) (spelled_listing c.args.bytes.now l spelled) c.read.ensures

first_of : (bytes : List ℕ) (r : Result Listing ReadFault) → IfErr r (λ e. (e ≡ Memory) ⊎ (first_fault bytes ≡ Some e)) → IfErr r (λ e. (e ≡ Memory) ⊎ IsFirst bytes e)
first_of bytes (Ok l) h = tt
first_of bytes (Err e) h = ⊎_elim (λ m. inl m) (λ f. inr (first_fault_is bytes e f)) h

pub returns-clause-fault : goal.returns-clause-fault
returns-clause-fault c = first_of c.args.bytes.now c.read.result (is_fault same c.args.bytes.now c.read.result c.read.ensures)

pub returns-clause-as_read : goal.returns-clause-as_read
returns-clause-as_read c = is_fault same c.args.bytes.now c.read.result c.read.ensures
