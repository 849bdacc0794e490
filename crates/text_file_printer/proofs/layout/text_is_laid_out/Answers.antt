use Rattle.text_file_printer.proofs.LaidOut.{text_is_laid_out}
use Rattle.text_file_printer.proofs.layout.text_is_laid_out.Goals as goal

pub returns : goal.returns
returns c f = text_is_laid_out f
