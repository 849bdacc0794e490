-- What a caller sees of a publisher, however it publishes.
use Rattle.cells.specs.Publishing.{Publishing}
use Rattle.cells.specs.declared.publisher.How.{How}
use Rattle.cells.specs.declared.publisher.How.TheVariants.{Stores, Keeps}

abbrev pub seen_of : How → Publishing
seen_of (Stores p) = p
seen_of (Keeps p) = p
