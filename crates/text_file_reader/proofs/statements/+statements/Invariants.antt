use Rattle.std.proofs.Common.{◌+◌, ◌*◌, List, length, map}
use Rattle.txn_programs.specs.Tree.{statement_of}
use Rattle.text_words.specs.Tokens.{tokens}
use Rattle.text_words.specs.TokenReading.{all_of, is_open}
use Rattle.text_grammar.specs.Tree.{Stmt}
use Rattle.text_grammar.specs.Reading.{stmt_at}
use Rattle.text_grammar.specs.Resolving.{statement_in}
use Rattle.text_resolver.specs.Scopes.{view_scope}
use Rattle.text_file_reader.proofs.AtOnce.{GoesOn}
use Rattle.text_file_reader.proofs.statements.+statements.Given as goal

abbrev pub decreases-statement_at_once : goal.decreases-statement_at_once
decreases-statement_at_once l = 4 * l.depth

abbrev pub decreases-seq_at_once : goal.decreases-seq_at_once
decreases-seq_at_once l = 4 * l.depth + 3

abbrev pub invariant-seq_at_once-parts : goal.invariant-seq_at_once-parts
invariant-seq_at_once-parts l = (items : List Stmt) × GoesOn is_open (stmt_at l.fn.file_form l.fn.depth) (statement_in (view_scope l.fn.scope)) (all_of is_open (stmt_at l.fn.file_form l.fn.depth) (tokens l.fn.bytes)) items (map statement_of l.parts.items) (tokens l.rest)

abbrev pub decreases-seq_at_once-parts : goal.decreases-seq_at_once-parts
decreases-seq_at_once-parts l = length (tokens l.rest)

abbrev pub decreases-if_at_once : goal.decreases-if_at_once
decreases-if_at_once l = 4 * l.depth + 3

abbrev pub decreases-repeat_at_once : goal.decreases-repeat_at_once
decreases-repeat_at_once l = 4 * l.depth + 3

abbrev pub decreases-orelse_at_once : goal.decreases-orelse_at_once
decreases-orelse_at_once l = 4 * l.depth + 3

abbrev pub decreases-branches_at_once : goal.decreases-branches_at_once
decreases-branches_at_once l = 4 * l.depth + 2

abbrev pub decreases-boxed : goal.decreases-boxed
decreases-boxed l = 4 * l.depth + 1
