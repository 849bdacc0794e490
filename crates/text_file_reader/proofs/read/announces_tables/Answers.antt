use Rattle.std.proofs.Common.{◌≡◌, ◌↔◌, true, false, List, Ok, refl}
use Rattle.text_words.specs.Tokens.{Lexeme, tokens}
use Rattle.text_grammar.specs.Reading.{heading_at}
use Rattle.text_grammar.specs.declared.file.FileForm.TheVariants.{Three}
use Rattle.text_file_reader.proofs.Announced.{only_three, announced_is, nothing_announced}
use Rattle.text_file_reader.proofs.read.announces_tables.Goals as goal

pub returns-in-Ok : goal.returns-in-Ok
returns-in-Ok c =
    let is : (c.has_tables.result ≡ true) ↔ ((rest : List Lexeme) × (heading_at (tokens c.args.bytes.now) ≡ Ok (Three, rest))) = rw c.has_tables.ensures (announced_is c.args.bytes.now c.in-Ok.file_form _ c.in-Ok.ensures.value) in
    record { announced = is; cells = only_three c.args.bytes.now c.has_tables.result is }

pub returns-in-Err : goal.returns-in-Err
returns-in-Err c =
    let is : (false ≡ true) ↔ ((rest : List Lexeme) × (heading_at (tokens c.args.bytes.now) ≡ Ok (Three, rest))) = nothing_announced c.args.bytes.now c.in-Err.field-0 c.in-Err.ensures.kind c.in-Err.ensures.value in
    record { announced = is; cells = only_three c.args.bytes.now false is }
