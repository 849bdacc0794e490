use Rattle.std.proofs.Common.{◌≡◌, ◌∙◌, ◌++◌, map, Some, ap, sym, append_assoc, string_bytes}
use Rattle.std.specs.Prelude.{codes}
use Rattle.std.specs.List.{slice_get}
use Rattle.std.specs.Option.{option_map}
use Rattle.std.proofs.lemmas.Option.{slice_get-map, slice_get-get_or}
use Rattle.text_file_printer.specs.Canonical.{spaced}
use Rattle.text_words.proofs.Pieces.{piece_more}
use Rattle.text_file_printer.proofs.file.put_others.Goals as goal

pub names-preserved : goal.names-preserved
names-preserved c =
    let names = c.args.names.now in
    let i = c.names.name-index in
    let x = c.name-item.result in
    let out = string_bytes c.names.out in
    let at : slice_get (map string_bytes names) i ≡ Some (string_bytes x) =
    slice_get-map string_bytes names i ∙ ap (option_map string_bytes) (slice_get-get_or names i x c.names-test.true ∙ ap (λ y. Some y) (sym c.name-item.is)) in
    let put : string_bytes c.push_str-in-names.new.self ≡ out ++ spaced (string_bytes x) =
    c.in_ok-push_str-2.ensures.bytes ∙ ap (λ m. m ++ c.as_str.result.now) c.in_ok-push_str.ensures.bytes
    ∙ append_assoc out (codes " ") c.as_str.result.now ∙ ap (λ t. out ++ (codes " " ++ t)) c.as_str.ensures.value in
    piece_more spaced (map string_bytes names) i (string_bytes x) (string_bytes c.args.out.now) out (string_bytes c.push_str-in-names.new.self) at c.names.invariant put
