use Rattle.std.proofs.Common.{◌≡◌, take}
use Rattle.std.specs.List.{list_all}
use Rattle.text_words.specs.Bytes.{is_allowed}
use Rattle.text_words.proofs.bytes.are_allowed.Given as goal

abbrev pub invariant-bytes : goal.invariant-bytes
invariant-bytes l = l.allowed ≡ list_all is_allowed (take l.b-index l.bytes)
