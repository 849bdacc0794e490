use Rattle.std.proofs.Common.{◌≡◌, ◌∙◌, pos, rules, sym}
use Rattle.std.proofs.lemmas.Int.{to_z-of_z}
use Rattle.std.specs.Int.{w32}
use mir.Val.{SFits}
use Rattle.stm_c.proofs.ended_texts.file_of.Goals as goal

pub returns-in-Ok-clause-done : goal.returns-in-Ok-clause-done
returns-in-Ok-clause-done c done =
    let fits : SFits w32 c.copy.result = search rules in
    let copied : c.copy.result ≡ pos 0 = sym (to_z-of_z w32 c.copy.result fits) ∙ done in
    record {
      text = c.as_bytes.result.now;
      is = record { file = c.in-Ok.text; of = c.in-Ok.is; bytes = c.as_bytes.ensures.value };
      length_is = c.copy.ensures.wanted;
      written = c.copy.ensures.done copied;
    }

pub returns-in-Ok-clause-too_short : goal.returns-in-Ok-clause-too_short
returns-in-Ok-clause-too_short c short =
    let fits : SFits w32 c.copy.result = search rules in
    let why = c.copy.ensures.why (sym (to_z-of_z w32 c.copy.result fits) ∙ short) in
    record {
      text = c.as_bytes.result.now;
      is = record { file = c.in-Ok.text; of = c.in-Ok.is; bytes = c.as_bytes.ensures.value };
      length_is = c.copy.ensures.wanted;
      longer = why.0;
      stays = why.1;
    }
