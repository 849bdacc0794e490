use Rattle.std.proofs.Common.{◌≡◌, ◌∙◌, ◌++◌, ◌-◌, codes, length, pos, rules, subst, sym, take, List, ℕ}
use Rattle.std.proofs.lemmas.Int.{to_z-of_z}
use Rattle.std.specs.Int.{w32}
use Rattle.explain_files.specs.Telling.{IsLineWith, head_of}
use mir.Val.{SFits}
use Rattle.stm_c.proofs.Line.{without_end}
use Rattle.stm_c.proofs.explaining.tell.Goals as goal

pub returns-clause-done : goal.returns-clause-done
returns-clause-done c done =
    let fits : SFits w32 c.copy.result = search rules in
    let copied : c.copy.result ≡ pos 0 = sym (to_z-of_z w32 c.copy.result fits) ∙ done in
    let front = head_of c.args.file.now c.args.refusal.now in
    let line = c.as_bytes-line.result.now in
    let whole : IsLineWith front line = subst (IsLineWith front) (sym c.as_bytes-line.ensures.value) c.in-Ok.ensures in
    record {
      text = take (length line - 1) line;
      is = record {
        refusal = c.args.refusal.now;
        refused = c.requires;
        code = search rules;
        line = c.position_of-at.ensures.line;
        column = c.position_of-at.ensures.column;
        place = search rules;
        words = without_end front line whole;
      };
      length_is = c.copy.ensures.wanted;
      written = c.copy.ensures.done copied;
    }

pub returns-clause-too_short : goal.returns-clause-too_short
returns-clause-too_short c short =
    let fits : SFits w32 c.copy.result = search rules in
    let why = c.copy.ensures.why (sym (to_z-of_z w32 c.copy.result fits) ∙ short) in
    let front = head_of c.args.file.now c.args.refusal.now in
    let line = c.as_bytes-line.result.now in
    let whole : IsLineWith front line = subst (IsLineWith front) (sym c.as_bytes-line.ensures.value) c.in-Ok.ensures in
    record {
      text = take (length line - 1) line;
      is = record {
        refusal = c.args.refusal.now;
        refused = c.requires;
        code = search rules;
        line = c.position_of-at.ensures.line;
        column = c.position_of-at.ensures.column;
        place = search rules;
        words = without_end front line whole;
      };
      length_is = c.copy.ensures.wanted;
      longer = why.0;
      stays = why.1;
    }
