use Rattle.std.proofs.Common.{ℤ, rules, subst, sym}
use Rattle.std.proofs.lemmas.Int.{to_z-of_z}
use Rattle.std.specs.Int.{w32}
use mir.Val.{SFits}
use Rattle.stm_desk.specs.declared.ended.Last.TheVariants as Last
use Rattle.stm_c.specs.DeskChapters.{GivesBack}
use Rattle.stm_c.proofs.DeskGiving.{given_back, not_given}
use Rattle.stm_c.proofs.desk_chapters.kept.Goals as goal

pub returns-in-Ok-kept : goal.returns-in-Ok-kept
returns-in-Ok-kept c =
    let given = c.in-Ok.ensures.given in
    given_back c.args.desk.now c.kept.new.self c.args.ended.now.value c.given_back.new.ended.value (λ _. Last.Kept) c.in-Ok.ended given.0 given.1 c.in-Ok-kept.ensures

pub returns-in-Err : goal.returns-in-Err
returns-in-Err c =
    let fits : SFits w32 c.in-Err.why = search rules in
    subst (λ (n : ℤ). GivesBack c.args.desk.now c.args.ended.now.value (λ _. Last.Kept) n c.given_back.new.ended.value c.args.desk.now) (sym (to_z-of_z w32 c.in-Err.why fits))
    (not_given c.args.desk.now c.args.ended.now.value c.given_back.new.ended.value (λ _. Last.Kept) c.in-Err.why c.in-Err.ensures.not c.in-Err.ensures.kept)
