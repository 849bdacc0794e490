use Rattle.std.proofs.Common.{◌∙◌, Ok, Err, ℤ, refl, rules, subst, sym}
use Rattle.std.proofs.lemmas.Int.{to_z-of_z}
use Rattle.std.specs.Int.{w32}
use mir.Val.{SFits}
use Rattle.stm_c.specs.DeskChapters.{EndsFor}
use Rattle.stm_c.proofs.DeskGiving.{ends_for}
use Rattle.stm_c.proofs.desk_chapters.end_chapter.Goals as goal

pub returns-in-Ok : goal.returns-in-Ok
returns-in-Ok c =
    let fits : SFits w32 c.hand_over.result = search rules in
    let mid = c.end_chapter.new.self in
    let e = c.in-Ok.ensures in
    subst (λ (n : ℤ). EndsFor c.args.desk.now c.args.out.now.value n c.hand_over.new.out.value c.hand_over.new.desk) (sym (to_z-of_z w32 c.hand_over.result fits))
    (ends_for c.args.desk.now mid c.hand_over.new.desk c.args.out.now.value c.hand_over.result c.hand_over.new.out.value (Ok c.in-Ok.ended) c.if-is_full.ensures.full e.ended e.history e.first e.closed c.hand_over.ensures)

pub returns-in-Err : goal.returns-in-Err
returns-in-Err c =
    let fits : SFits w32 c.code_of.result = search rules in
    let mid = c.end_chapter.new.self in
    let e = c.in-Err.ensures in
    subst (λ (n : ℤ). EndsFor c.args.desk.now c.args.out.now.value n c.is_full.new.self.value mid) (sym (to_z-of_z w32 c.code_of.result fits))
    (ends_for c.args.desk.now mid mid c.args.out.now.value c.code_of.result c.is_full.new.self.value (Err c.in-Err.why) c.if-is_full.ensures.full e.ended e.history e.first e.closed (c.code_of.ensures.number, c.if-is_full.ensures.stays ∙ c.if-is_full.ensures.full, refl))
