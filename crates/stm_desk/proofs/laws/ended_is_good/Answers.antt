use Rattle.std.proofs.Common.{Result, String, subst}
use Rattle.std.specs.Global.{Global}
use Rattle.std.proofs.Math.Logic.{∥∥₁_map}
use Rattle.book.specs.View.{BookView}
use Rattle.stm_desk.specs.Telling.{IsFileTold, TellsOf}
use Rattle.stm_desk.specs.declared.ended.TooLong.{TooLong}
use Rattle.stm_desk.proofs.laws.ended_is_good.Goals as goal

pub returns : goal.returns
returns c file is =
    let e = c.args.ended.now in
    ∥∥₁_map e.told (λ (t : (b : BookView) × TellsOf b e.file e.report).
    c.file_and_report_agree.ensures t.0 _ _ (subst (λ (f : Result (String Global) TooLong). IsFileTold t.0 f) is t.1.file_is) t.1.report_is)
