use Rattle.explore_search.proofs.Keeping.{put_answers, put_holds}
use Rattle.explore_search.proofs.kept.Kept.answer_on.Goals as goal

pub returns-clause-answers : goal.returns-clause-answers
returns-clause-answers c =
    put_answers c.args.catalogue.now c.args.self.now.answers.items c.put.new.self.answers.items c.in_ok-number.number c.in_ok-answer.answer c.in_ok-number.ensures c.in_ok-answer.ensures.answer c.requires.answers

pub returns-clause-holds : goal.returns-clause-holds
returns-clause-holds c =
    put_holds c.args.self.now.answers.items c.put.new.self.answers.items c.in_ok-number.number c.in_ok-answer.answer c.args.k c.args.values.now c.in_ok-number.ensures c.in_ok-answer.ensures.holds
