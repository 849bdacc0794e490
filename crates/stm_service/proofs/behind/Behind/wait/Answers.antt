use Rattle.std.proofs.Common.{◌≡◌, ◌∙◌, ◌++◌, ◌∷◌, [], OnOk, ap, subst}
use Rattle.stm_desk.specs.declared.answers.Became.TheVariants as became
use Rattle.stm_desk.specs.History.{History}
use Rattle.stm_desk.specs.Waiting.{waiting_at}
use Rattle.stm_service.proofs.Asking.{waited_left}
use Rattle.stm_service.proofs.Waiting.{nothing_there}
use Rattle.stm_service.proofs.behind.Behind.wait.Goals as goal

pub returns-in-None : goal.returns-in-None
returns-in-None g c =
    let s = c.args.self.now in
    let one = c.args.ticket in
    let waits = ap (λ d. waiting_at d.work.waiters one.0) c.sit.ensures.desk ∙ c.requires.waits.1 in
    let ok = c.leave-left.ensures.waited (λ none. nothing_there (waiting_at c.sit.new.self.desk.work.waiters one.0) c.requires.waits.0 none waits) in
    let h = s.front in
    let left : c.leave-left.new.self.front ≡ c.sit.new.self.front ++ (one, became.Left) ∷ [] = subst (λ r. OnOk r (c.leave-left.new.self.front ≡ c.sit.new.self.front ++ (one, became.Left) ∷ [])) ok c.leave-left.ensures.left in
    let now : c.again.result ≡ h ++ (one, became.Left) ∷ [] = c.again.ensures ∙ (left ∙ ap (λ (x : History). x ++ (one, became.Left) ∷ []) c.sit.ensures.front) in
    waited_left h c.args.front.now c.again.result one c.requires.covers now
