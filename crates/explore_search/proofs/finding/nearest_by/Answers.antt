use Rattle.std.proofs.Common.{◌≡◌, ℕ, ◌+◌, ◌<◌, ◌≤◌, length, sum, Option, Some, sym, ◌∙◌, ap, subst, arith}
use Rattle.explore_law.specs.declared.instance.InstanceId.{InstanceId}
use Rattle.explore_law.specs.Explored.{end_config}
use Rattle.explore_law.specs.Orders.{Config}
use Rattle.explore_law.specs.Finding.{ShowsAt}
use Rattle.explore_search.proofs.Calls.{few}
use Rattle.explore_search.specs.Indexed.{config_at}
use Rattle.explore_search.specs.Nearest.{ByOrNone, IsNearestOrNone}
use Rattle.explore_search.proofs.Nearing.{AreLeft, none_by, none_nearer, not_there, nearer}
use Rattle.explore_search.proofs.finding.nearest_by.Goals.{then-all-most+in_ok-by+in-Some, then-all-most+in_ok-by+in_default, else-all-most}
use Rattle.explore_search.proofs.finding.nearest_by.Goals as goal

pub in_all-all-requires : goal.in_all-all-requires
in_all-all-requires c =
    let l = c.args.catalogue.now in
    let low : c.configs.i < length c.args.configs.now.configs = omega (arith, c.configs-test.true, c.len-i-end.ensures) in
    let size = (c.requires.sized c.configs.i low).1 in
    omega (arith, ap length c.as_slice.ensures.value, ap (λ (p : Config). length p.left) c.in_ok-read.ensures, size, ap length c.requires.calls, few l c.args.calls.now c.rules.ensures.limits c.requires.calls)

pub configs-preserved : goal.configs-preserved
configs-preserved c =
    let l = c.args.catalogue.now in
    let tx = c.args.tx in
    let s = c.args.sought in
    let ps = c.args.configs.now.configs in
    let i = c.configs.i in
    let inv = c.configs.invariant in
    let all : c.in_all-all.result ≡ sum (config_at ps i).left = c.in_all-all.ensures ∙ (ap sum c.as_slice.ensures.value ∙ ap (λ (p : Config). sum p.left) c.in_ok-read.ensures) in
    let N : Option (ℕ × InstanceId) → Type 0 = IsNearestOrNone l tx s ps (i + 1) in
    let M : ℕ → Option (ℕ × InstanceId) → Type 0 = AreLeft l tx s ps in
    elim c.if-all-most.branch [
      | then-all-most+in_ok-by+in-Some w ↦
          let more : c.configs.most < sum (config_at ps i).left = omega (arith, w.if-all-most.true, all) in
          let shows = subst (λ (p : Config). ByOrNone l tx s p (Some w.in-Some.instance)) c.in_ok-read.ensures (subst (ByOrNone l tx s (end_config c.read.new.into)) w.in-Some.is w.in_ok-by.ensures) in
          record {
            nearest = subst N (sym w.nearest-is) (nearer l tx s ps i c.configs.most w.in-Some.instance c.configs.nearest inv.most more shows inv.nearest);
            most = subst (λ (m : ℕ). M m c.if-all-most.nearest) (sym w.most-is) (subst (M c.in_all-all.result) (sym w.nearest-is) all);
          }
      | then-all-most+in_ok-by+in_default w ↦
          let lacks : ShowsAt l tx s (config_at ps i) → ⊥ = none_by l tx s (config_at ps i) w.in_ok-by.by (subst (λ (p : Config). ByOrNone l tx s p w.in_ok-by.by) c.in_ok-read.ensures w.in_ok-by.ensures) w.in_default.not-Some in
          record {
            nearest = subst N (sym w.nearest-is) (not_there l tx s ps i c.configs.nearest lacks inv.nearest);
            most = subst (λ (m : ℕ). M m c.if-all-most.nearest) (sym w.most-is) (subst (M c.configs.most) (sym w.nearest-is) inv.most);
          }
      | else-all-most w ↦
          let less : sum (config_at ps i).left ≤ c.configs.most = omega (arith, w.if-all-most.false, all) in
          record {
            nearest = subst N (sym w.nearest-is) (none_nearer l tx s ps i c.configs.most c.configs.nearest inv.most less inv.nearest);
            most = subst (λ (m : ℕ). M m c.if-all-most.nearest) (sym w.most-is) (subst (M c.configs.most) (sym w.nearest-is) inv.most);
          }
    ]
