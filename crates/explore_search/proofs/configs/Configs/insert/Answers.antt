use Rattle.std.proofs.Common.{rules, ◌≡◌, ℕ, ◌+◌, ◌<◌, List, [], ◌∷◌, ◌++◌, length, get_or, set, sym, ◌∙◌, ap, subst, arith}
use Rattle.std.specs.List.{Contains}
use Rattle.explore_law.specs.Orders.{Config}
use Rattle.explore_search.specs.Bucket.{bucket_of}
use Rattle.explore_search.specs.Shelf.{Shelf, config}
use Rattle.explore_search.specs.Indexed.{IsIndexed}
use Rattle.explore_search.proofs.Indexing.{any_default, indexed_more, none_from}
use Rattle.explore_search.proofs.configs.Configs.insert.Goals as goal

pub invariant_of-self-2 : goal.invariant_of-self-2
invariant_of-self-2 c =
    let a = c.self.inside in
    let b = c.bucket-bucket.result in
    let p = config c.args.values.now c.args.left.now in
    let new : Contains a.rows.configs p → ⊥ = none_from c.listed_at-number.result c.is_some.result c.is_some.ensures c.if-is_some.false c.listed_at-number.ensures.none in
    let size : c.len-buckets.result ≡ length a.heads.items = first_of (search rules, omega arith, grind arith) in
    let low : b < length a.heads.items = omega (arith, size, c.bucket-bucket.ensures.below) in
    let own : b ≡ bucket_of (length a.heads.items) p.state p.left = c.bucket-bucket.ensures.value ∙ ap (λ (n : ℕ). bucket_of n p.state p.left) size in
    let more = indexed_more a.rows.configs a.heads.items a.links.items p b low own new c.self.invariant in
    let ps = a.rows.configs in
    let x = c.index-head.result.now in
    let n = c.len-count.result in
    let qs = ps ++ p ∷ [] in
    let head : get_or a.heads.items b 0 ≡ x = any_default a.heads.items b 0 x low ∙ sym c.index-head.ensures in
    let linked : IsIndexed qs (set a.heads.items b (length ps + 1)) (a.links.items ++ x ∷ []) = subst (λ (h : ℕ). IsIndexed qs (set a.heads.items b (length ps + 1)) (a.links.items ++ h ∷ [])) head more in
    let led : IsIndexed qs (set a.heads.items b (n + 1)) (a.links.items ++ x ∷ []) = subst (λ (m : ℕ). IsIndexed qs (set a.heads.items b (m + 1)) (a.links.items ++ x ∷ [])) (sym c.len-count.ensures) linked in
    let pushed : IsIndexed qs (set a.heads.items b (n + 1)) c.push.new.self.items = subst (IsIndexed qs (set a.heads.items b (n + 1))) (sym c.in_ok-push.ensures.items) led in
    subst (λ (rs : List Config). IsIndexed rs (set a.heads.items b (n + 1)) c.push.new.self.items) (sym (ap (λ (s : Shelf). s.configs) c.in_default.ensures.added)) pushed
