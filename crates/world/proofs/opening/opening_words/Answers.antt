use Rattle.std.proofs.Common.{◌≡◌, ℕ, ℤ, ◌<◌, ◌^◌, List, [], ◌∷◌, ◌++◌, take, pos, get_or, sym, ap, ◌∙◌, subst, arith}
use Rattle.std.specs.Int.{w64, cast_signed}
use Rattle.std.proofs.lemmas.Int.{to_z-of_z}
use Rattle.std.proofs.lemmas.Option.{slice_get-get_or}
use Rattle.world_law.specs.World.{HoldValues}
use Rattle.world.proofs.FirstWords.{first_more}
use Rattle.world.proofs.Working.{take_more}
use Rattle.world.proofs.opening.opening_words.Goals as goal

pub loop-value-preserved : goal.loop-value-preserved
loop-value-preserved c =
    let m = c.args.values.now in
    let k = c.loop-value.value-index in
    let v : ℤ = get_or m k (pos 0) in
    let i = c.loop-value.invariant in
    let is : cast_signed w64 c.cast_unsigned.result ≡ v = grind (arith, to_z-of_z) in
    let fits : c.cast_unsigned.result < 2 ^ 64 = omega (arith, c.cast_unsigned.type_inv) in (
      (i.0 ++ 0 ∷ []) ++ c.cast_unsigned.result ∷ [],
      c.in_ok-push-3.ensures.items ∙ ap (λ (l : List ℕ). l ++ c.cast_unsigned.result ∷ []) (c.in_ok-push-2.ensures.items ∙ ap (λ (l : List ℕ). l ++ 0 ∷ []) i.1),
      subst (λ (l : List ℤ). HoldValues l ((i.0 ++ 0 ∷ []) ++ c.cast_unsigned.result ∷ [])) (sym (take_more m k v (slice_get-get_or m k (pos 0) c.loop-value-test.true)))
          (first_more (take k m) i.0 v c.cast_unsigned.result i.2 (fits, is)),
    )
