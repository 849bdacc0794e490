use Rattle.std.proofs.Common.{ℕ, ℤ, Option, sym, subst}
use Rattle.stm_store.specs.Telling.{IsValueOf}
use Rattle.stm_store.proofs.Named.{no_value, value_is}
use Rattle.stm_store.proofs.store.Store.value.Goals as goal

pub returns-in_err-id : goal.returns-in_err-id
returns-in_err-id c =
    let s = c.args.self.now in
    let name = c.args.name.now in
    subst (λ (r : Option (ℤ × ℕ)). IsValueOf s.book name r) (sym c.from_residual.ensures) (no_value s.book s.catalogue.now name s.declared (sym c.in_err-id.ensures.id))

pub returns : goal.returns
returns c =
    let s = c.args.self.now in
    value_is s.book s.catalogue.now c.args.name.now c.in_ok-id.id c.present.result s.declared s.wide c.in_ok-id.ensures.inside (sym c.in_ok-id.ensures.id) c.present.ensures
