-- A program's handle can be had twice, so that a `&` to one is opened and read. Assumes `Logic`.
use Rattle.std.proofs.Common.{◌≡◌, List, [], ◌∷◌, ◌++◌, refl, sym, ap, subst, ◌∙◌}
use seplogic.Ra.Ura.{Ura}
use mir.Val.{Val, vstruct, vcons, vnil, of_list}
use base.Logic.{SProp, ent, sep, emp}
use base.Fml.{ftrue, feq}
use types.Logic.{Logic, sem}
use types.Kit.{‵, ◌⊛◌, ◌$◌, ◌∵◌, !, qed, move, drop, use0, use1, split, fsplit, fjoin, fpick, fpack, feq_l, feq_i, done}
use denote.RattleType.{RattleType}
use denote.Laws.{Is, Tells, Copy, shows}
use denote.Steps.{peeks, nothing}
use denote.Opens.{Opens}
use denote.Copied.{whole-copied}
use denote.RawPtr.{Ptr, ptr_val, null_ptr, Testable}
use denote.Shadow.{makes_shadow}
use denote.SharingLaws.{contraction}
use denote.Struct.Lending.{lent_at, lent_at_shr_laws}
use denote.Struct.Struct.{Struct}
use denote.Struct.Owning.{shape}
use Rattle.std.specs.Prelude.{Option, None, Some}
use Rattle.stm_store.specs.contracts.program.Program.{the_row as T}
use Rattle.stm_store.proofs.program.Program.TheLaws.{the_row_laws as L}
use Rattle.stm_c.specs.ProgramHandle.{handle_owns}
use Rattle.stm_c.specs.contracts.program_handle.ProgramHandle as handle

abbrev pub word : Ptr → Val
word p = vstruct (vcons (ptr_val p) vnil)

abbrev pub Data : RattleType
Data = Struct (shape handle.the_type)

pub told : (p : Ptr) (vs : List Val) → Is Data (p, tt) vs → vs ≡ word p ∷ []
told p vs is = is.1.0 ∙ ap (λ (ws : List Val). vstruct (of_list (ws ++ [])) ∷ []) is.1.1.0

tells : Tells handle.the_row (Is handle.the_row) (λ d. word d.ptr ∷ [])
tells d vs is = told d.ptr vs is.0

module _ {M : Type 1} {𝓤 : Ura M} (𝓛 : Logic 𝓤) where
  pub made : (p : Ptr) → ent 𝓤 (emp 𝓤) (sem 𝓛 (Data.own_val (p, tt) (word p ∷ [])))
  made p = makes_shadow 𝓛 (Data.own_val (p, tt) (word p ∷ [])) (λ vss. (tt, (tt, tt))) ((ptr_val p ∷ [], tt), (refl, (refl, tt)))

  pub owned_twice : (p : Ptr) (v : Option T.Denot) → ent 𝓤 (sem 𝓛 (handle_owns p v)) (sep 𝓤 (sem 𝓛 (handle_owns p v)) (sem 𝓛 (handle_owns p v)))
  owned_twice p None = qed 𝓛 (‵ (feq Ptr p null_ptr) ∷ []) ∵ feq_l ! (λ e. feq_i ! Ptr p null_ptr e $ feq_i ! Ptr p null_ptr e $ done !)
  owned_twice p (Some x) = qed 𝓛 (‵ (handle_owns p (Some x)) ∷ []) ∵ fsplit ! $ move ! (1 ∷ []) $ fpick ! (λ t. drop ! $
      use1 𝓛 (‵ (lent_at T p x []) ⊛ ‵ (lent_at T p x [])) (contraction 𝓛 (lent_at T p x) (lent_at_shr_laws T L.shr_laws p x) []) $ split ! $
      nothing ! $ fpack ! (Testable p) (λ _. ftrue) t $ nothing ! $ fpack ! (Testable p) (λ _. ftrue) t $
      move ! (2 ∷ 0 ∷ []) $ fjoin ! $ move ! (2 ∷ 1 ∷ []) $ fjoin ! $ done !)

  abbrev Both : handle.the_row.Denot → List Val → SProp 𝓤
  Both d vs = sep 𝓤 (sem 𝓛 (handle.the_row.own_val d vs)) (sem 𝓛 (handle.the_row.own_val d vs))

  pub twice : Copy 𝓛 handle.the_row
  twice = record {
    twice = λ d vs. qed 𝓛 (‵ (Data.own_val (d.ptr, tt) vs) ∷ ‵ (handle_owns d.ptr d.value) ∷ []) {P = Both d vs} (
        peeks ! Data (Is Data) (shows 𝓛 Data) (d.ptr, tt) vs (λ so.
        let again : ent 𝓤 (emp 𝓤) (sem 𝓛 (Data.own_val (d.ptr, tt) vs)) = subst (λ (us : List Val). ent 𝓤 (emp 𝓤) (sem 𝓛 (Data.own_val (d.ptr, tt) us))) (sym (told d.ptr vs so)) (made d.ptr) in
        move ! (1 ∷ []) $ use1 𝓛 (‵ (handle_owns d.ptr d.value) ⊛ ‵ (handle_owns d.ptr d.value)) (owned_twice d.ptr d.value) $ split ! $
        use0 𝓛 (‵ (Data.own_val (d.ptr, tt) vs)) again $ fjoin ! $ move ! (2 ∷ 1 ∷ []) $ fjoin ! $ done !));
  }

  pub opened : Opens 𝓛 handle.the_row
  opened = (whole-copied 𝓛 handle.the_row (λ d b o. refl) (λ d. word d.ptr) tells twice).opens
