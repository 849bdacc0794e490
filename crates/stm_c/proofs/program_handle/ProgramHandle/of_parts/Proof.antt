-- `of_parts` moves the pointer on; what lies there is lent for ever.
use mathlib.Core.Path.{refl, sym, subst}
use mathlib.Core.List.{List, [], ◌∷◌, ◌++◌}
use seplogic.Ra.Ura.{Ura}
use mir.Raw.{raw as bare}
use mir.Val.{Val}
use base.Fraction.{full_share}
use base.Logic.{SProp, ent, emp, id⊢, guard, guard_i}
use base.Fml.{ftrue, fsep}
use contract.BorrowLft.{⊑_static}
use prog.Memory.{Memory}
use prog.Routine.{Routine}
use prog.Wp.{WpFn, Tables}
use types.Logic.{Logic, sem, lfts}
use contract.Monad.{Fun, fact_use}
use contract.Running.{tables, tables_of}
use sound.WpLaws.{WpFn-mono}
use types.Kit.{Item, ‵, raw, ◌⊛◌, given, later, ◌$◌, ◌∵◌, !, qed, by, move, drop, keep, use0, use1, use2, join, split, fsplit, fjoin, fpack, learn, await, updating, now, suffices, done}
use types.Part.{whole, sub, agg}
use types.Run.{stop, fld, no_more, and_then, of_opd, returns, enter}
use types.ByLocal.{alloc_all, pass_all, free_all, look_at, get, get_in, sets}
use types.Tokens.{bor_new}
use denote.Exit.{no}
use denote.RawPtr.{Ptr, block_ptr, lies_at, Testable}
use denote.Signature.{type_at}
use denote.Steps.{nothing}
use denote.Struct.Lending.{lent_at, Lends-lies}
use denote.Triple.Spec.{triple_of}
use denote.Triple.Table.{entered}
use denote.Triple.Walked.{says, Stays, stay_dropped, walk_of, ends_at, walk_Meets}
use Rattle.core.proofs.alloc.Calls.{Goes-blank, token}
use Rattle.std.specs.Prelude.{Some}
use Rattle.std_heap.proofs.GlobalToken.{dealloc_token-Testable}
use Rattle.std_alloc.proofs.BoxSteps.Form.{D, B, τ, word as box_word, box_typed}
use Rattle.std_alloc.proofs.BoxSteps.Steps.{box_out}
use Rattle.stm_c.proofs.ProgramHandle.{E, FromParts as From}
use Rattle.stm_c.proofs.ProgramReads.{Data, word, made}
use Rattle.stm_store.proofs.program.Program.TheLaws.{the_row_laws as L}
use Rattle.stm_c.specs.contracts.program_handle.ProgramHandle.of_parts as F
use Rattle.stm_c.specs.contracts.program_handle.ProgramHandle.of_parts.Key.{name as #self}
use Rattle.stm_c.proofs.program_handle.ProgramHandle.of_parts.Statement as stated
use Rattle.stm_c.proofs.program_handle.ProgramHandle.of_parts.Code as code

abbrev stayed : Stays (F.ended).signature.params (F.ended).kept
stayed = (stay_dropped From no, tt)

module _ {M : Type 1} {𝓤 : Ura M} (𝓛 : Logic 𝓤) (at_mem : Memory → SProp 𝓤) (run : Routine → Fun 𝓤) (𝓣 : Tables 𝓤 𝓛.H) where
  open 𝓛 use {H}

  -- what may be freed may be compared with null
  tested : (a : E.al.row.Denot) (p : Ptr) → ent 𝓤 (sem 𝓛 (token E.al a (bare (τ E)) p)) (guard 𝓤 (Testable p) (sem 𝓛 (token E.al a (bare (τ E)) p)))
  tested a p = let T = sem 𝓛 (token E.al a (bare (τ E)) p) in fact_use 𝓤 (Testable p) (dealloc_token-Testable 𝓛 a (bare (τ E)) p) (guard_i 𝓤 (Testable p) T)

  -- what lies at a pointer is lent for ever
  stays : (p : Ptr) (x : E.row.Denot) → ent 𝓤 (sem 𝓛 (lies_at E.row full_share p x)) (H.⇛ (sem 𝓛 (lent_at E.row p x [])))
  stays p x = qed 𝓛 (‵ (lies_at E.row full_share p x) ∷ []) ∵ updating ! $ bor_new ! tt [] $ move ! (1 ∷ []) $ drop ! $
      use0 𝓛 (raw (lfts 𝓛 [])) (id⊢ 𝓤 (emp 𝓤)) $ move ! (1 ∷ 0 ∷ []) $
      use2 𝓛 (later (‵ (lent_at E.row p x []) ⊛ raw (lfts 𝓛 []))) (Lends-lies 𝓛 E.row E.row.lives p x (L.shares 𝓛 x) [] [] (⊑_static []) (⊑_static [])) $ await ! tt $ split ! $ now ! $ keep ! (0 ∷ []) $ done !

  walk : (z : (walk_of 𝓛 F.ended stayed (F.clauses 𝓛 at_mem run)).Ghost)
      → ent 𝓤 ((walk_of 𝓛 F.ended stayed (F.clauses 𝓛 at_mem run)).pre z) (WpFn 𝓤 H 𝓣.C 𝓣.Λ code.function (z.0.4.0 ++ []) ((walk_of 𝓛 F.ended stayed (F.clauses 𝓛 at_mem run)).post z))
  walk z =
      let Post = (walk_of 𝓛 F.ended stayed (F.clauses 𝓛 at_mem run)).post z in
      let v : D E = record { ptr = z.0.3.0.ptr; alloc = z.0.3.0.alloc; value = z.0.3.0.value } in
      let To = type_at (F.signature).result tt in
      qed 𝓛 ((‵ ftrue ⊛ ‵ (fsep ((B E).own_val v z.0.4.0) ftrue)) ∷ raw (emp 𝓤) ∷ []) ∵ split ! $ drop ! $ fsplit ! $
      box_out E ! v z.0.4.0 (λ b o hv e ws fa.
      let p : Ptr = block_ptr b o in
      let new : To.Denot = record { ptr = p; value = Some v.value } in
      -- [what lies there; the right to free it; the handle]
      keep ! (0 ∷ 1 ∷ []) $ move ! (1 ∷ []) $ use1 𝓛 (given (Testable p) (‵ (token E.al v.alloc (bare (τ E)) p))) (tested v.alloc p) $ learn ! (λ t. drop ! $
      let lies : Item 𝓤 = ‵ (lies_at E.row full_share p v.value) in
      by ! (subst (λ (us : List Val). ent 𝓤 (types.Kit.⋆ 𝓛 (lies ∷ [])) (WpFn 𝓤 H 𝓣.C 𝓣.Λ code.function (us ++ []) Post)) (sym ws)
      (qed 𝓛 (lies ∷ []) ∵ enter ! 𝓣.C 𝓣.Λ code.function (box_word E hv b o ∷ []) _ $ alloc_all ! (λ ls. pass_all ! refl (box_typed E hv b o fa, tt) $
      use1 𝓛 (later (‵ (lent_at E.row p v.value []))) (stays p v.value) $ await ! tt $
      nothing ! $ fpack ! (Testable p) (λ _. ftrue) t $ move ! (1 ∷ 0 ∷ []) $ fjoin ! $
      use0 𝓛 (‵ (Data.own_val (p, tt) (word p ∷ []))) (made 𝓛 p) $ fjoin ! $ use1 𝓛 (‵ (To.own_val new (word p ∷ []))) (id⊢ 𝓤 _) $
      sets ! (of_opd ! (get_in ! (fld ! refl (stop !)) (sub ! 0 refl (whole !)))) refl (tt, tt) $ sets ! (of_opd ! (get ! refl)) refl (tt, tt) $
      sets ! (agg ! (and_then ! (get ! refl) (no_more !))) refl (tt, (tt, tt)) $ returns ! (look_at ! 0 refl) $ free_all ! refl $
      suffices ! _ (ends_at 𝓛 F.ended stayed (F.clauses 𝓛 at_mem run) z (word p) new (tt, tt) (tt, tt)) $ says ! refl $
      nothing ! $ nothing ! $ fjoin ! $ join ! $ nothing ! $ join ! $ done !)))))

pub of_parts_spec : {M : Type 1} → stated.statement M
unfolding tables_of
of_parts_spec 𝓤 𝓛 𝓜 𝓡 wired =
    let 𝓣 : Tables 𝓤 𝓛.H = tables_of 𝓤 𝓛.H 𝓜 (tables 𝓤 𝓛.H 𝓜 𝓡 𝓡.env) in
    entered 𝓤 𝓛.H (triple_of 𝓛 F.signature (F.spec 𝓛 𝓜.mem 𝓡.returns)) 𝓣.C 𝓣.Λ #self code.function (code.unfolded 𝓤 𝓛.H 𝓜 𝓡 wired)
    (walk_Meets 𝓛 F.ended stayed (Goes-blank 𝓛 0 From no (λ κs x f. tt), tt) (F.clauses 𝓛 𝓜.mem 𝓡.returns) (WpFn 𝓤 𝓛.H 𝓣.C 𝓣.Λ code.function) (WpFn-mono 𝓤 𝓛.H 𝓛.laws 𝓣 code.function)
    (walk 𝓛 𝓜.mem 𝓡.returns 𝓣))
