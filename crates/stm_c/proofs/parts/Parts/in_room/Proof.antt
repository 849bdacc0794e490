-- `in_room` writes the value into the room, and the parts own it with the room's token.
use mathlib.Core.Path.{refl, sym, subst}
use mathlib.Core.List.{List, [], ◌∷◌, ◌++◌}
use seplogic.Ra.Ura.{Ura}
use base.Fraction.{full_share}
use mir.Syntax.{Fn}
use mir.MapTy.{inst_fn}
use mir.Raw.{raw as bare}
use mir.Val.{Val}
use base.Logic.{SProp, ent, id⊢}
use base.Fml.{ftrue, froom, fsep, flft}
use contract.BorrowLft.{◌⊑◌}
use prog.Memory.{Memory}
use prog.Routine.{Routine}
use prog.Wp.{Env, WpFn, Tables}
use types.Logic.{Logic}
use contract.Monad.{Fun, fact}
use contract.Running.{tables, tables_of}
use sound.WpLaws.{WpFn-mono}
use types.Kit.{Item, at_ret, ‵, raw, ◌⊛◌, ◌$◌, ◌∵◌, !, qed, by, move, keep, use1, use2, join, split, fsplit, fjoin, suffices, done}
use types.Part.{whole, sub, agg}
use types.Run.{init, stop, fld, of_opd, and_then, no_more, assigns_last, first, blocks, exec, returns, enter}
use types.ByLocal.{alloc_all, pass_all, free_all, look_at, get, get_in, through, sets, env}
use denote.Exit.{no}
use denote.RattleType.{RattleType}
use denote.Memory.{part_at}
use denote.RawPtr.{block_ptr}
use denote.Signature.{plain}
use denote.Steps.{nothing}
use denote.Triple.Clauses.{Ended, Clauses}
use denote.Triple.Spec.{triple_of}
use denote.Triple.Table.{entered}
use denote.Triple.Walked.{says, Stays, stay_dropped, walk_of, ends_at, Goes-dropped, walk_Meets}
use Rattle.core.proofs.alloc.Calls.{token, Goes-blank}
use Rattle.std_alloc.proofs.RawLayout.{as_written}
use Rattle.std_alloc.proofs.OfVacant.{Vacant, vacant_val, vacant_typed, Vacant-had}
use Rattle.std_alloc.proofs.BoxSteps.Form.{Bx, args, D, τ, own, R, P, word, handle, box_typed}
use Rattle.std_alloc.proofs.BoxSteps.Steps.{el_in, el_tells, box_in}
use Rattle.std_alloc.proofs.VecSteps.Shapes.{after}
use Rattle.stm_c.specs.contracts.parts.Parts as parts
use Rattle.stm_c.specs.contracts.parts.Parts.in_room as F
use Rattle.stm_c.specs.contracts.parts.Parts.in_room.Key.{name as #self}
use Rattle.stm_c.proofs.parts.Parts.in_room.Statement as stated
use Rattle.stm_c.proofs.parts.Parts.in_room.Code as code

module _ (E : Bx) where
  abbrev fn' : Fn
  fn' = inst_fn (args E) code.function

  abbrev ended : Ended
  ended = F.ended E.row E.al.row E.al.g E.al.d E.al.drops

  abbrev V : RattleType
  V = Vacant E.al (R E)

  abbrev To : RattleType
  To = parts.the_row (R E) (P E) E.al.g

  abbrev stayed : Stays ended.signature.params ended.kept
  stayed = (stay_dropped (plain (λ _. V)) no, (stay_dropped (plain (λ _. R E)) no, tt))

  module _ {M : Type 1} {𝓤 : Ura M} (𝓛 : Logic 𝓤) (at_mem : Memory → SProp 𝓤) (run : Routine → Fun 𝓤) (𝓣 : Tables 𝓤 𝓛.H) where
    open 𝓛 use {H}

    abbrev held : Clauses 𝓤 ended
    held = F.clauses E.row E.al.row E.al.g E.al.d E.al.drops 𝓛 at_mem run

    walk : (z : (walk_of 𝓛 ended stayed held).Ghost) → ent 𝓤 ((walk_of 𝓛 ended stayed held).pre z) (WpFn 𝓤 H 𝓣.C 𝓣.Λ fn' (z.0.4.0 ++ (z.0.4.1.0 ++ [])) ((walk_of 𝓛 ended stayed held).post z))
    walk z =
        let κs = z.0.0 in let qs = z.0.1 in let d = z.0.3.0 in let x = z.0.3.1.0 in let Post = (walk_of 𝓛 ended stayed held).post z in
        let ts : Item 𝓤 = ‵ (flft κs.0 qs.0) ⊛ ‵ (flft κs.1.0 qs.1.0) ⊛ ‵ ftrue in
        let in_x : Item 𝓤 = raw (fact 𝓤 (κs.0 ⊑ E.row.lives)) in let in_a : Item 𝓤 = raw (fact 𝓤 (κs.1.0 ⊑ E.al.row.lives)) in
        qed 𝓛 ((ts ⊛ ‵ (fsep (V.own_val d z.0.4.0) (fsep ((R E).own_val x z.0.4.1.0) ftrue))) ∷ (in_x ⊛ in_a ⊛ ‵ ftrue) ∷ []) ∵ split ! $ move ! (1 ∷ []) $ fsplit ! $
        Vacant-had E.al (R E) ! d z.0.4.0 (λ b o hv e is fa. move ! (3 ∷ []) $ fsplit ! $ el_tells E ! x z.0.4.1.0 (λ v ev t. keep ! (2 ∷ 0 ∷ 3 ∷ 4 ∷ 5 ∷ []) $
        let w = word E hv b o in
        let new : D E = record { ptr = block_ptr b o; alloc = d.alloc; value = x } in
        let made : To.Denot = record { ptr = block_ptr b o; alloc = d.alloc; value = x } in
        let Γ : List (Item 𝓤) = ‵ (froom (bare (τ E)) b o) ∷ ‵ (own E x (v ∷ [])) ∷ ‵ (token E.al d.alloc (bare (τ E)) (block_ptr b o)) ∷ ‵ (handle E d.alloc hv) ∷ ts ∷ [] in
        by ! (subst (λ (us : List Val × List Val). ent 𝓤 (types.Kit.⋆ 𝓛 Γ) (WpFn 𝓤 H 𝓣.C 𝓣.Λ fn' (us.0 ++ (us.1 ++ [])) Post)) (λ i. (sym is i, sym ev i))
        (qed 𝓛 Γ ∵ as_written ! (τ E) b o $ enter ! 𝓣.C 𝓣.Λ fn' (vacant_val hv b o ∷ v ∷ []) _ $ alloc_all ! (λ ls. pass_all ! refl (vacant_typed E.al (R E) hv b o fa, (t, tt)) $
        let En : Env 𝓤 H = env fn'.locals ls in
        sets ! (of_opd ! (get_in ! (fld ! refl (stop !)) (sub ! 0 refl (whole !)))) refl (tt, tt) $ sets ! (of_opd ! (get_in ! (fld ! refl (stop !)) (sub ! 1 refl (whole !)))) refl fa $
        first ! $ blocks ! $ sets ! (of_opd ! (get ! refl)) refl t $ assigns_last ! (of_opd ! (get ! refl)) (through ! refl (stop !)) (init ! 0 refl t) $
        exec ! 𝓣.C 𝓣.Λ En (after 3 fn'.body) (at_ret En Post) $
        sets ! (of_opd ! (get ! refl)) refl fa $ sets ! (agg ! (and_then ! (get ! refl) (and_then ! (get ! refl) (no_more !)))) refl (box_typed E hv b o fa) $
        returns ! (look_at ! 0 refl) $ free_all ! refl $
        use2 𝓛 (‵ (part_at (R E) full_share x b o)) (el_in E 𝓛 x b o v) $ box_in E ! new b o x refl refl $ use1 𝓛 (‵ (To.own_val made (w ∷ []))) (id⊢ 𝓤 _) $
        suffices ! _ (ends_at 𝓛 ended stayed held z w made ((tt, (tt, tt)), (tt, tt)) (tt, (tt, tt))) $ says ! refl $
        nothing ! $ nothing ! $ fjoin ! $ nothing ! $ fjoin ! $ join ! $ move ! (1 ∷ 0 ∷ []) $ join ! $ done !)))))

pub in_room_spec : {M : Type 1} → stated.statement M
unfolding tables_of
in_room_spec 𝓤 𝓛 𝓜 𝓡 wired X Z LX LZ g d dd allocator md =
    let E : Bx = record { row = X; laws = LX; al = record { row = Z; laws = LZ; g = g; d = d; drops = dd } } in
    let 𝓣 : Tables 𝓤 𝓛.H = tables_of 𝓤 𝓛.H 𝓜 (tables 𝓤 𝓛.H 𝓜 𝓡 𝓡.env) in
    let fn = fn' E in
    entered 𝓤 𝓛.H (triple_of 𝓛 (ended E).signature (F.spec X Z g d dd 𝓛 𝓜.mem 𝓡.returns)) 𝓣.C 𝓣.Λ (#self (args E)) fn (code.unfolded 𝓤 𝓛.H 𝓜 𝓡 wired (X, (Z, tt)) d dd)
    (walk_Meets 𝓛 (ended E) (stayed E) (Goes-blank 𝓛 2 (plain (λ _. V E)) no (λ κs x f. tt), (Goes-dropped 𝓛 2 (plain (λ _. R E)) no (λ κs x f. refl), tt)) (held E 𝓛 𝓜.mem 𝓡.returns 𝓣) (WpFn 𝓤 𝓛.H 𝓣.C 𝓣.Λ fn) (WpFn-mono 𝓤 𝓛.H 𝓛.laws 𝓣 fn)
    (walk E 𝓛 𝓜.mem 𝓡.returns 𝓣))
