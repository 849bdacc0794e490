-- `get_mut` reads the pointer: null tells that the handle is empty, and else what lies there is lent, and the handle follows it.
use mathlib.Core.Path.{◌≡◌, refl, sym, ap, subst}
use mathlib.Core.List.{List, [], ◌∷◌, ◌++◌}
use lib.Dec.{lit<}
use Prim.Native.Nat.{ℕ}
use seplogic.Ra.Ura.{Ura}
use mir.Raw.{raw as bare}
use mir.Syntax.{named}
use mir.Val.{Val, vptr, vnull, vstruct, vcons, vnil, of_list}
use base.Fraction.{full_share}
use base.Logic.{SProp, ent, sep, emp, via, fst∗, id⊢, guard, guard_i}
use base.Fml.{Lft, GName, Share, Fml, ftrue, fsep, flft, fobs, fbor, fres}
use prog.Memory.{Memory}
use prog.Routine.{Routine}
use prog.Wp.{Calls, Loops, WpFn, Tables}
use types.Logic.{Logic, sem}
use contract.Monad.{Fun, fact_use}
use contract.Running.{tables, tables_of}
use sound.WpLaws.{WpFn-mono}
use types.Kit.{Item, ⋆, ‵, raw, ◌⊛◌, later, given, at_ret, ◌$◌, ◌∵◌, !, qed, by, move, keep, drop, use0, use1, await, learn, group, pick, split, split3, join, fsplit, fsplit3, fjoin, fpick, fpack, feq_l, feq_i, rewrite, suffices, frame, done}
use types.Match.{live}
use types.Part.{agg, sub, whole, look_in}
use types.Run.{stop, fld, load, addr, lit, bin, no_more, and_then, of_opd, first, branches, blocks, skips, exec, returns, returns_within, enter}
use types.ByLocal.{alloc_all, pass_all, free_all, look_at, get, through, sets, sets_last, env}
use types.SemTy.{Body as Borrowed}
use denote.Exit.{no}
use denote.Follow.{follows, follows_by, lends_Part}
use denote.RattleType.{RattleType, Valss, owns}
use denote.Memory.{cell_at, part_at, part_of, mem}
use denote.RawPtr.{Ptr, block_ptr, null_ptr, ptr_val, Testable, tests_null}
use denote.Ref.{MutBor, MutRef, mut_vals, mut_Tells}
use denote.Signature.{plain, mut_ref_to}
use denote.Struct.Owning.{shape, to}
use denote.Struct.Struct.{within}
use denote.Steps.{nothing, opens, closes}
use denote.Triple.Clauses.{Clauses}
use denote.Triple.Entry.{on_entry}
use denote.Triple.Spec.{Meets, triple_of}
use denote.Triple.Table.{entered}
use denote.Triple.Walked.{says, Stays, stay_dropped, walk_of, ends_at, walked, Goes-spent_ref, walk_Meets}
use Rattle.core.proofs.alloc.Calls.{token, handle_tells}
use Rattle.core.proofs.alloc.Shapes.{after}
use Rattle.core.proofs.option.Made.{Some-of, none_of}
use Rattle.core.specs.contracts.option.Option as OP
use Rattle.std.specs.Prelude.{Option, None, Some}
use Rattle.std_heap.proofs.GlobalToken.{dealloc_token-Testable}
use Rattle.std_alloc.proofs.BoxSteps.Form.{D, B, τ, word, handle}
use Rattle.std_alloc.proofs.BoxSteps.Steps.{box_out, box_in}
use Rattle.stm_c.specs.Holding.{ended_in}
use Rattle.stm_c.proofs.EndedHandle.{E}
use Rattle.stm_c.specs.contracts.ended_handle.EndedHandle as Sealed
use Rattle.stm_c.specs.contracts.ended_handle.EndedHandle.get_mut as F
use Rattle.stm_c.specs.contracts.ended_handle.EndedHandle.get_mut.Key.{name as #self}
use Rattle.stm_c.proofs.ended_handle.EndedHandle.get_mut.Statement as stated
use Rattle.stm_c.proofs.ended_handle.EndedHandle.get_mut.Code as code

abbrev Self : RattleType
Self = Sealed.the_row

abbrev R : RattleType
R = E.row

abbrev stayed : Stays (F.ended).signature.params (F.ended).kept
stayed = (stay_dropped (mut_ref_to (0 ∷ []) tt (plain (λ _. Self))) no, tt)

module _ {M : Type 1} {𝓤 : Ura M} (𝓛 : Logic 𝓤) (at_mem : Memory → SProp 𝓤) (run : Routine → Fun 𝓤) where
  open 𝓛 use {H, A}

  abbrev spec : Clauses 𝓤 F.ended
  spec = F.clauses 𝓛 at_mem run

  -- what may be freed may be compared with null
  tested : (a : E.al.row.Denot) (p : Ptr) → ent 𝓤 (sem 𝓛 (token E.al a (bare (τ E)) p)) (guard 𝓤 (Testable p) (sem 𝓛 (token E.al a (bare (τ E)) p)))
  tested a p = let T = sem 𝓛 (token E.al a (bare (τ E)) p) in fact_use 𝓤 (Testable p) (dealloc_token-Testable 𝓛 a (bare (τ E)) p) (guard_i 𝓤 (Testable p) T)

  module _ (κ : Lft) (q : Share) (rb ro : ℕ) (γ : GName) (d : Self.Denot) where
    abbrev self : MutBor Self.Denot
    self = record { ref_ptr = (rb, ro); ghost_name = γ; now = d }

    abbrev bound : (walk_of 𝓛 F.ended stayed spec).Ghost
    bound = (((κ, tt), (q, tt), tt, (self, tt), (vptr rb ro ∷ [], tt)), tt)

    abbrev Post : Val → SProp 𝓤
    Post = (walk_of 𝓛 F.ended stayed spec).post bound

    abbrev Lent : RattleType
    Lent = MutRef (named 0) κ R

    abbrev Had : List (Item 𝓤)
    Had = ‵ (fobs γ (Self.coded.code d)) ∷ ‵ (fbor κ (Borrowed (mem Self) rb ro γ)) ∷ ‵ (flft κ q) ∷ []

    -- the result r, as the value v, with what becomes of the handle
    leaves : (v : Val) (r : Option (MutBor R.Denot)) (X : SProp 𝓤) → ent 𝓤 X ((spec (κ, tt) (self, tt)).ensures tt r (denote.Triple.Clauses.at_exit F.ended (κ, tt) (self, tt) (tt, tt)))
        → ent 𝓤 (sep 𝓤 (sem 𝓛 ((OP.the_row Lent).own_val r (v ∷ []))) (sep 𝓤 (A.lft κ q) X)) (Post v)
    leaves v r X ens =
        qed 𝓛 (‵ ((OP.the_row Lent).own_val r (v ∷ [])) ∷ ‵ (flft κ q) ∷ raw X ∷ []) ∵
        suffices ! _ (ends_at 𝓛 F.ended stayed spec bound v r (tt, tt) (tt, tt)) $
        nothing ! $ nothing ! $ fjoin ! $ join ! $ nothing ! $ move ! (2 ∷ 0 ∷ []) $ join ! $ join ! $ frame ! $ by ! ens

    module _ (x : R.Denot) (b o : ℕ) (hv : Val) where
      -- all of a full handle but what it holds
      abbrev Rest : Fml
      Rest = fsep (fsep (token E.al d.alloc (bare (τ E)) (block_ptr b o)) (handle E d.alloc hv)) (cell_at full_share Self.mir (word E hv b o ∷ []) rb ro)

      back : d.ptr ≡ block_ptr b o → (w : R.Denot) → ent 𝓤 (sep 𝓤 (sem 𝓛 ((mem R).own_at w b o)) (sem 𝓛 Rest)) (sem 𝓛 ((mem Self).own_at (ended_in d w) rb ro))
      unfolding part_of
      back at_b w =
          let v : D E = record { ptr = d.ptr; alloc = d.alloc; value = w } in
          qed 𝓛 (‵ (part_at R full_share w b o) ∷ ‵ Rest ∷ []) ∵ move ! (1 ∷ []) $ fsplit ! $ fsplit ! $ move ! (3 ∷ []) $
          box_in E ! v b o w at_b refl $ use1 𝓛 (‵ (Self.own_val (ended_in d w) (word E hv b o ∷ []))) (id⊢ 𝓤 _) $ move ! (1 ∷ 0 ∷ []) $ fjoin ! $
          fpack ! (List Val) (λ us. fsep (cell_at full_share Self.mir us rb ro) (Self.own_val (ended_in d w) us)) (word E hv b o ∷ []) $ done !

    module _ (C : Calls 𝓤 H) (Λ : Loops 𝓤 H) where
      walk_empty : d.value ≡ None → ent 𝓤 (⋆ 𝓛 Had) (WpFn 𝓤 H C Λ code.function (vptr rb ro ∷ []) Post)
      unfolding follows_by
      walk_empty none =
          qed 𝓛 Had ∵ enter ! C Λ code.function (vptr rb ro ∷ []) _ $ alloc_all ! (λ l. pass_all ! refl ((tt, tt), tt) $
          let En = env (code.function).locals l in
          opens ! tt Self {h = d} rb ro (λ vs. move ! (1 ∷ []) $
          rewrite ! 0 (λ (o : Option R.Denot). ‵ (Self.own_val (record { ptr = d.ptr; alloc = d.alloc; value = o }) vs)) none refl $
          fsplit ! $ fpick ! (λ vss. fsplit ! $ feq_l ! (λ ev. fsplit ! $ feq_l ! (λ ep. fsplit ! $ handle_tells E.al ! d.alloc vss.1.0 (λ hv ea fa. move ! (1 ∷ 2 ∷ []) $ drop ! $ feq_l ! (λ en.
          let ws : vs ≡ vstruct (of_list (ptr_val null_ptr ∷ hv ∷ [])) ∷ [] =
          subst (λ (p : Ptr). vs ≡ vstruct (of_list (ptr_val p ∷ hv ∷ [])) ∷ []) en
          (subst (λ (us : List Val). vs ≡ vstruct (of_list (ptr_val d.ptr ∷ (us ++ []))) ∷ []) ea (subst (λ (ps : List Val). vs ≡ vstruct (of_list (ps ++ (vss.1.0 ++ []))) ∷ []) ep ev)) in
          let w : Val = vstruct (vcons vnull (vcons hv vnil)) in
          rewrite ! 1 (λ (us : List Val). ‵ (cell_at full_share Self.mir us rb ro)) ws refl $
          sets ! (of_opd ! (load ! (through ! refl (fld ! refl (stop !))) (look_in ! 1 (sub ! 0 refl (whole !))))) refl (tt, record { fits = lit< tt }) $
          sets ! (bin ! (get ! refl) (lit ! tt) (tests_null null_ptr (lit< tt))) refl (tt, tt) $
          first ! $ branches ! (get ! refl)
          (λ _. sets ! (agg ! (and_then ! (lit ! tt) (no_more !))) refl (tt, (record { fits = lit< tt }, tt)) $
          feq_i ! Ptr d.ptr null_ptr en $ nothing ! $ move ! (2 ∷ 0 ∷ []) $ fjoin ! $
          feq_i ! (List Val) (vnull ∷ []) (ptr_val d.ptr ∷ []) (ap (λ (p : Ptr). ptr_val p ∷ []) (sym en)) $ fjoin ! $ feq_i ! (List Val) (w ∷ []) (w ∷ []) refl $ fjoin ! $
          fpack ! (Valss (shape Sealed.the_type).fields) (within (shape Sealed.the_type) (to Sealed.the_type (record { ptr = d.ptr; alloc = d.alloc; value = None })) (w ∷ [])) (vnull ∷ [], (hv ∷ [], tt)) $ fjoin ! $
          rewrite ! 0 (λ (o : Option R.Denot). ‵ (Self.own_val (record { ptr = d.ptr; alloc = d.alloc; value = o }) (w ∷ []))) (sym none) refl $
          move ! (1 ∷ 0 ∷ []) $ closes ! tt Self d (w ∷ []) rb ro $ use1 𝓛 (‵ (fres γ (Self.coded.code d))) (𝓛.names.obs-res γ (Self.coded.code d)) $
          use0 𝓛 (‵ ((OP.the_row Lent).own_val None (live 0 (of_list []) ∷ []))) (none_of 𝓛 Lent) $ returns_within ! Post refl (look_at ! 0 refl) $ free_all ! refl $ keep ! (0 ∷ 3 ∷ 1 ∷ []) $
          by ! (leaves (live 0 (of_list [])) None (A.res γ (Self.coded.code d)) (qed 𝓛 (‵ (fres γ (Self.coded.code d)) ∷ []) ∵ says ! none $ done !)))
          (λ wrong. absurd wrong))))))))

      walk_full : (x : R.Denot) → d.value ≡ Some x → ent 𝓤 (⋆ 𝓛 Had) (WpFn 𝓤 H C Λ code.function (vptr rb ro ∷ []) Post)
      unfolding follows_by
      walk_full x is =
          let v : D E = record { ptr = d.ptr; alloc = d.alloc; value = x } in
          qed 𝓛 Had ∵ enter ! C Λ code.function (vptr rb ro ∷ []) _ $ alloc_all ! (λ l. pass_all ! refl ((tt, tt), tt) $
          let En = env (code.function).locals l in
          opens ! tt Self {h = d} rb ro (λ vs. move ! (1 ∷ []) $
          rewrite ! 0 (λ (o : Option R.Denot). ‵ (Self.own_val (record { ptr = d.ptr; alloc = d.alloc; value = o }) vs)) is refl $
          use1 𝓛 (‵ ((B E).own_val v vs)) (id⊢ 𝓤 _) $
          box_out E ! v vs (λ b o hv e ws fa. move ! (1 ∷ []) $
          use1 𝓛 (given (Testable (block_ptr b o)) (‵ (token E.al d.alloc (bare (τ E)) (block_ptr b o)))) (tested d.alloc (block_ptr b o)) $ learn ! (λ t. move ! (1 ∷ []) $
          rewrite ! 3 (λ (us : List Val). ‵ (cell_at full_share Self.mir us rb ro)) ws refl $
          sets ! (of_opd ! (load ! (through ! refl (fld ! refl (stop !))) (look_in ! 3 (sub ! 0 refl (whole !))))) refl (tt, tt) $
          sets ! (bin ! (get ! refl) (lit ! tt) (tests_null (block_ptr b o) t)) refl (tt, tt) $ first ! $ branches ! (get ! refl) (λ wrong. absurd wrong)
          (λ _. skips ! $ exec ! C Λ En (after 3 (code.function).body) (at_ret En Post) $
          first ! $ blocks ! $ sets ! (of_opd ! (get ! refl)) refl (tt, tt) $ sets ! (addr ! (through ! refl (stop !))) refl (tt, tt) $
          sets_last ! (agg ! (and_then ! (lit ! tt) (and_then ! (get ! refl) (no_more !)))) refl (tt, (record { fits = lit< tt }, (tt, tt))) $
          exec ! C Λ En (after 4 (code.function).body) (at_ret En Post) $
          sets ! (of_opd ! (get ! refl)) refl (tt, (record { fits = lit< tt }, (tt, tt))) $
          -- [what it holds; the token; the allocator; the word; the open borrow; obs; auth]
          move ! (1 ∷ 2 ∷ []) $ fjoin ! $ move ! (0 ∷ 2 ∷ []) $ fjoin ! $ move ! (2 ∷ 3 ∷ 4 ∷ 1 ∷ 0 ∷ []) $ group ! 5 $
          let lent : GName → MutBor R.Denot = λ δ. record { ref_ptr = (b, o); ghost_name = δ; now = x } in
          use1 𝓛 (later (types.Kit.some (λ (δ : GName). ‵ (Lent.own_val (lent δ) (vptr b o ∷ [])) ⊛ ‵ (flft κ q) ⊛ ‵ (follows Self R γ δ (ended_in d)))))
          (lends_Part 𝓛 Self R (ended_in d) (named 0) κ q rb ro b o γ (sem 𝓛 (Rest x b o hv)) (back x b o hv e) (Self.coded.code d) (Self.coded.code d) x) $ await ! tt $ pick ! (λ δ. split3 ! $
          use1 𝓛 (‵ ((OP.the_row Lent).own_val (Some (lent δ)) (live 1 (of_list (vptr b o ∷ [])) ∷ []))) (Some-of 𝓛 Lent (lent δ) (vptr b o)) $
          returns ! (look_at ! 0 refl) $ free_all ! refl $ keep ! (0 ∷ 1 ∷ 2 ∷ []) $
          by ! (leaves (live 1 (of_list (vptr b o ∷ []))) (Some (lent δ)) (sem 𝓛 (follows Self R γ δ (ended_in d))) (qed 𝓛 (‵ (follows Self R γ δ (ended_in d)) ∷ []) ∵ says ! is $ done !))))))))

      walk : ent 𝓤 (on_entry 𝓛 F.signature (κ, tt) (q, tt) (self, tt) (vptr rb ro ∷ [], tt)) (WpFn 𝓤 H C Λ code.function (vptr rb ro ∷ []) Post)
      walk = qed 𝓛 ((‵ (flft κ q) ⊛ ‵ ftrue) ∷ ‵ (owns (MutRef (named 0) κ Self ∷ []) (self, tt) (vptr rb ro ∷ [], tt)) ∷ []) ∵
          move ! (1 ∷ []) $ fsplit ! $ fsplit3 ! $ drop ! $ move ! (3 ∷ []) $ split ! $ move ! (2 ∷ 3 ∷ 0 ∷ []) $ keep ! (0 ∷ 1 ∷ 2 ∷ []) $ by ! (by_value d.value refl)
        where
          by_value : (o : Option R.Denot) → d.value ≡ o → ent 𝓤 (⋆ 𝓛 Had) (WpFn 𝓤 H C Λ code.function (vptr rb ro ∷ []) Post)
          by_value None is = walk_empty is
          by_value (Some x) is = walk_full x is

  meets : (𝓣 : Tables 𝓤 H) → Meets 𝓛 F.signature (WpFn 𝓤 H 𝓣.C 𝓣.Λ code.function) (F.spec 𝓛 at_mem run)
  meets 𝓣 =
      walk_Meets 𝓛 F.ended stayed (Goes-spent_ref 𝓛 1 (0 ∷ []) tt (plain (λ _. Self)), tt) spec (WpFn 𝓤 H 𝓣.C 𝓣.Λ code.function) (WpFn-mono 𝓤 H 𝓛.laws 𝓣 code.function)
      (walked 𝓛 F.ended stayed spec (WpFn 𝓤 H 𝓣.C 𝓣.Λ code.function) (λ κs. (mut_vals, tt)) (λ κs. (mut_Tells (named 0) κs.0 Self, tt))
      (λ κs qs bounds a g are. via 𝓤 _ (fst∗ 𝓤 _ (emp 𝓤)) (walk κs.0 qs.0 a.0.ref_ptr.0 a.0.ref_ptr.1 a.0.ghost_name a.0.now 𝓣.C 𝓣.Λ)))

pub get_mut_spec : {M : Type 1} → stated.statement M
unfolding tables_of
get_mut_spec 𝓤 𝓛 𝓜 𝓡 wired =
    let 𝓣 : Tables 𝓤 𝓛.H = tables_of 𝓤 𝓛.H 𝓜 (tables 𝓤 𝓛.H 𝓜 𝓡 𝓡.env) in
    entered 𝓤 𝓛.H (triple_of 𝓛 F.signature (F.spec 𝓛 𝓜.mem 𝓡.returns)) 𝓣.C 𝓣.Λ #self code.function (code.unfolded 𝓤 𝓛.H 𝓜 𝓡 wired) (meets 𝓛 𝓜.mem 𝓡.returns 𝓣)
