-- `get` opens the `&` and reads the pointer: null tells that the handle is empty, and else what lies there is lent.
use mathlib.Core.Path.{◌≡◌, refl, sym, ap, ◌∙◌}
use mathlib.Core.List.{List, [], ◌∷◌}
use lib.Dec.{lit<}
use Prim.Native.Nat.{ℕ}
use seplogic.Ra.Ura.{Ura}
use mir.Syntax.{named}
use mir.Val.{Val, vptr, of_list}
use base.Logic.{SProp, ent, emp, via, fst∗}
use base.Fml.{Lft, Share, ftrue, flft}
use prog.Memory.{Memory}
use prog.Routine.{Routine}
use prog.Wp.{Calls, Loops, WpFn, Tables}
use types.Logic.{Logic}
use contract.Monad.{Fun, fact}
use contract.Running.{tables, tables_of}
use sound.WpLaws.{WpFn-mono}
use types.Kit.{Goal, Soaks, Seq, Step, step, Item, ‵, raw, ◌⊛◌, at_ret, ◌$◌, ◌∵◌, !, qed, by, move, keep, drop, use0, use1, split, join, fsplit, fjoin, fpick, feq_l, feq_i, rewrite, suffices, frame, done}
use types.Match.{live}
use types.Run.{stop, fld, load, addr, lit, bin, no_more, and_then, of_opd, first, branches, blocks, skips, exec, returns, returns_within, enter}
use types.ByLocal.{alloc_all, pass_all, free_all, look_at, get, through, sets, sets_last, env}
use types.Part.{agg, sub, whole, look_in}
use denote.Exit.{yes}
use denote.RattleType.{RattleType, owns}
use denote.Memory.{cell_at, shared_of, hidden_shr}
use denote.Opens.{hide}
use denote.RawPtr.{Ptr, block_of, count_of, at_block, InBlock, null_ptr, block_ptr, tests_null}
use denote.Ref.{Bor, ShrRef, shr_vals, shr_Tells}
use denote.Signature.{plain}
use denote.Steps.{heard, nothing, peeks, looks, shuts}
use denote.Struct.Lending.{in_block_says}
use denote.Triple.Entry.{on_entry}
use denote.Triple.Spec.{Meets, triple_of}
use denote.Triple.Table.{entered}
use denote.Triple.Walked.{says, Stays, stay_none_ref, walk_of, ends_at, walked, Goes-none_ref, walk_Meets}
use Rattle.core.proofs.option.Made.{Some-of, none_of}
use Rattle.core.specs.contracts.option.Option as OP
use Rattle.core.proofs.alloc.Shapes.{after}
use Rattle.std.specs.Prelude.{Option, None, Some, MatchOption}
use Rattle.stm_store.specs.contracts.program.Program as Home
use Rattle.stm_c.specs.ProgramHandle.{handle_owns}
use Rattle.stm_c.proofs.ProgramReads.{Data, word, told, twice, opened}
use Rattle.stm_store.proofs.program.Program.TheLaws.{the_row_laws as L}
use contract.BorrowLft.{⊑_static}
use denote.SharingLaws.{shortens}
use denote.Laws.{Is, shows}
use Rattle.stm_c.specs.contracts.program_handle.ProgramHandle as Sealed
use Rattle.stm_c.specs.contracts.program_handle.ProgramHandle.get as F
use Rattle.stm_c.specs.contracts.program_handle.ProgramHandle.get.Key.{name as #self}
use Rattle.stm_c.proofs.program_handle.ProgramHandle.get.Statement as stated
use Rattle.stm_c.proofs.program_handle.ProgramHandle.get.Code as code

abbrev B : RattleType
B = Sealed.the_row

abbrev R : RattleType
R = Home.the_row

abbrev stayed : Stays (F.ended).signature.params (F.ended).kept
stayed = (stay_none_ref (0 ∷ []) tt (plain (λ _. B)) yes, tt)

module _ {M : Type 1} {𝓤 : Ura M} (𝓛 : Logic 𝓤) (at_mem : Memory → SProp 𝓤) (run : Routine → Fun 𝓤) where
  open 𝓛 use {H, A}

  module _ (κ : Lft) (q : Share) (b o : ℕ) (d : B.Denot) where
    abbrev self : Bor B.Denot
    self = record { ref_ptr = (b, o); now = d }

    abbrev bound : (walk_of 𝓛 F.ended stayed (F.clauses 𝓛 at_mem run)).Ghost
    bound = (((κ, tt), (q, tt), tt, (self, tt), (vptr b o ∷ [], tt)), tt)

    abbrev Post : Val → SProp 𝓤
    Post = (walk_of 𝓛 F.ended stayed (F.clauses 𝓛 at_mem run)).post bound

    abbrev Lent : RattleType
    Lent = ShrRef (named 0) κ R

    -- what the contract says of the answer
    abbrev Found : Option (Bor R.Denot) → Type 0
    Found out = MatchOption out (d.value ≡ None) (λ r. d.value ≡ Some r.now)

    exits : (w : Val) (out : Option (Bor R.Denot)) → Found out → ent 𝓤 (types.Kit.⋆ 𝓛 (‵ (flft κ q) ∷ ‵ (hidden_shr B κ d b o) ∷ ‵ ((OP.the_row Lent).own_val out (w ∷ [])) ∷ [])) (Post w)
    exits w out found =
        qed 𝓛 (‵ (flft κ q) ∷ ‵ (hidden_shr B κ d b o) ∷ ‵ ((OP.the_row Lent).own_val out (w ∷ [])) ∷ []) ∵
        suffices ! _ (ends_at 𝓛 F.ended stayed (F.clauses 𝓛 at_mem run) bound w out (tt, tt) (tt, tt)) $ says ! found $
        nothing ! $ move ! (1 ∷ 0 ∷ []) $ join ! $ frame ! $ feq_i ! (List Val) (vptr b o ∷ []) (vptr b o ∷ []) refl $ fjoin ! $ nothing ! $ move ! (1 ∷ 0 ∷ []) $ fjoin ! $ frame ! $ done !

    module _ (C : Calls 𝓤 H) (Λ : Loops 𝓤 H) where
      abbrev Had : List (Item 𝓤)
      Had = ‵ (hidden_shr B κ d b o) ∷ ‵ (flft κ q) ∷ []

      walk_full : (x : R.Denot) → d.value ≡ Some x → ent 𝓤 (types.Kit.⋆ 𝓛 Had) (WpFn 𝓤 H C Λ code.function (vptr b o ∷ []) Post)
      walk_full x is =
          let p : Ptr = d.ptr in
          let v : Val = vptr (block_of p) (count_of p) in
          let r : Bor R.Denot = record { ref_ptr = (block_of p, count_of p); now = x } in
          qed 𝓛 Had ∵ enter ! C Λ code.function (vptr b o ∷ []) _ $ alloc_all ! (λ l. pass_all ! refl ((tt, tt), tt) $
          let En = env code.function.locals l in
          looks ! tt B (opened 𝓛) d b o (λ s vs. move ! (1 ∷ []) $ use1 𝓛 (‵ (B.own_val d vs) ⊛ ‵ (B.own_val d vs)) ((twice 𝓛).twice d vs) $ split ! $
          fsplit ! $ peeks ! Data (Is Data) (shows 𝓛 Data) (p, tt) vs (λ so. drop ! $
          rewrite ! 0 (λ (u : Option R.Denot). ‵ (handle_owns p u)) is refl $
          fsplit ! $ move ! (1 ∷ []) $ fpick ! (λ t. drop ! $
          fsplit ! $ use1 𝓛 (raw (fact 𝓤 (InBlock p))) (in_block_says 𝓛 p) $ heard ! (InBlock p) (λ inb.
          use1 𝓛 (‵ (shared_of R x (block_of p) (count_of p) κ)) (shortens 𝓛 (shared_of R x (block_of p) (count_of p)) (L.shr_laws x (block_of p) (count_of p)) [] κ (⊑_static κ)) $ hide ! $
          -- [the loan; what the handle owns; its word; the way back; the `&`]
          let here : vs ≡ word (block_ptr (block_of p) (count_of p)) ∷ [] = told p vs so ∙ ap (λ (y : Ptr). word y ∷ []) (at_block p inb) in
          rewrite ! 2 (λ (ws : List Val). ‵ (cell_at s B.mir ws b o)) here refl $
          sets ! (of_opd ! (load ! (through ! refl (fld ! refl (stop !))) (look_in ! 2 (sub ! 0 refl (whole !))))) refl (tt, tt) $
          rewrite ! 2 (λ (ws : List Val). ‵ (cell_at s B.mir ws b o)) (sym here) refl $
          move ! (2 ∷ 1 ∷ 3 ∷ []) $ shuts ! tt B s d vs b o $
          sets ! (bin ! (get ! refl) (lit ! tt) (tests_null (block_ptr (block_of p) (count_of p)) t)) refl (tt, tt) $
          first ! $ branches ! (get ! refl) (λ wrong. absurd wrong)
          (λ _. skips ! $ exec ! C Λ En (after 3 (code.function).body) (at_ret En Post) $
          first ! $ blocks ! $ sets ! (of_opd ! (get ! refl)) refl (tt, tt) $ sets ! (addr ! (through ! refl (stop !))) refl (tt, tt) $
          sets_last ! (agg ! (and_then ! (lit ! tt) (and_then ! (get ! refl) (no_more !)))) refl (tt, (record { fits = lit< tt }, (tt, tt))) $
          exec ! C Λ En (after 4 (code.function).body) (at_ret En Post) $
          sets ! (of_opd ! (get ! refl)) refl (tt, (record { fits = lit< tt }, (tt, tt))) $ returns ! (look_at ! 0 refl) $ free_all ! refl $
          -- [the token; the loan; the `&`]
          move ! (1 ∷ []) $ feq_i ! (List Val) (v ∷ []) (v ∷ []) refl $ fjoin ! $
          use1 𝓛 (‵ ((OP.the_row Lent).own_val (Some r) (live 1 (of_list (v ∷ [])) ∷ []))) (Some-of 𝓛 Lent r v) $
          move ! (1 ∷ 2 ∷ 0 ∷ []) $ keep ! (0 ∷ 1 ∷ 2 ∷ []) $ by ! (exits (live 1 (of_list (v ∷ []))) (Some r) is)))))))

      walk_empty : d.value ≡ None → ent 𝓤 (types.Kit.⋆ 𝓛 Had) (WpFn 𝓤 H C Λ code.function (vptr b o ∷ []) Post)
      walk_empty is =
          let p : Ptr = d.ptr in
          qed 𝓛 Had ∵ enter ! C Λ code.function (vptr b o ∷ []) _ $ alloc_all ! (λ l. pass_all ! refl ((tt, tt), tt) $
          looks ! tt B (opened 𝓛) d b o (λ s vs. move ! (1 ∷ []) $ use1 𝓛 (‵ (B.own_val d vs) ⊛ ‵ (B.own_val d vs)) ((twice 𝓛).twice d vs) $ split ! $
          fsplit ! $ peeks ! Data (Is Data) (shows 𝓛 Data) (p, tt) vs (λ so. drop ! $
          rewrite ! 0 (λ (u : Option R.Denot). ‵ (handle_owns p u)) is refl $ feq_l ! (λ e.
          -- [what the handle owns; its word; the way back; the `&`]
          let here : vs ≡ word null_ptr ∷ [] = told p vs so ∙ ap (λ (y : Ptr). word y ∷ []) e in
          rewrite ! 1 (λ (ws : List Val). ‵ (cell_at s B.mir ws b o)) here refl $
          sets ! (of_opd ! (load ! (through ! refl (fld ! refl (stop !))) (look_in ! 1 (sub ! 0 refl (whole !))))) refl (tt, record { fits = lit< tt }) $
          rewrite ! 1 (λ (ws : List Val). ‵ (cell_at s B.mir ws b o)) (sym here) refl $
          move ! (1 ∷ 0 ∷ 2 ∷ []) $ shuts ! tt B s d vs b o $
          sets ! (bin ! (get ! refl) (lit ! tt) (tests_null null_ptr (lit< tt))) refl (tt, tt) $
          first ! $ branches ! (get ! refl)
          (λ _. sets ! (agg ! (and_then ! (lit ! tt) (no_more !))) refl (tt, (record { fits = lit< tt }, tt)) $
          returns_within ! Post refl (look_at ! 0 refl) $ free_all ! refl $
          use0 𝓛 (‵ ((OP.the_row Lent).own_val None (live 0 (of_list []) ∷ []))) (none_of 𝓛 Lent) $
          move ! (1 ∷ 2 ∷ 0 ∷ []) $ keep ! (0 ∷ 1 ∷ 2 ∷ []) $ by ! (exits (live 0 (of_list [])) None is))
          (λ wrong. absurd wrong)))))

      by_value : (v : Option R.Denot) → d.value ≡ v → ent 𝓤 (types.Kit.⋆ 𝓛 Had) (WpFn 𝓤 H C Λ code.function (vptr b o ∷ []) Post)
      by_value None is = walk_empty is
      by_value (Some x) is = walk_full x is

      walk : ent 𝓤 (on_entry 𝓛 F.signature (κ, tt) (q, tt) (self, tt) (vptr b o ∷ [], tt)) (WpFn 𝓤 H C Λ code.function (vptr b o ∷ []) Post)
      walk =
          qed 𝓛 ((‵ (flft κ q) ⊛ ‵ ftrue) ∷ ‵ (owns (ShrRef (named 0) κ B ∷ []) (self, tt) (vptr b o ∷ [], tt)) ∷ []) ∵
          split ! $ move ! (2 ∷ []) $ fsplit ! $ fsplit ! $ drop ! $ keep ! (0 ∷ 2 ∷ []) $ by ! (by_value d.value refl)

  meets : (𝓣 : Tables 𝓤 H) → Meets 𝓛 F.signature (WpFn 𝓤 H 𝓣.C 𝓣.Λ code.function) (F.spec 𝓛 at_mem run)
  meets 𝓣 =
      walk_Meets 𝓛 F.ended stayed (Goes-none_ref 𝓛 1 (0 ∷ []) tt (plain (λ _. B)) yes, tt) (F.clauses 𝓛 at_mem run) (WpFn 𝓤 H 𝓣.C 𝓣.Λ code.function) (WpFn-mono 𝓤 H 𝓛.laws 𝓣 code.function)
      (walked 𝓛 F.ended stayed (F.clauses 𝓛 at_mem run) (WpFn 𝓤 H 𝓣.C 𝓣.Λ code.function) (λ κs. (shr_vals, tt)) (λ κs. (shr_Tells (named 0) κs.0 B, tt))
      (λ κs qs bounds a g are. via 𝓤 _ (fst∗ 𝓤 _ (emp 𝓤)) (walk κs.0 qs.0 a.0.ref_ptr.0 a.0.ref_ptr.1 a.0.now 𝓣.C 𝓣.Λ)))

pub get_spec : {M : Type 1} → stated.statement M
unfolding tables_of
get_spec 𝓤 𝓛 𝓜 𝓡 wired =
    let 𝓣 : Tables 𝓤 𝓛.H = tables_of 𝓤 𝓛.H 𝓜 (tables 𝓤 𝓛.H 𝓜 𝓡 𝓡.env) in
    entered 𝓤 𝓛.H (triple_of 𝓛 F.signature (F.spec 𝓛 𝓜.mem 𝓡.returns)) 𝓣.C 𝓣.Λ #self code.function (code.unfolded 𝓤 𝓛.H 𝓜 𝓡 wired) (meets 𝓛 𝓜.mem 𝓡.returns 𝓣)
