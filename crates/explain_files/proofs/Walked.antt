-- A walk token by token: what is wanted on its stack is what a file that begins so goes on with.
use Rattle.std.proofs.Common.{◌≡◌, ℕ, ◌<◌, Bool, true, false, List, [], ◌∷◌, ◌++◌, length, take, drop, Some, None, refl, sym, ap, subst, ◌∙◌, append_assoc, arith}
use Rattle.std.proofs.lemmas.List.{append-nil}
use Rattle.text_words.specs.Tokens.{Lexeme, tokens}
use Rattle.text_words.specs.declared.fault.ReadFault.TheVariants.{Shape}
use Rattle.text_file_reader.specs.Faults.{IsFirst}
use Rattle.explain_files.specs.declared.wanted.Section.TheVariants as section
use Rattle.explain_files.specs.declared.wanted.Wanted.{Wanted}
use Rattle.explain_files.specs.declared.wanted.Wanted.TheVariants as want
use Rattle.explain_files.specs.Forms.{Wants, Puts, behind}
use Rattle.explain_files.specs.Wanting.{Left, none_left, from_start, read_all, onto}
use Rattle.text_words.proofs.Lexing.{tokens-nil}
use Rattle.explain_files.specs.Tokens.{IsApart}
use Rattle.explain_files.proofs.Cuts.{nothing_apart}
use Rattle.explain_files.specs.Walking.{IsFileOf, IsTokenPlace, IsStop, NoneGoesOn, Moved, Moves, StepMoves}
use Rattle.explain_files.proofs.Forms.{after}
use Rattle.explain_files.proofs.Advances.{token_reads}
use Rattle.explain_files.proofs.Endings.{is_file, file_is, some_left}
use Rattle.explain_files.proofs.Stacks.{IsBottomed, bottomed_on, finish_all, all_ends, onto-append}

-- the walk has come to a place with this stack
pub record Reached (bytes : List ℕ) (at : ℕ) (stack : List Wanted) : Type 0 where
  pub front : List Lexeme
  pub front_is : front ≡ tokens (take at bytes)
  pub apart : IsApart bytes at
  pub parts : tokens bytes ≡ front ++ tokens (drop at bytes)
  pub reads : (ts : List Lexeme) → none_left (from_start (front ++ ts)) ≡ read_all (onto stack []) ts
  pub bottomed : IsBottomed (onto stack [])

at_start : (bytes : List ℕ) → Reached bytes 0 (want.Declarations section.Start ∷ [])
at_start bytes = record { front = []; front_is = sym tokens-nil; apart = nothing_apart bytes; parts = refl; reads = λ ts. sym (some_left (none_left (from_start ts))); bottomed = refl }

pub begun : (bytes : List ℕ) (stack : List Wanted) → stack ≡ want.Declarations section.Start ∷ [] → Reached bytes 0 stack
begun bytes stack e = subst (Reached bytes 0) (sym e) (at_start bytes)

some_wanted : (stack : List Wanted) → IsBottomed (onto stack []) → 0 < length stack
some_wanted [] h = absurd h
some_wanted (wanted ∷ stack) h = omega arith

-- the top of a stack
on_top : (below old : List Wanted) (wanted : Wanted) → old ≡ below ++ wanted ∷ [] → onto old [] ≡ wanted ∷ onto below []
on_top below old wanted e = ap (λ (s : List Wanted). onto s []) e ∙ onto-append below (wanted ∷ []) []

put_reads : (below new : List Wanted) (vs : List Lexeme) (o : Wants) → Puts true below new o → after o (onto below []) vs ≡ read_all (onto new []) vs
put_reads below new vs None h = absurd h
put_reads below new vs (Some more) h = sym (ap (λ (s : List Wanted). read_all (onto s []) vs) h ∙ ap (λ (s : List Wanted). read_all s vs) (onto-append below more []))

unput_reads : (below new : List Wanted) (vs : List Lexeme) (o : Wants) → Puts false below new o → after o (onto below []) vs ≡ None
unput_reads below new vs None h = refl
unput_reads below new vs (Some more) h = absurd h

put_bottomed : (wanted : Wanted) (below new : List Wanted) (t : Lexeme) (o : Wants) → behind wanted t ≡ o → Puts true below new o → IsBottomed (wanted ∷ onto below []) → IsBottomed (onto new [])
put_bottomed wanted below new t None e h b = absurd h
put_bottomed wanted below new t (Some more) e h b =
    subst (λ (s : List Wanted). IsBottomed s) (sym (ap (λ (s : List Wanted). onto s []) h ∙ onto-append below more [])) (bottomed_on wanted (onto below []) more t e b)

-- what is read with a token in front
top_reads : (old : List Wanted) (below : List Wanted) (wanted : Wanted) (t : Lexeme) (vs : List Lexeme) → old ≡ below ++ wanted ∷ [] → read_all (onto old []) (t ∷ vs) ≡ after (behind wanted t) (onto below []) vs
top_reads old below wanted t vs e = ap (λ (s : List Wanted). read_all s (t ∷ vs)) (on_top below old wanted e) ∙ token_reads wanted (onto below []) t vs

on_token : (bytes : List ℕ) (at next : ℕ) (old new : List Wanted) (t : Lexeme) (ts : List Lexeme) → Reached bytes at old → tokens (drop at bytes) ≡ t ∷ ts → tokens (drop next bytes) ≡ ts → tokens (take next bytes) ≡ tokens (take at bytes) ++ t ∷ [] → IsApart bytes next → Moved true old new t → Reached bytes next new
on_token bytes at next old new t ts r e n f apart m =
    record {
      front = r.front ++ t ∷ [];
      front_is = ap (λ (us : List Lexeme). us ++ t ∷ []) r.front_is ∙ sym f;
      apart = apart;
      parts = r.parts ∙ ap (λ (us : List Lexeme). r.front ++ us) e ∙ sym (append_assoc r.front (t ∷ []) ts) ∙ ap (λ (us : List Lexeme). (r.front ++ t ∷ []) ++ us) (sym n);
      reads = λ vs. ap (λ (us : List Lexeme). none_left (from_start us)) (append_assoc r.front (t ∷ []) vs) ∙ r.reads (t ∷ vs) ∙ top_reads old m.below m.wanted t vs m.was ∙ put_reads m.below new vs (behind m.wanted t) m.puts;
      bottomed = put_bottomed m.wanted m.below new t (behind m.wanted t) refl m.puts (subst (λ (s : List Wanted). IsBottomed s) (on_top m.below old m.wanted m.was) r.bottomed);
    }

on_tokens : (bytes : List ℕ) (at next : ℕ) (old new : List Wanted) (us : List Lexeme) → Reached bytes at old → tokens (drop at bytes) ≡ us → tokens (drop next bytes) ≡ drop 1 us → tokens (take next bytes) ≡ tokens (take at bytes) ++ take 1 us → IsApart bytes next → Moves true old new us → Reached bytes next new
on_tokens bytes at next old new [] r e n f apart m = absurd cc
on_tokens bytes at next old new (t ∷ ts) r e n f apart m = on_token bytes at next old new t ts r e n f apart (m (some_wanted old r.bottomed))

on_true : (bytes : List ℕ) (at place next : ℕ) (old new : List Wanted) → Reached bytes at old → StepMoves bytes at place next true old new → Reached bytes next new
on_true bytes at place next old new r s =
    let f = s.one_more refl ∙ ap (λ (us : List Lexeme). us ++ take 1 (tokens (drop place bytes))) s.before in
    on_tokens bytes at next old new (tokens (drop place bytes)) r (sym s.same) (s.next_is refl) f s.apart s.moves

-- the walk goes on
pub goes_on : (bytes : List ℕ) (at place next : ℕ) (went : Bool) (old new : List Wanted) → went ≡ true → Reached bytes at old → StepMoves bytes at place next went old new → Reached bytes next new
goes_on bytes at place next went old new e r s = on_true bytes at place next old new r (subst (λ (w : Bool). StepMoves bytes at place next w old new) e s)

-- ---- where it ends

no_file : (bytes : List ℕ) → IsFirst bytes Shape → IsFileOf (tokens bytes) → ⊥
no_file bytes first h = first.2 h.file (record { short = first.0; allowed = first.1; spelled = h.spelled; formed = h.formed; parts = h.parts })

abbrev no_tokens : Left
no_tokens = Some []

none_goes_on : (bytes : List ℕ) (at : ℕ) (old new : List Wanted) (us : List Lexeme) (r : Reached bytes at old) → IsFirst bytes Shape → tokens (drop at bytes) ≡ us → Moves false old new us → NoneGoesOn r.front us
none_goes_on bytes at old new [] r first e m =
    λ h. no_file bytes first (subst IsFileOf (sym (r.parts ∙ ap (λ (us : List Lexeme). r.front ++ us) e ∙ append-nil r.front)) h)
none_goes_on bytes at old new (t ∷ ts) r first e m =
    λ more h. let moved = m (some_wanted old r.bottomed) in
    let read : no_tokens ≡ None = sym (file_is (r.front ++ t ∷ more) h) ∙ r.reads (t ∷ more) ∙ top_reads old moved.below moved.wanted t more moved.was ∙ unput_reads moved.below new more (behind moved.wanted t) moved.puts in
    absurd cc

on_false : (bytes : List ℕ) (at place next : ℕ) (old new : List Wanted) → IsFirst bytes Shape → Reached bytes at old → IsTokenPlace bytes place → StepMoves bytes at place next false old new → IsStop bytes place
on_false bytes at place next old new first r here s =
    let same : r.front ≡ tokens (take place bytes) = r.front_is ∙ sym s.before in
    let more = finish_all (onto old []) in
    record {
      here = here;
      more = more;
      begun = subst (λ (us : List Lexeme). IsFileOf (us ++ more)) same (is_file (r.front ++ more) (r.reads more ∙ all_ends (onto old []) r.bottomed));
      stops = subst (λ (us : List Lexeme). NoneGoesOn us (tokens (drop place bytes))) same (none_goes_on bytes at old new (tokens (drop place bytes)) r first (sym s.same) s.moves);
    }

pub stops : (bytes : List ℕ) (at place next : ℕ) (went : Bool) (old new : List Wanted) → went ≡ false → IsFirst bytes Shape → Reached bytes at old → IsTokenPlace bytes place → StepMoves bytes at place next went old new → IsStop bytes place
stops bytes at place next went old new e first r here s = on_false bytes at place next old new first r here (subst (λ (w : Bool). StepMoves bytes at place next w old new) e s)
