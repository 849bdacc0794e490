-- What goes to a sink by way of a text, one step after another.
use Rattle.std.proofs.Common.{◌≡◌, ◌∙◌, ◌+◌, ◌-◌, ℕ, List, [], ◌++◌, Option, length, take, drop, refl, sym, ap, subst, append_assoc, arith, length-drop, take-add, Result, Ok, Err}
use Rattle.std.specs.Prelude.{OnErr, OnOk}
use Rattle.std.specs.Io.KnownBytes.{Appends}
use Rattle.std.proofs.KnownBytes.{Appends-nil, Appends-trans}
use Rattle.std.proofs.Math.Seq.{take-append_seam}
use Rattle.std.specs.List.{flat_map}
use Rattle.std.proofs.lemmas.Grind.{flat_map-append}
use Rattle.std.proofs.lemmas.List.{append-nil, take-append-drop, take_all, drop-drop}
use Rattle.runner.specs.Pieces.{Gathers, Breaks, Lines}

-- nothing was put
pub gathers_none : (a : Option (List ℕ)) (p : List ℕ) → Gathers a p a p []
gathers_none a p = record {
  taken = [];
  appended = Appends-nil a;
  whole = sym (append-nil p);
}

-- all that waited went out
pub gathers_out : (a b : Option (List ℕ)) (p bytes : List ℕ) → bytes ≡ p → Appends a b bytes → Gathers a p b [] []
gathers_out a b p bytes e all = record {
  taken = bytes;
  appended = all;
  whole = ap (λ x. x ++ []) e;
}

-- a beginning of what waited went out
pub breaks_out : (a b : Option (List ℕ)) (p bytes : List ℕ) → bytes ≡ p → (n : ℕ) × Appends a b (take n bytes) → Breaks a p b []
breaks_out a b p bytes e h = (
  drop h.0 bytes,
  record {
    taken = take h.0 bytes;
    appended = h.1;
    whole = take-append-drop h.0 bytes ∙ e ∙ sym (append-nil p);
  },
)

-- what a failed call leaves
pub on_err : {A E : Type 0} (r : Result A E) {P : Type 0} → P → OnErr r P
on_err (Ok a) p = tt
on_err (Err e) p = p

pub map_err : {A E : Type 0} (r : Result A E) {P Q : Type 0} → (P → Q) → OnErr r P → OnErr r Q
map_err (Ok a) f p = tt
map_err (Err e) f p = f p

pub map_ok : {A E : Type 0} (r : Result A E) {P Q : Type 0} → (P → Q) → OnOk r P → OnOk r Q
map_ok (Ok a) f p = f p
map_ok (Err e) f p = tt

-- these bytes were put behind the text
pub gathers_text : (a b : Option (List ℕ)) (p q r t : List ℕ) → Gathers a p b q [] → r ≡ q ++ t → Gathers a p b r t
gathers_text a b p q r t g e = record {
  taken = g.taken;
  appended = g.appended;
  whole = ap (λ x. g.taken ++ x) e ∙ sym (append_assoc g.taken q t) ∙ ap (λ x. x ++ t) (g.whole ∙ append-nil p);
}

pub gathers_then : (a b c : Option (List ℕ)) (p q r t u : List ℕ) → Gathers a p b q t → Gathers b q c r u → Gathers a p c r (t ++ u)
gathers_then a b c p q r t u g h = record {
  taken = g.taken ++ h.taken;
  appended = Appends-trans a b c g.taken h.taken g.appended h.appended;
  whole = append_assoc g.taken h.taken r ∙ ap (λ x. g.taken ++ x) h.whole ∙ sym (append_assoc g.taken q u) ∙ ap (λ x. x ++ u) g.whole ∙ append_assoc p t u;
}

pub then_breaks : (a b c : Option (List ℕ)) (p q t u : List ℕ) → Gathers a p b q t → Breaks b q c u → Breaks a p c (t ++ u)
then_breaks a b c p q t u g h = (h.0, gathers_then a b c p q h.0 t u g h.1)

-- more bytes were still to come
pub breaks_before : (a b : Option (List ℕ)) (p t u : List ℕ) → Breaks a p b t → Breaks a p b (t ++ u)
breaks_before a b p t u h = (
  h.0 ++ u,
  record {
    taken = h.1.taken;
    appended = h.1.appended;
    whole = sym (append_assoc h.1.taken h.0 u) ∙ ap (λ x. x ++ u) h.1.whole ∙ append_assoc p t u;
  },
)

-- nothing waits: all went out
pub all_out : (a b : Option (List ℕ)) (p t : List ℕ) → p ≡ [] → Gathers a p b [] t → Appends a b t
all_out a b p t e g = subst (Appends a b) (sym (append-nil g.taken) ∙ g.whole ∙ ap (λ x. x ++ t) e) g.appended

-- a beginning went out
pub some_out : (a b : Option (List ℕ)) (p t : List ℕ) → p ≡ [] → Breaks a p b t → (n : ℕ) × Appends a b (take n t)
some_out a b p t e h =
    let g = h.1 in
    let whole : g.taken ++ h.0 ≡ t = g.whole ∙ ap (λ x. x ++ t) e in
    (length g.taken, subst (Appends a b) (sym (take-append_seam g.taken h.0) ∙ ap (take (length g.taken)) whole) g.appended)

-- before the first line
pub lines_none : {X : Type 0} (f : X → List ℕ) (a : Option (List ℕ)) (p : List ℕ) (all : List X) → Lines f a p a p all all
lines_none f a p all = record {
  count = 0;
  left = refl;
  gathers = gathers_none a p;
}

-- what is left after some lines, as the code cuts it off
pub cut : {X : Type 0} (n : ℕ) (rest : List X) → take (length rest - n) (drop n rest) ≡ drop n rest
cut n rest = take_all (length rest - n) (drop n rest) (omega (arith, length-drop n rest))

-- so many lines more
pub lines_more : {X : Type 0} (f : X → List ℕ) (a b c : Option (List ℕ)) (p q r s : List ℕ) (all rest : List X) (n : ℕ)
    → Lines f a p b q all rest → Gathers b q c r [] → s ≡ r ++ flat_map f (take n rest) → Lines f a p c s all (take (length rest - n) (drop n rest))
lines_more f a b c p q r s all rest n l g e =
    let k = l.count in
    let done = take k all in
    let some = take n rest in
    let joined : flat_map f done ++ flat_map f some ≡ flat_map f (take (k + n) all) =
    sym (flat_map-append f done some) ∙ ap (flat_map f) (ap (λ r. done ++ take n r) l.left ∙ sym (take-add k n all)) in
    record {
      count = k + n;
      left = cut n rest ∙ ap (drop n) l.left ∙ drop-drop n k all;
      gathers = subst (Gathers a p c s) joined (gathers_then a b c p q s (flat_map f done) (flat_map f some) l.gathers (gathers_text b c q r s (flat_map f some) g e));
    }

-- all lines, as those that were put and the rest
both : {X : Type 0} (f : X → List ℕ) (k : ℕ) (all : List X) → flat_map f (take k all) ++ flat_map f (drop k all) ≡ flat_map f all
both f k all = sym (flat_map-append f (take k all) (drop k all)) ∙ ap (flat_map f) (take-append-drop k all)

pub lines_break : {X : Type 0} (f : X → List ℕ) (a b c : Option (List ℕ)) (p q : List ℕ) (all rest : List X) → Lines f a p b q all rest → Breaks b q c [] → Breaks a p c (flat_map f all)
lines_break f a b c p q all rest l h =
    let done = flat_map f (take l.count all) in
    let more = flat_map f (drop l.count all) in
    let so_far : Breaks a p c done = subst (Breaks a p c) (append-nil done) (then_breaks a b c p q done [] l.gathers h) in
    subst (Breaks a p c) (both f l.count all) (breaks_before a c p done more so_far)

pub lines_done : {X : Type 0} (f : X → List ℕ) (a b : Option (List ℕ)) (p q : List ℕ) (all rest : List X) → Lines f a p b q all rest → rest ≡ [] → Gathers a p b q (flat_map f all)
lines_done f a b p q all rest l e =
    let done = flat_map f (take l.count all) in
    let none : drop l.count all ≡ [] = sym l.left ∙ e in
    let whole : done ≡ flat_map f all = sym (append-nil done) ∙ ap (λ xs. done ++ flat_map f xs) (sym none) ∙ both f l.count all in
    subst (Gathers a p b q) whole l.gathers

-- of some bytes a part was put, and this is still to come
pub record Puts (old : Option (List ℕ)) (waited : List ℕ) (new : Option (List ℕ)) (waits whole rest : List ℕ) : Type 0 where
  pub part : List ℕ
  pub gathers : Gathers old waited new waits part
  pub split : part ++ rest ≡ whole

pub puts_none : (a : Option (List ℕ)) (p whole : List ℕ) → Puts a p a p whole whole
puts_none a p whole = record { part = []; gathers = gathers_none a p; split = refl }

pub puts_more : (a b c : Option (List ℕ)) (p q r whole rest t more : List ℕ) → Puts a p b q whole rest → Gathers b q c r t → rest ≡ t ++ more → Puts a p c r whole more
puts_more a b c p q r whole rest t more h g e = record {
  part = h.part ++ t;
  gathers = gathers_then a b c p q r h.part t h.gathers g;
  split = append_assoc h.part t more ∙ ap (λ x. h.part ++ x) (sym e) ∙ h.split;
}

pub puts_break : (a b c : Option (List ℕ)) (p q whole rest t more : List ℕ) → Puts a p b q whole rest → Breaks b q c t → rest ≡ t ++ more → Breaks a p c whole
puts_break a b c p q whole rest t more h g e =
    let split : (h.part ++ t) ++ more ≡ whole = append_assoc h.part t more ∙ ap (λ x. h.part ++ x) (sym e) ∙ h.split in
    subst (Breaks a p c) split (breaks_before a c p (h.part ++ t) more (then_breaks a b c p q h.part t h.gathers g))

pub puts_done : (a b : Option (List ℕ)) (p q whole rest : List ℕ) → Puts a p b q whole rest → rest ≡ [] → Gathers a p b q whole
puts_done a b p q whole rest h e =
    subst (Gathers a p b q) (sym (append-nil h.part) ∙ ap (λ x. h.part ++ x) (sym e) ∙ h.split) h.gathers
