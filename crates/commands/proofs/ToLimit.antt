-- What is read through a reader to a limit.
use Rattle.std.proofs.Common.{◌≡◌, ℕ, ◌+◌, ◌<◌, ◌≤◌, Bool, true, false, not, ◌&&◌, List, [], ◌∷◌, ◌++◌, None, Some, arith, length, take, drop, refl, sym, ap, ◌∙◌, zero-le, take_all, length-take-le, length-drop, nat_eq, if◌then◌else◌}
use lib.Seq.{take-append-le, take-append-add}
use Rattle.std.specs.Option.{option_map}
use Rattle.std.specs.declared.option.Option.{Option}
use Rattle.std.specs.List.{starts_with}
use Rattle.std.specs.Io.KnownBytes.{Consumes, IsAtEnd}
use lib.Pointwise.{pointwise}
use Rattle.std.specs.Prelude.{IfSome, codes}
use Rattle.txn_text.specs.Tree.{longest}
use Rattle.commands.specs.Files.{file_limit, IsRead}

-- a read gives a part of what may be given, where the number of bytes that may be given shrinks by those that were read
pub gives : (old new : List ℕ → ℕ) (a b : Option (List ℕ)) (part rest : List ℕ) (n : ℕ) → n ≤ length part → (0 < length (part ++ rest) → 0 < length part)
    → ((ys : List ℕ) → old (take n part ++ ys) ≡ n + new ys)
    → Consumes a b (take n part) → (n ≡ 0 → 0 < length part → IsAtEnd b)
    → Consumes (option_map (λ all. take (old all) all) a) (option_map (λ all. take (new all) all) b) (take n (part ++ rest)) × (n ≡ 0 → 0 < length (part ++ rest) → IsAtEnd (option_map (λ all. take (new all) all) b))
gives old new None None part rest n fits room counts read end = (tt, λ _ _. tt)
gives old new None (Some ys) part rest n fits room counts read end =
    (tt, λ zero some. ap (λ l. take (new l) l) (end zero (room some)) ∙ take_all (new []) [] zero-le)
gives old new (Some xs) None part rest n fits room counts read end = absurd read
gives old new (Some xs) (Some ys) part rest n fits room counts read end =
    let front = take n part in
    let split : old (front ++ ys) ≡ length front + new ys = counts ys ∙ ap (λ (k : ℕ). k + new ys) (sym (length-take-le n part fits)) in (
      ap (λ l. take (old l) l) read ∙ ap (λ k. take k (front ++ ys)) split ∙ take-append-add front ys (new ys) ∙ ap (λ l. l ++ take (new ys) ys) (sym (take-append-le n part rest fits)),
      λ zero some. ap (λ l. take (new l) l) (end zero (room some)) ∙ take_all (new []) [] zero-le,
    )

and_by : (a b c : Bool) → (a && (b && c)) ≡ ((a && b) && c)
and_by true b c = refl
and_by false b c = refl

-- bytes begin so where the first of them do, and then those behind
pub begins_by : (ahead front ys : List ℕ) → length front ≤ length ahead
    → starts_with nat_eq (front ++ ys) ahead ≡ (pointwise nat_eq (take (length front) ahead) front && starts_with nat_eq ys (drop (length front) ahead))
begins_by ahead [] ys fits = refl
begins_by [] (f ∷ front) ys fits = absurd (omega (arith, fits))
begins_by (a ∷ ahead) (f ∷ front) ys fits =
    ap (λ (b : Bool). nat_eq a f && b) (begins_by ahead front ys (omega (arith, fits)))
    ∙ and_by (nat_eq a f) (pointwise nat_eq (take (length front) ahead) front) (starts_with nat_eq ys (drop (length front) ahead))

either : (b : Bool) (n : ℕ) → (if b then n else n) ≡ n
either true n = refl
either false n = refl

-- behind a part that comes, as many bytes are given as where it had to come
pub behind_part : (ahead part ys : List ℕ) (short long : ℕ) → length part ≤ length ahead → pointwise nat_eq (take (length part) ahead) part ≡ true
    → length ahead + (if starts_with nat_eq (part ++ ys) ahead then long else short)
    ≡ length part + (length (drop (length part) ahead) + (if starts_with nat_eq ys (drop (length part) ahead) then long else short))
behind_part ahead part ys short long fits comes =
    let n : ℕ = if starts_with nat_eq ys (drop (length part) ahead) then long else short in
    let e : length ahead + n ≡ length part + (length (drop (length part) ahead) + n) = omega (arith, fits, length-drop (length part) ahead) in
    rw (begins_by ahead part ys fits, comes) e

-- and behind another part as few as where it does not come
pub behind_other : (ahead part ys : List ℕ) (short long : ℕ) → length part ≤ length ahead → pointwise nat_eq (take (length part) ahead) part ≡ false
    → length ahead + (if starts_with nat_eq (part ++ ys) ahead then long else short)
    ≡ length part + (length (drop (length part) ahead) + (if starts_with nat_eq ys (drop (length part) ahead) then short else short))
behind_other ahead part ys short long fits other =
    let e : length ahead + short ≡ length part + (length (drop (length part) ahead) + short) = omega (arith, fits, length-drop (length part) ahead) in
    rw (begins_by ahead part ys fits, other, either (starts_with nat_eq ys (drop (length part) ahead)) short) e

pub is_false : (b : Bool) → not b ≡ true → b ≡ false
is_false true h = cc
is_false false h = refl

pub is_true : (b : Bool) → not b ≡ false → b ≡ true
is_true true h = refl
is_true false h = cc

-- how many bytes of a file are given at first
at_first : (all : List ℕ) → 7 + (if starts_with nat_eq all (codes "(stm 3)") then 67108858 else 1048570) ≡ longest all + 1
unfolding longest
at_first all = by_heading (starts_with nat_eq all (codes "(stm 3)"))
  where
    by_heading : (b : Bool) → 7 + (if b then 67108858 else 1048570) ≡ (if b then 67108864 else 1048576) + 1
    by_heading true = refl
    by_heading false = refl

pub known_file : (known : Option (List ℕ)) (old items : List ℕ) → old ≡ []
    → IfSome (option_map (λ all. take (7 + (if starts_with nat_eq all (codes "(stm 3)") then 67108858 else 1048570)) all) known) (λ xs. items ≡ old ++ xs)
    → IsRead file_limit known items
known_file None old items empty h = tt
known_file (Some all) old items empty h = h ∙ (ap (λ (l : List ℕ). l ++ take (7 + (if starts_with nat_eq all (codes "(stm 3)") then 67108858 else 1048570)) all) empty ∙ ap (λ (k : ℕ). take k all) (at_first all))
