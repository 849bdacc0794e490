-- Entries that go on, one after another.
use Rattle.std.proofs.Common.{◌≡◌, ◌∙◌, ℕ, zero, suc, ◌+◌, ◌<◌, ◌≤◌, List, [], ◌∷◌, length, take, get_or, Some, refl, sym, ap, subst, arith}
use Rattle.std.specs.List.{slice_get, All}
use Rattle.std.proofs.lemmas.Option.{slice_get-get_or}
use Rattle.std.proofs.lemmas.List.{take_all}
use Rattle.txn_programs.specs.declared.report.Entry.{Entry}
use Rattle.txn_programs.specs.Listing.{Listing}
use Rattle.txn_programs.specs.Replay.{Snapshot, applied}
use Rattle.checker.specs.Parts.{GoesOn, AllGoOn, led_to}
use Rattle.explain_reports.specs.First.{RightBefore, AllRight}
use Rattle.explain_reports.specs.Parts.{GoesOnThere}
use Rattle.explain_reports.proofs.First.{one_before}

-- where they lead, with one entry more
led_suc : (l : Listing) (s : Snapshot) (es : List Entry) (i : ℕ) (e : Entry) → slice_get es i ≡ Some e → led_to l s (take (suc i) es) ≡ applied l e (led_to l s (take i es))
led_suc l s [] i e at = absurd (cc)
led_suc l s (x ∷ es) zero e at = let same : x ≡ e = cc in ap (λ z. applied l z s) same
led_suc l s (x ∷ es) (suc i) e at = led_suc l (applied l x s) es i e at

next : (i : ℕ) → i + 1 ≡ suc i
next i = omega arith

pub led_more : (l : Listing) (s : Snapshot) (es : List Entry) (i : ℕ) (e : Entry) → slice_get es i ≡ Some e → led_to l s (take (i + 1) es) ≡ applied l e (led_to l s (take i es))
led_more l s es i e at = ap (λ (n : ℕ). led_to l s (take n es)) (next i) ∙ led_suc l s es i e at

pub led_all : (l : Listing) (s : Snapshot) (es : List Entry) (i : ℕ) → length es ≤ i → led_to l s (take i es) ≡ led_to l s es
led_all l s es i past = ap (led_to l s) (take_all i es past)

-- all go on
pub all_go_on : (l : Listing) (s : Snapshot) (es : List Entry) → AllRight (GoesOnThere l s es) es → AllGoOn l s es
all_go_on l s [] h = tt
all_go_on l s (e ∷ es) h = (h 0 e refl, all_go_on l (applied l e s) es (λ i x at. h (suc i) x at))

pub each_goes_on : (l : Listing) (s : Snapshot) (es : List Entry) → AllGoOn l s es → AllRight (GoesOnThere l s es) es
each_goes_on l s [] h i x at = absurd (cc)
each_goes_on l s (e ∷ es) h zero x at = let same : e ≡ x = cc in subst (λ y. GoesOn l y s) same h.0
each_goes_on l s (e ∷ es) h (suc i) x at = each_goes_on l (applied l e s) es h.1 i x at

-- ---- one entry more

pub step_right : (l : Listing) (s at : Snapshot) (es : List Entry) (i : ℕ) (d : Entry) → i < length es → at ≡ led_to l s (take i es) → GoesOn l (get_or es i d) at → RightBefore (GoesOnThere l s es) es i → RightBefore (GoesOnThere l s es) es (i + 1)
step_right l s at es i d lt led goes before = one_before (GoesOnThere l s es) es i (get_or es i d) (slice_get-get_or es i d lt) (subst (GoesOn l (get_or es i d)) led goes) before

pub step_led : (l : Listing) (s at new : Snapshot) (es : List Entry) (i : ℕ) (d : Entry) → i < length es → at ≡ led_to l s (take i es) → new ≡ applied l (get_or es i d) at → new ≡ led_to l s (take (i + 1) es)
step_led l s at new es i d lt led moved = moved ∙ (ap (applied l (get_or es i d)) led ∙ sym (led_more l s es i (get_or es i d) (slice_get-get_or es i d lt)))

pub step_few : (l : Listing) (at new : Snapshot) (es : List Entry) (i most : ℕ) (d : Entry) → i < length es → All (λ (e : Entry). e.number ≤ most) es → new ≡ applied l (get_or es i d) at → new.number ≤ most
unfolding applied
step_few l at new es i most d lt few moved =
    let same : new.number ≡ (get_or es i d).number = ap (λ (s : Snapshot). s.number) moved in
    let bound : (get_or es i d).number ≤ most = few i d lt in
    omega arith
