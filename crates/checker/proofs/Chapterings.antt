-- There is one verdict on a chapter.
use Rattle.std.proofs.Common.{◌≡◌, ℕ, List, refl, sym, subst}
use Rattle.txn_programs.specs.Listing.{Listing}
use Rattle.txn_programs.specs.Told.{Told}
use Rattle.txn_text.specs.Spelling.{Spells}
use Rattle.text_line_reader.specs.Reports.{IsReport}
use Rattle.checker.specs.declared.verdict.Part.{Part}
use Rattle.checker.specs.declared.verdict.Verdict.{Verdict}
use Rattle.checker.specs.declared.verdict.Verdict.TheVariants as verdict
use Rattle.checker.specs.declared.chapter.ChapterVerdict.{ChapterVerdict}
use Rattle.checker.specs.declared.chapter.ChapterVerdict.TheVariants.{Good, Bad, Before, Elsewhere}
use Rattle.checker.specs.Verdicts.{IsVerdictOn, Judges, ReadAs}
use Rattle.checker.specs.Chapters.{GoesOnAfter, GoesElsewhere, Follows, IsVerdictAfter, IsGoodAnd, JudgesAfter}

-- a file spells this listing alone
abbrev pub SpellsOnly : List ℕ → Listing → Type 0
SpellsOnly bytes l = (m : Listing) → Spells bytes m → m ≡ l

-- this is the only verdict on the bytes of a report
abbrev pub IsOnly : Listing → List ℕ → Verdict → Type 0
IsOnly l bytes v = (w : Verdict) → IsVerdictOn l bytes w → v ≡ w

lawful_bytes : (Holds : Listing → Told → Listing → Type 0) (e s : List ℕ) (l next : Listing) → SpellsOnly e l → Follows Holds e s next → IsVerdictOn l s verdict.Good
lawful_bytes Holds e s l next only f =
    let read : ReadAs f.listing s verdict.Good = record { report = f.told; read = f.read; verdict = f.lawful } in
    subst (λ (m : Listing). ReadAs m s verdict.Good) (only f.listing f.spelled) read

judged_of : (e s : List ℕ) (l : Listing) (v : Verdict) → SpellsOnly e l → Judges e s v → IsVerdictOn l s v
judged_of e s l v only j = subst (λ (m : Listing). IsVerdictOn m s v) (only j.listing j.spelled) j.verdict

-- where this part of the earlier report fails first
pub before_alone : (e s : List ℕ) (l next : Listing) (part : Part) → SpellsOnly e l → IsOnly l s (verdict.Bad part) → (v : ChapterVerdict) → IsVerdictAfter e s next v → Before part ≡ v
before_alone e s l next part only alone Good f = let no : verdict.Bad part ≡ verdict.Good = alone verdict.Good (lawful_bytes GoesOnAfter e s l next only f) in absurd (cc)
before_alone e s l next part only alone (Bad p) f = absurd f
before_alone e s l next part only alone (Before p) j = let same : verdict.Bad part ≡ verdict.Bad p = alone (verdict.Bad p) (judged_of e s l (verdict.Bad p) only j) in cc
before_alone e s l next part only alone Elsewhere f = let no : verdict.Bad part ≡ verdict.Good = alone verdict.Good (lawful_bytes GoesElsewhere e s l next only f) in absurd (cc)

-- what holds of the earlier file and of its report holds of those that were read
holds_there : (Holds : Listing → Told → Listing → Type 0) (e s : List ℕ) (l next : Listing) (r : Told) → SpellsOnly e l → ((t : Told) → IsReport l s t → r ≡ t) → Follows Holds e s next → Holds l r next
holds_there Holds e s l next r only one f =
    let same : f.listing ≡ l = only f.listing f.spelled in
    let read : IsReport l s f.told = subst (λ (m : Listing). IsReport m s f.told) same f.read in
    subst (λ (t : Told). Holds l t next) (sym (one f.told read)) (subst (λ (m : Listing). Holds m f.told next) same f.holds)

-- where it is lawful, and the file goes on
pub good_alone : (e s : List ℕ) (l next : Listing) (r : Told) → SpellsOnly e l → IsOnly l s verdict.Good → ((t : Told) → IsReport l s t → r ≡ t) → GoesOnAfter l r next
    → (v : ChapterVerdict) → IsVerdictAfter e s next v → Good ≡ v
good_alone e s l next r only alone one g Good f = refl
good_alone e s l next r only alone one g (Bad p) f = absurd f
good_alone e s l next r only alone one g (Before p) j = let no : verdict.Good ≡ verdict.Bad p = alone (verdict.Bad p) (judged_of e s l (verdict.Bad p) only j) in absurd (cc)
good_alone e s l next r only alone one g Elsewhere f = absurd (holds_there GoesElsewhere e s l next r only one f g)

-- or does not
pub elsewhere_alone : (e s : List ℕ) (l next : Listing) (r : Told) → SpellsOnly e l → IsOnly l s verdict.Good → ((t : Told) → IsReport l s t → r ≡ t) → GoesElsewhere l r next
    → (v : ChapterVerdict) → IsVerdictAfter e s next v → Elsewhere ≡ v
elsewhere_alone e s l next r only alone one not_on Good f = absurd (not_on (holds_there GoesOnAfter e s l next r only one f))
elsewhere_alone e s l next r only alone one not_on (Bad p) f = absurd f
elsewhere_alone e s l next r only alone one not_on (Before p) j = let other : verdict.Good ≡ verdict.Bad p = alone (verdict.Bad p) (judged_of e s l (verdict.Bad p) only j) in absurd (cc)
elsewhere_alone e s l next r only alone one not_on Elsewhere f = refl

-- ---- the report of the file itself

-- where it is lawful, the verdict is the one behind the earlier pair
pub behind : (f r e s : List ℕ) (next : Listing) → SpellsOnly f next → IsOnly next r verdict.Good → (v : ChapterVerdict) → JudgesAfter f r e s v → IsVerdictAfter e s next v
behind f r e s next only alone Good g = subst (λ (m : Listing). IsVerdictAfter e s m Good) (only g.listing g.spelled) g.verdict
behind f r e s next only alone (Bad p) j = let no : verdict.Good ≡ verdict.Bad p = alone (verdict.Bad p) (judged_of f r next (verdict.Bad p) only j) in absurd (cc)
behind f r e s next only alone (Before p) g = subst (λ (m : Listing). IsVerdictAfter e s m (Before p)) (only g.listing g.spelled) g.verdict
behind f r e s next only alone Elsewhere g = subst (λ (m : Listing). IsVerdictAfter e s m Elsewhere) (only g.listing g.spelled) g.verdict

bad_or : (f r e s : List ℕ) (next : Listing) (part : Part) (v : ChapterVerdict) → SpellsOnly f next → IsOnly next r (verdict.Bad part) → IsGoodAnd f r e s v → Bad part ≡ v
bad_or f r e s next part v only alone g = let no : verdict.Bad part ≡ verdict.Good = alone verdict.Good (judged_of f r next verdict.Good only g.good) in absurd (cc)

-- where it is not, that is the verdict
pub bad_alone : (f r e s : List ℕ) (next : Listing) (part : Part) → SpellsOnly f next → IsOnly next r (verdict.Bad part) → (v : ChapterVerdict) → JudgesAfter f r e s v → Bad part ≡ v
bad_alone f r e s next part only alone Good g = bad_or f r e s next part Good only alone g
bad_alone f r e s next part only alone (Bad p) j = let same : verdict.Bad part ≡ verdict.Bad p = alone (verdict.Bad p) (judged_of f r next (verdict.Bad p) only j) in cc
bad_alone f r e s next part only alone (Before p) g = bad_or f r e s next part (Before p) only alone g
bad_alone f r e s next part only alone Elsewhere g = bad_or f r e s next part Elsewhere only alone g

-- the verdict behind the earlier pair, with the report's own
pub with_good : (f r e s : List ℕ) (next : Listing) → Spells f next → IsVerdictOn next r verdict.Good → (v : ChapterVerdict) → IsVerdictAfter e s next v → JudgesAfter f r e s v
with_good f r e s next spells good Good h = record { listing = next; spelled = spells; good = record { listing = next; spelled = spells; verdict = good }; verdict = h }
with_good f r e s next spells good (Bad p) h = absurd h
with_good f r e s next spells good (Before p) h = record { listing = next; spelled = spells; good = record { listing = next; spelled = spells; verdict = good }; verdict = h }
with_good f r e s next spells good Elsewhere h = record { listing = next; spelled = spells; good = record { listing = next; spelled = spells; verdict = good }; verdict = h }
