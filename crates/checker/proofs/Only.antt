-- Which verdict it is on bytes, and that it is the only one.
use Rattle.std.proofs.Common.{◌≡◌, ℕ, List, refl, subst}
use Rattle.txn_programs.specs.Listing.{Listing}
use Rattle.txn_programs.specs.Told.{Told}
use Rattle.text_line_reader.specs.Reports.{IsReport}
use Rattle.checker.specs.declared.verdict.Part.TheVariants.{Text, Base, Entries, Present, Tasks, Parked}
use Rattle.checker.specs.declared.verdict.Verdict.{Verdict}
use Rattle.checker.specs.declared.verdict.Verdict.TheVariants.{Good, Bad}
use Rattle.checker.specs.Verdicts.{IsVerdict, ReadAs, IsVerdictOn}
use Rattle.checker.proofs.Whole.{all_hold}

-- the verdict on a report is that on the bytes of its text
pub on_bytes : (l : Listing) (bytes : List ℕ) (r : Told) (v : Verdict) → IsReport l bytes r → IsVerdict l r v → IsVerdictOn l bytes v
on_bytes l bytes r Good is h = record { report = r; read = is; verdict = h }
on_bytes l bytes r (Bad Text) is h = absurd h
on_bytes l bytes r (Bad Base) is h = record { report = r; read = is; verdict = h }
on_bytes l bytes r (Bad Entries) is h = record { report = r; read = is; verdict = h }
on_bytes l bytes r (Bad Present) is h = record { report = r; read = is; verdict = h }
on_bytes l bytes r (Bad Tasks) is h = record { report = r; read = is; verdict = h }
on_bytes l bytes r (Bad Parked) is h = record { report = r; read = is; verdict = h }

-- two verdicts on one report are one
pub one : (l : Listing) (r : Told) (v w : Verdict) → IsVerdict l r v → IsVerdict l r w → v ≡ w
one l r (Bad Text) w a b = absurd a
one l r (Bad Base) (Bad Text) a b = absurd b
one l r (Bad Base) (Bad Base) a b = refl
one l r (Bad Base) (Bad Entries) a b = absurd (a b.0)
one l r (Bad Base) (Bad Present) a b = absurd (a b.0)
one l r (Bad Base) (Bad Tasks) a b = absurd (a b.0)
one l r (Bad Base) (Bad Parked) a b = absurd (a b.0)
one l r (Bad Base) Good a b = absurd (a (all_hold l r b).base)
one l r (Bad Entries) (Bad Text) a b = absurd b
one l r (Bad Entries) (Bad Base) a b = absurd (b a.0)
one l r (Bad Entries) (Bad Entries) a b = refl
one l r (Bad Entries) (Bad Present) a b = absurd (a.1 b.1)
one l r (Bad Entries) (Bad Tasks) a b = absurd (a.1 b.1)
one l r (Bad Entries) (Bad Parked) a b = absurd (a.1 b.1)
one l r (Bad Entries) Good a b = absurd (a.1 (all_hold l r b).entries)
one l r (Bad Present) (Bad Text) a b = absurd b
one l r (Bad Present) (Bad Base) a b = absurd (b a.0)
one l r (Bad Present) (Bad Entries) a b = absurd (b.1 a.1)
one l r (Bad Present) (Bad Present) a b = refl
one l r (Bad Present) (Bad Tasks) a b = absurd (a.2 b.2)
one l r (Bad Present) (Bad Parked) a b = absurd (a.2 b.2)
one l r (Bad Present) Good a b = absurd (a.2 (all_hold l r b).present)
one l r (Bad Tasks) (Bad Text) a b = absurd b
one l r (Bad Tasks) (Bad Base) a b = absurd (b a.0)
one l r (Bad Tasks) (Bad Entries) a b = absurd (b.1 a.1)
one l r (Bad Tasks) (Bad Present) a b = absurd (b.2 a.2)
one l r (Bad Tasks) (Bad Tasks) a b = refl
one l r (Bad Tasks) (Bad Parked) a b = absurd (a.3 b.3)
one l r (Bad Tasks) Good a b = absurd (a.3 (all_hold l r b).tasks)
one l r (Bad Parked) (Bad Text) a b = absurd b
one l r (Bad Parked) (Bad Base) a b = absurd (b a.0)
one l r (Bad Parked) (Bad Entries) a b = absurd (b.1 a.1)
one l r (Bad Parked) (Bad Present) a b = absurd (b.2 a.2)
one l r (Bad Parked) (Bad Tasks) a b = absurd (b.3 a.3)
one l r (Bad Parked) (Bad Parked) a b = refl
one l r (Bad Parked) Good a b = absurd (a.4 (all_hold l r b).parked)
one l r Good (Bad Text) a b = absurd b
one l r Good (Bad Base) a b = absurd (b (all_hold l r a).base)
one l r Good (Bad Entries) a b = absurd (b.1 (all_hold l r a).entries)
one l r Good (Bad Present) a b = absurd (b.2 (all_hold l r a).present)
one l r Good (Bad Tasks) a b = absurd (b.3 (all_hold l r a).tasks)
one l r Good (Bad Parked) a b = absurd (b.4 (all_hold l r a).parked)
one l r Good Good a b = refl

-- where the bytes are the text of one report alone, the verdict on it is the only one on them
same_read : (l : Listing) (bytes : List ℕ) (r : Told) (v w : Verdict) → ((t : Told) → IsReport l bytes t → t ≡ r) → IsVerdict l r v → ReadAs l bytes w → v ≡ w
same_read l bytes r v w alone h a = one l r v w h (subst (λ t. IsVerdict l t w) (alone a.report a.read) a.verdict)

pub only_on_bytes : (l : Listing) (bytes : List ℕ) (r : Told) (v w : Verdict) → IsReport l bytes r → ((t : Told) → IsReport l bytes t → t ≡ r) → IsVerdict l r v → IsVerdictOn l bytes w → v ≡ w
only_on_bytes l bytes r v Good is alone h a = same_read l bytes r v Good alone h a
only_on_bytes l bytes r v (Bad Text) is alone h a = absurd (a r is)
only_on_bytes l bytes r v (Bad Base) is alone h a = same_read l bytes r v (Bad Base) alone h a
only_on_bytes l bytes r v (Bad Entries) is alone h a = same_read l bytes r v (Bad Entries) alone h a
only_on_bytes l bytes r v (Bad Present) is alone h a = same_read l bytes r v (Bad Present) alone h a
only_on_bytes l bytes r v (Bad Tasks) is alone h a = same_read l bytes r v (Bad Tasks) alone h a
only_on_bytes l bytes r v (Bad Parked) is alone h a = same_read l bytes r v (Bad Parked) alone h a

-- where they are the text of none, it is that they can't be read
pub only_unread : (l : Listing) (bytes : List ℕ) (w : Verdict) → ((t : Told) → IsReport l bytes t → ⊥) → IsVerdictOn l bytes w → Bad Text ≡ w
only_unread l bytes Good none a = absurd (none a.report a.read)
only_unread l bytes (Bad Text) none a = refl
only_unread l bytes (Bad Base) none a = absurd (none a.report a.read)
only_unread l bytes (Bad Entries) none a = absurd (none a.report a.read)
only_unread l bytes (Bad Present) none a = absurd (none a.report a.read)
only_unread l bytes (Bad Tasks) none a = absurd (none a.report a.read)
only_unread l bytes (Bad Parked) none a = absurd (none a.report a.read)
