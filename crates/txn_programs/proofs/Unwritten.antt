-- A value that no entry changed since the opening is as it was at first.
use Rattle.std.proofs.Common.{◌≡◌, ◌∙◌, ◌<◌, ℕ, zero, suc, ℤ, Bool, true, false, if◌then◌else◌, List, [], ◌∷◌, length, map, drop, replicate, refl, sym, subst, arith}
use Rattle.std.specs.Ordering.{int_eq}
use Rattle.std.proofs.lemmas.Bool.Decides.{Decides-int_eq}
use Rattle.txn_programs.specs.declared.report.Entry.{Entry}
use Rattle.txn_programs.specs.LawfulReport.{UnwrittenBegin, CellsBegin}
use Rattle.txn_programs.specs.Listing.{Listing, program_as}
use Rattle.txn_programs.specs.Meaning.{after}
use Rattle.txn_programs.specs.Replay.{Snapshot, Replays, applied, opening, versions_after}
use Rattle.txn_programs.specs.Told.{snapshot_at}

-- each value whose version is 0 is as it was at first
abbrev pub AreBegun : List ℤ → List ℤ → List ℕ → Type 0
AreBegun [] vs ns = Unit {0}
AreBegun (first ∷ initial) [] ns = Unit {0}
AreBegun (first ∷ initial) (v ∷ vs) [] = Unit {0}
AreBegun (first ∷ initial) (v ∷ vs) (n ∷ ns) = (n ≡ 0 → v ≡ first) × AreBegun initial vs ns

at_first : (initial : List ℤ) (ns : List ℕ) → AreBegun initial initial ns
at_first [] ns = tt
at_first (first ∷ initial) [] = tt
at_first (first ∷ initial) (n ∷ ns) = (λ e. refl, at_first initial ns)

unchanged : (same : Bool) (old new first : ℤ) (version n : ℕ) → (same ≡ true → old ≡ new) → (version ≡ 0 → old ≡ first) → 0 < n → (if same then version else n) ≡ 0 → new ≡ first
unchanged true old new first version n equal h later e = sym (equal refl) ∙ h e
unchanged false old new first version n equal h later e = absurd (omega (arith, later, e))

still_begun : (n : ℕ) → 0 < n → (initial olds news : List ℤ) (versions : List ℕ) → AreBegun initial olds versions → AreBegun initial news (versions_after n olds news versions)
still_begun n later [] olds news versions h = tt
still_begun n later (first ∷ initial) olds [] versions h = tt
still_begun n later (first ∷ initial) [] (new ∷ news) versions h = tt
still_begun n later (first ∷ initial) (old ∷ olds) (new ∷ news) [] h = tt
still_begun n later (first ∷ initial) (old ∷ olds) (new ∷ news) (version ∷ versions) h = (
  unchanged (int_eq old new) old new first version n (Decides-int_eq old new).0 h.0 later,
  still_begun n later initial olds news versions h.1,
)

-- so it stays
pub replays_begun : (l : Listing) (s now : Snapshot) (es : List Entry) → Replays l s es now → AreBegun l.initial s.state s.versions → AreBegun l.initial now.state now.versions
unfolding applied
replays_begun l s now [] r h = subst (λ (t : Snapshot). AreBegun l.initial t.state t.versions) (sym r) h
replays_begun l s now (e ∷ es) r h =
    let next = r.0.number in
    replays_begun l (applied l e s) now es r.1
    (still_begun e.number (omega (arith, next)) l.initial s.state (after (program_as l e.task e.tx) s.state) s.versions h)

pub opening_begun : (l : Listing) → AreBegun l.initial (opening l).state (opening l).versions
opening_begun l = at_first l.initial (replicate (length l.initial) 0)

-- the same of values that stand beside their versions
beside : (initial : List ℤ) (vars : List (ℤ × ℕ)) → AreBegun initial (map (λ v. v.0) vars) (map (λ v. v.1) vars) → UnwrittenBegin initial vars
beside [] vars h = tt
beside (first ∷ initial) [] h = tt
beside (first ∷ initial) (v ∷ vars) h = (h.0, beside initial vars h.1)

nothing : (initial : List ℤ) → UnwrittenBegin initial []
nothing [] = tt
nothing (first ∷ initial) = tt

behind : (k : ℕ) (initial : List ℤ) (vars : List (ℤ × ℕ)) → UnwrittenBegin initial vars → UnwrittenBegin (drop k initial) (drop k vars)
behind zero initial vars h = h
behind (suc k) [] vars h = tt
behind (suc k) (first ∷ initial) [] h = nothing (drop k initial)
behind (suc k) (first ∷ initial) (v ∷ vars) h = behind k initial vars h.1

-- the cells of a snapshot at which a report says so
pub cells_begin : (l : Listing) (n : ℕ) (vars : List (ℤ × ℕ)) (s : Snapshot) → snapshot_at n vars ≡ s → AreBegun l.initial s.state s.versions → CellsBegin l vars
cells_begin l n vars s e h =
    behind (length l.names) l.initial vars
    (beside l.initial vars (subst (λ (t : Snapshot). AreBegun l.initial t.state t.versions) (sym e) h))

-- of no values at all
pub none_begin : (l : Listing) → CellsBegin l []
none_begin l = behind (length l.names) l.initial [] (nothing l.initial)
