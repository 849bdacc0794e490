use Rattle.std.proofs.Common.{◌≡◌, ℕ, ◌*◌, ◌+◌, ◌<◌, Bool, if◌then◌else◌, List, ℤ, length, ap, sym, subst, ◌∙◌, ⊎_elim, arith, Option}
use Rattle.std.specs.Prelude.{slice_index}
use Rattle.std.specs.Int.{w64, cast_signed}
use Rattle.txn_programs.specs.Listing.{Listing}
use Rattle.txn_programs.specs.declared.ast.VarId.{VarId}
use Rattle.txn_words.specs.Words.{state_of, last_state, state_value}
use Rattle.txn_words.specs.Loads.{SamplingHolds, LoadedIs}
use Rattle.world_law.specs.declared.events.Loads.{Loads}
use Rattle.world_law.specs.World.{Committer, World, bound, version_now, value_now, words_loaded}
use Rattle.world_law.specs.Commits.{RestsAt, IsAsFar}
use Rattle.world_law.specs.Opacity.{WordsFit}
use Rattle.world_tests.specs.Uses.{WordsAreTheLastState, LoadsAreOfTheState}
use Rattle.world_tests.proofs.uses.means.Goals as goal

last : (l : Listing) (w : World) → WordsFit l w → WordsAreTheLastState w
last l w f x none low =
    let rest : (n : ℕ) × RestsAt f.commit n = subst (λ (o : Option Committer). IsAsFar o f.commit) none f.far in
    let values : f.commit.values ≡ last_state w.history = rest.1.settled.1 ∙ ap last_state f.history in
    let size : length f.commit.values ≡ length (last_state w.history) = ap (λ (m : List ℤ). length m) values in
    let each = f.words.each x.0 (omega (arith, size, low)) in
    let at : ℕ = slice_index f.commit.versions x.0 in
    let version : version_now w x ≡ 2 * at + 0 = each.version ∙ ap (λ (b : Bool). 2 * at + (if b then 1 else 0)) (rest.1.free x.0) in
    (omega (arith, version), each.value ∙ ap (λ (m : List ℤ). state_value m x.0) values)

of_state : (l : Listing) (w : World) → WordsFit l w → LoadsAreOfTheState l w
of_state l w f i first bits y x at wants is even low same =
    let z : ℤ = state_value (state_of w.history (bound y)) x.0 in
    let s = subst (λ (o : Loads). SamplingHolds (version_now w x) (value_now w x) (bound y) z (words_loaded o)) is (f.loads i y x at wants) in
    ⊎_elim (λ (t : first < version_now w x). absurd (omega (arith, t, same)))
    (λ (t : (cast_signed w64 (value_now w x) ≡ z) × (cast_signed w64 bits ≡ z)). t.1) (s.2 even low)

pub returns-clause-last : goal.returns-clause-last
returns-clause-last c w reached = last c.args.catalogue.now w (c.opacity.ensures.words w reached)

pub returns-clause-loads : goal.returns-clause-loads
returns-clause-loads c w reached = of_state c.args.catalogue.now w (c.opacity.ensures.words w reached)
