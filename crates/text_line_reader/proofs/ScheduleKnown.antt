-- Whether the code's lines name known variables alone.
use Rattle.std.proofs.Common.{◌≡◌, Bool, true, false, List, Err, refl, sym}
use Rattle.std.specs.List.{list_all}
use Rattle.std.proofs.lemmas.List.Folds.{list_all-map}
use Rattle.txn_programs.specs.Listing.{Listing}
use Rattle.text_words.specs.declared.fault.ReadFault.TheVariants.{Name}
use Rattle.text_line_reader.specs.ScheduleResolving.{is_known, names_known, moves_told, resolved}
use Rattle.text_line_reader.specs.ScheduleView.{view_move, view_moves}
use Rattle.text_line_reader.specs.declared.schedule.raw.RawMove.{RawMove}

names_mapped : (l : Listing) (raws : List RawMove) → names_known l (view_moves raws) ≡ list_all (λ r. is_known l (view_move r)) raws
names_mapped l raws = list_all-map (is_known l) view_move raws

-- where all are known the moves are told, else the fault is a name's
pub resolved_known : (l : Listing) (raws : List RawMove) (b : Bool) → b ≡ list_all (λ r. is_known l (view_move r)) raws → b ≡ true → resolved l (view_moves raws) ≡ moves_told l (view_moves raws)
unfolding resolved
resolved_known l raws b is holds = rw (names_mapped l raws, sym is, holds) refl

pub resolved_unknown : (l : Listing) (raws : List RawMove) (b : Bool) → b ≡ list_all (λ r. is_known l (view_move r)) raws → b ≡ false → resolved l (view_moves raws) ≡ Err Name
unfolding resolved
resolved_unknown l raws b is fails = rw (names_mapped l raws, sym is, fails) refl
