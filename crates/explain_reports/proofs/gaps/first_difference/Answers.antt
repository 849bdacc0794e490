use Rattle.std.proofs.Common.{◌≡◌, ◌≢◌, ◌∷◌, Some, None, refl, sym, subst}
use Rattle.std.proofs.lemmas.Option.{same_Some}
use Rattle.text_line_reader.specs.Lines.{Whole, lines}
use Rattle.explain_reports.specs.declared.gaps.Difference.TheVariants as difference
use Rattle.explain_reports.proofs.Apart.{whole_first, one_more, differ_at_first, whole_at_first, none_at_first, both_ended}
use Rattle.explain_reports.proofs.gaps.first_difference.Goals as goal

pub returns-then-not-same_line : goal.returns-then-not-same_line
returns-then-not-same_line c =
    let line = c.in-Some.line.now in
    let other = c.in-Some-next_line.other.now in
    let apart : Some line ≢ Some other = λ e. let same = c.if-not-same_line.ensures.1 (same_Some line other e) in absurd (cc) in
    c.lines.invariant (difference.Lines (Some c.in-Some.line) (Some c.in-Some-next_line.other))
    (differ_at_first c.lines.due.now c.lines.here.now (Some line) (Some other)
    (whole_at_first c.lines.due.now line (lines c.in-Some.more.now) (sym c.in-Some.ensures.value))
    (whole_at_first c.lines.here.now other (lines c.in-Some-next_line.others.now) (sym c.in-Some-next_line.ensures.value)) apart)

pub lines-preserved : goal.lines-preserved
lines-preserved c d h =
    let line = c.in-Some.line.now in
    let due = whole_first (lines c.lines.due.now) line (lines c.in-Some.more.now) (sym c.in-Some.ensures.value) in
    let here = whole_first (lines c.lines.here.now) c.in-Some-next_line.other.now (lines c.in-Some-next_line.others.now) (sym c.in-Some-next_line.ensures.value) in
    let same = subst (λ text. lines c.lines.here.now ≡ Whole text ∷ lines c.in-Some-next_line.others.now) (sym (c.if-not-same_line.ensures.0 refl)) here in
    c.lines.invariant d (one_more c.lines.due.now c.lines.here.now c.in-Some.more.now c.in-Some-next_line.others.now line due same d h)

pub returns-in-None : goal.returns-in-None
returns-in-None c =
    let line = c.in-Some.line.now in
    c.lines.invariant (difference.Lines (Some c.in-Some.line) None)
    (differ_at_first c.lines.due.now c.lines.here.now (Some line) None
    (whole_at_first c.lines.due.now line (lines c.in-Some.more.now) (sym c.in-Some.ensures.value))
    (none_at_first c.lines.here.now (sym c.in-None.ensures.value)) (λ e. absurd (cc)))

pub returns-in-Some-next_line-2 : goal.returns-in-Some-next_line-2
returns-in-Some-next_line-2 c =
    let other = c.in-Some-next_line-2.other.now in
    c.lines.invariant (difference.Lines None (Some c.in-Some-next_line-2.other))
    (differ_at_first c.lines.due.now c.lines.here.now None (Some other)
    (none_at_first c.lines.due.now (sym c.in_default.ensures.value))
    (whole_at_first c.lines.here.now other (lines c.in-Some-next_line-2.field-0-1.now) (sym c.in-Some-next_line-2.ensures.value)) (λ e. absurd (cc)))

pub returns-in-None-next_line : goal.returns-in-None-next_line
returns-in-None-next_line c =
    c.lines.invariant difference.None (both_ended c.lines.due.now c.lines.here.now (sym c.in_default.ensures.value) (sym c.in-None-next_line.ensures.value))
