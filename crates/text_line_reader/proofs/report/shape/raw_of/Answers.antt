use Rattle.std.proofs.Common.{refl}
use Rattle.text_line_reader.specs.ReportReading.{raw_at}
use Rattle.text_line_reader.proofs.report.shape.raw_of.Goals as goal

pub returns : goal.returns
unfolding raw_at
returns c =
    rw (
      c.in_ok-base.ensures.value,
      c.in_ok-base_vars.ensures,
      c.in_ok-entries.ensures,
      c.in_ok-now.ensures.value,
      c.in_ok-now_vars.ensures,
      c.in_ok-parked.ensures,
      c.in_ok-memory.ensures,
      c.in_ok-rest.ensures.value,
      c.in_ok-end.ensures.value,
    ) refl
