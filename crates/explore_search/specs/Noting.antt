-- Which outcomes were seen, with one more.
use Rattle.std.specs.Prelude.{true, false, replicate, slice_set}
use Rattle.txn_programs.specs.Limits.{most_conditions}
use Rattle.txn_programs.specs.declared.ast.Outcome.{Outcome}
use Rattle.txn_programs.specs.declared.ast.Outcome.TheVariants.{Returned, Thrown, Retries}
use Rattle.txn_programs.specs.declared.ast.Fault.TheVariants.{User, Overflow, DivideByZero, Broken, Outside}
use Rattle.explore_law.specs.declared.found.Kinds.{Kinds}

abbrev pub none_seen : Kinds
none_seen = record { returned = false; threw = false; overflow = false; zerodiv = false; outside = false; broke = replicate most_conditions false }

abbrev pub noted : Kinds → Outcome → Kinds
noted ks (Returned v) = record { returned = true; threw = ks.threw; overflow = ks.overflow; zerodiv = ks.zerodiv; outside = ks.outside; broke = ks.broke }
noted ks (Thrown (User v)) = record { returned = ks.returned; threw = true; overflow = ks.overflow; zerodiv = ks.zerodiv; outside = ks.outside; broke = ks.broke }
noted ks (Thrown Overflow) = record { returned = ks.returned; threw = ks.threw; overflow = true; zerodiv = ks.zerodiv; outside = ks.outside; broke = ks.broke }
noted ks (Thrown DivideByZero) = record { returned = ks.returned; threw = ks.threw; overflow = ks.overflow; zerodiv = true; outside = ks.outside; broke = ks.broke }
noted ks (Thrown (Broken id)) = record { returned = ks.returned; threw = ks.threw; overflow = ks.overflow; zerodiv = ks.zerodiv; outside = ks.outside; broke = slice_set ks.broke id.0 true }
noted ks (Thrown Outside) = record { returned = ks.returned; threw = ks.threw; overflow = ks.overflow; zerodiv = ks.zerodiv; outside = true; broke = ks.broke }
noted ks Retries = ks
