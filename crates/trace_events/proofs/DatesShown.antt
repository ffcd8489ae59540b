-- The slices of a trace of dates are the dated acts.
use Rattle.trace_events.specs.DatesTrace.{moment_of}
use Rattle.trace_events.specs.DatesShown.{EachDateOnce}
use Rattle.trace_events.proofs.Slices.{acts_slices}

pub each_date_once : EachDateOnce
each_date_once g a s xs = acts_slices g.vertices a.operators s.decisions moment_of (λ d. d.act) xs
