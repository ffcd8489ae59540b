use Rattle.sequence_build_laws.specs.Acts.{acts}
use Rattle.self_timed.specs.Told.{end_at}
use Rattle.self_timed.proofs.Following.{SoFar}
use Rattle.self_timed.proofs.compute.dates_with.Given as goal

-- the reactions so far have their dates
abbrev pub invariant-loop-ticks : goal.invariant-loop-ticks
invariant-loop-ticks l = SoFar l.archi.depth l.flat.vertices (acts l.schedule) (end_at l.archi.depth l.flat l.schedule l.actual) l.plan.entries l.ticks-index l.reactions.items l.ends
