use Rattle.std.proofs.Common.{ℕ, sym, subst}
use Rattle.self_timed.specs.Told.{HaveDepth}
use Rattle.self_timed.proofs.Dated.{places_of_program}
use Rattle.self_timed.proofs.compute.dates_of.Goals as goal

pub dates_with-requires-clause-depth : goal.dates_with-requires-clause-depth
dates_with-requires-clause-depth c =
    subst (λ (n : ℕ). HaveDepth c.args.flat.now c.args.archi.now c.args.schedule.now n) (sym c.depth_of.ensures)
    (places_of_program c.args.flat.now c.args.archi.now c.args.schedule.now c.args.program.now c.operators-operators.ensures.valid c.depth-depth.ensures.valid c.requires.valid c.requires.program)
