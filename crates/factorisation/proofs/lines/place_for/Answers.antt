use Rattle.std.proofs.Common.{arith, ◌∙◌}
use Rattle.factorisation.proofs.Placing.{one_later, stops_here}
use Rattle.factorisation.proofs.lines.place_for.Goals as goal

pub loop-place-preserved : goal.loop-place-preserved
loop-place-preserved c = record {
  within = omega arith;
  so_far = one_later c.args.lines.now (λ f. f.now) c.args.line.now c.loop-place.place c.index-lines-place.result c.index-lines-place.is (omega arith) (omega arith) ∙ c.loop-place.invariant.so_far;
}

pub returns-else-outer_of-clause-put : goal.returns-else-outer_of-clause-put
returns-else-outer_of-clause-put c =
    stops_here c.args.lines.now (λ f. f.now) c.args.line.now c.loop-place.place c.index-lines-place.result c.index-lines-place.is (omega arith) (omega arith) ∙ c.loop-place.invariant.so_far
