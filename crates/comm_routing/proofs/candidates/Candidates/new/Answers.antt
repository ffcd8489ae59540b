-- The tables are as long as there are operations.
use Rattle.std.proofs.Common.{Bool, List, arith, ap, false, length, ◌∙◌}
use Rattle.std.proofs.lemmas.List.{length-replicate}
use Rattle.comm_routing.proofs.candidates.Candidates.new.Goals as goal

pub returns-clause-size : goal.returns-clause-size
returns-clause-size c = record {
  flags = ap (λ (l : List Bool). length l) c.in_ok-no_flags.ensures ∙ length-replicate (length c.args.vertices.now) false;
  list = let e = c.in_ok-vec.ensures.len in omega arith;
  count = omega arith;
  arrivals = let e = c.in_ok-vec-2.ensures.len in omega arith;
  dependents = let e = c.in_ok-all_dependents.ensures.size in omega arith;
}
