use Rattle.std.proofs.Common.{◌≡◌, ◌++◌, drop, map}
use Rattle.wiring_laws.specs.Pruned.{own_of}
use Rattle.algo_resolve.proofs.passing.own_inputs_of.Given as goal

abbrev pub invariant-loop-lead : goal.invariant-loop-lead
invariant-loop-lead l = l.outs.items ++ map own_of (drop l.lead-index l.leads) ≡ map own_of l.leads
