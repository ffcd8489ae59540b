use Rattle.std.proofs.Common.{◌≡◌, drop}
use Rattle.flat_graph.specs.Fire.{guards_hold}
use Rattle.graph_code.specs.Fired.{rows_of}
use Rattle.graph_code.proofs.fire.are_holding.Given as goal

-- the guards that are left decide
abbrev pub invariant-loop-place : goal.invariant-loop-place
invariant-loop-place l = guards_hold (drop l.place l.guards) (rows_of l.store (drop l.place l.conditions)) ≡ guards_hold l.guards (rows_of l.store l.conditions)
