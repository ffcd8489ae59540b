use Rattle.std.proofs.Common.{◌≡◌, ◌-◌, drop}
use Rattle.flat_graph.specs.Fire.{guards_hold}
use Rattle.flat_graph.proofs.operation.are_holding.Given as goal

-- the guards that are left decide
abbrev pub invariant-loop-port : goal.invariant-loop-port
invariant-loop-port l = guards_hold (drop (l.port - l.first) l.guards) (drop l.port l.ins) ≡ guards_hold l.guards (drop l.first l.ins)
