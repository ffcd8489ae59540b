use Rattle.std.proofs.Common.{◌≡◌, ℤ, List, length, drop}
use Rattle.graph_code.specs.Fired.{HavePut}
use Rattle.graph_code.proofs.fire.run_outputs.Given as goal

-- what the outputs that are left put is what all of them put
abbrev pub invariant-loop-output : goal.invariant-loop-output
invariant-loop-output l = record {
  len : length l.store ≡ length l.initial.store;
  put : (new : List ℤ) → HavePut (drop l.output-index l.outputs) l.store new → HavePut l.outputs l.initial.store new;
}
