use Rattle.std.proofs.Common.{◌≡◌, ℕ, true, false, length, nat_eq, take}
use Rattle.std.specs.List.{list_any}
use Rattle.comm_routing.specs.Candidates.{AreUnknown, row_at}
use Rattle.comm_routing.proofs.candidates.forget_each.Given as goal

-- those before had their turn
abbrev pub invariant-loop-op : goal.invariant-loop-op
invariant-loop-op l = record {
  size : length l.rows ≡ length l.fn.rows;
  forgotten : (v : ℕ) → list_any (nat_eq v) (take l.op-index l.ops) ≡ true → AreUnknown (row_at l.rows v);
  kept : (v : ℕ) → list_any (nat_eq v) (take l.op-index l.ops) ≡ false → row_at l.rows v ≡ row_at l.fn.rows v;
}
