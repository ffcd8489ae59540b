use Rattle.std.proofs.Common.{◌≡◌, ℕ, true, false, length, nat_eq, take}
use Rattle.std.specs.List.{list_any}
use Rattle.comm_routing.specs.Candidates.{IsListed, flag_in, is_candidate_in}
use Rattle.comm_routing.proofs.candidates.Ready.mark_each.Given as goal

-- those before had their turn
abbrev pub invariant-loop-op : goal.invariant-loop-op
invariant-loop-op l = record {
  listed : IsListed (length l.vertices) l.self;
  marked : (v : ℕ) → list_any (nat_eq v) (take l.op-index l.ops) ≡ true → flag_in l.self v ≡ is_candidate_in l.vertices l.board v;
  others : (v : ℕ) → list_any (nat_eq v) (take l.op-index l.ops) ≡ false → flag_in l.self v ≡ flag_in l.fn.self v;
}
