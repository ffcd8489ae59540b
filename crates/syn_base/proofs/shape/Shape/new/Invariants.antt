use Rattle.std.proofs.Common.{◌≡◌, ℕ, ◌<◌, length, get_or, take}
use Rattle.std.specs.List.{sum}
use Rattle.syn_base.proofs.shape.Shape.new.Given as goal

abbrev pub invariant-loop-len : goal.invariant-loop-len
invariant-loop-len l = record {
  width_is : l.width ≡ sum (take l.len-index l.lens);
  long : length l.starts.items ≡ l.len-index;
  starts_are : (v : ℕ) → v < l.len-index → get_or l.starts.items v 0 ≡ sum (take v l.lens);
}
