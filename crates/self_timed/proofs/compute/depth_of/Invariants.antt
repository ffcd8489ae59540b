use Rattle.std.proofs.Common.{◌≡◌, ◌≤◌, drop, max}
use Rattle.self_timed.specs.Depths.{deepest}
use Rattle.self_timed.proofs.compute.depth_of.Given as goal

-- what is left of the buffers completes the greatest depth
abbrev pub invariant-loop-buffer : goal.invariant-loop-buffer
invariant-loop-buffer l = record {
  least : 1 ≤ l.depth;
  left : max l.depth (deepest (drop l.buffer-index l.buffer-items)) ≡ deepest l.buffer-items;
}
