use Rattle.std.proofs.Common.{◌≡◌, ◌-◌, ◌≤◌, ◌++◌, drop, length, map, take}
use Rattle.flat_laws.specs.Lines.{put_line}
use Rattle.factorisation.proofs.lines.place_for.Given as goal

abbrev pub invariant-loop-place : goal.invariant-loop-place
invariant-loop-place l = record {
  within : l.place ≤ length l.lines;
  so_far : take l.place (map (λ f. f.now) l.lines) ++ put_line l.line (drop l.place (map (λ f. f.now) l.lines)) ≡ put_line l.line (map (λ f. f.now) l.lines);
}

abbrev pub decreases-loop-place : goal.decreases-loop-place
decreases-loop-place l = length l.lines - l.place
