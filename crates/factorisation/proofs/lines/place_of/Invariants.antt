use Rattle.std.proofs.Common.{◌≡◌, ◌+◌, ◌≤◌, drop, length, map}
use Rattle.algo_tree.specs.Well.{fork_names}
use Rattle.flat_laws.specs.Lines.{fork_place}
use Rattle.factorisation.proofs.lines.place_of.Given as goal

abbrev pub invariant-loop-line : goal.invariant-loop-line
invariant-loop-line l = record {
  few : l.place + length (fork_names (map (λ f. f.now) (drop l.line-index l.lines))) ≤ 2048;
  so_far : l.place + fork_place l.name (map (λ f. f.now) (drop l.line-index l.lines)) ≡ fork_place l.name (map (λ f. f.now) l.lines);
}
