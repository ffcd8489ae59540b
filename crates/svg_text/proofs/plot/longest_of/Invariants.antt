use Rattle.std.proofs.Common.{◌≡◌, drop, map}
use Rattle.std.specs.Prelude.{max}
use Rattle.svg_text.specs.Axis.{longest}
use Rattle.svg_text.proofs.plot.longest_of.Given as goal

-- the longest so far, or of those that are left
abbrev pub invariant-loop-name : goal.invariant-loop-name
invariant-loop-name l = max l.longest (longest (map (λ s. s.now) (drop l.name-index l.names))) ≡ longest (map (λ s. s.now) l.names)
