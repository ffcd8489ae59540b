use Rattle.std.proofs.Common.{◌≡◌, ◌++◌, drop, map}
use Rattle.svg_text.specs.Plot.{actuators_text}
use Rattle.svg_text.proofs.plot.append_actuators.Given as goal

-- what is there, with the panels that are left, is the whole
abbrev pub invariant-loop-number : goal.invariant-loop-number
invariant-loop-number l =
    l.out.items ++ actuators_text l.scale l.rows l.number (map (λ s. s.now) (drop l.number l.names))
    ≡ l.fn.out.items ++ actuators_text l.scale l.rows 0 (map (λ s. s.now) l.names)
