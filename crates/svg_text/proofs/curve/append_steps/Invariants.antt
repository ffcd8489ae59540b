use Rattle.std.proofs.Common.{◌≡◌, ◌++◌, drop}
use Rattle.svg_text.specs.Plot.{steps_text}
use Rattle.svg_text.proofs.curve.append_steps.Given as goal

-- what is there, with the steps that are left, is the whole
abbrev pub invariant-loop-k : goal.invariant-loop-k
invariant-loop-k l =
    l.out.items ++ steps_text l.panel.scale l.panel.range l.panel.number l.place l.k (drop l.k l.panel.rows.now.reactions)
    ≡ l.fn.out.items ++ steps_text l.panel.scale l.panel.range l.panel.number l.place 0 l.panel.rows.now.reactions
