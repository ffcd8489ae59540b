use Rattle.std.proofs.Common.{length}
use Rattle.word_rule.specs.Driven.{Driven, driven_by}
use Rattle.top_plans.specs.Sink.{Sunk}
use Rattle.top_plans.specs.Ending.{Ending}
use Rattle.top_plans.specs.Run.{Performs}
use Rattle.top_plans.specs.Status.{Refusal}
use Rattle.syndex_program.specs.Left.{stages_left}
use Rattle.syndex_program.proofs.lines.write_lines.Given as goal

-- whatever follows from here is what follows from the start
abbrev pub invariant-windows : goal.invariant-windows
invariant-windows g l = (sunk' : Sunk) (d' : Driven) (ending : Ending Refusal)
    → Performs {R = Refusal} driven_by (stages_left l.lines.tree.now l.lines.windows) (g.K.Sink.sunk l.out) sunk' l.driven d' ending
    → Performs {R = Refusal} driven_by (stages_left l.fn.lines.tree.now l.fn.lines.windows) (g.K.Sink.sunk l.fn.out) sunk' l.fn.driven d' ending

abbrev pub decreases-windows : goal.decreases-windows
decreases-windows g l = length (stages_left l.lines.tree.now l.lines.windows)
