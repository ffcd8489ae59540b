use Rattle.std.proofs.Common.{◌∙◌}
use Rattle.word_table.proofs.weaving.cells_of.Goals as goal

pub returns-clause-cells : goal.returns-clause-cells
returns-clause-cells c = c.in_ok-items_of.ensures ∙ c.in_ok-cells.ensures.cells
