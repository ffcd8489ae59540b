-- The tree that the definitions of a text mean, or their first refusal.
use Rattle.std.specs.Prelude.{List, Result, Ok, Err}
use Rattle.syn_base.specs.declared.limits.LimitFault.{LimitFault}
use Rattle.text_lines.specs.declared.fault.TextError.TheVariants as error
use Rattle.text_lines.specs.Refusals.{Limit}
use Rattle.algo_laws.specs.Refusals.{AlgoError, AlgoRefusal}
use Rattle.algo_laws.specs.Tree.{Vertex}
use Rattle.algo_laws.specs.declared.Def.{Def}
use Rattle.algo_laws.specs.declared.Defs.{Defs}
use Rattle.algo_laws.specs.Resolved.{resolution_of}
use Rattle.wiring_laws.specs.Pruned.{pruned}
use Rattle.multi_period.specs.declared.fault.PeriodError.{PeriodError}
use Rattle.multi_period.specs.declared.fault.PeriodError.TheVariants as period
use Rattle.multi_period.specs.declared.mark.Mark.{Mark}
use Rattle.multi_period.specs.Within.{made_within}
use Rattle.elaboration.specs.Marking.{marking_of}

-- The tree with its marks made, or its limit as a refusal of the text.
abbrev pub made_by : Result Vertex LimitFault → Result Vertex AlgoRefusal
made_by (Ok made) = Ok made
made_by (Err fault) = Err (Limit fault)

-- The error that an error of the pass is.
abbrev pub of_periods : PeriodError → AlgoError
of_periods (period.Limit fault) = error.Limit fault
of_periods period.OutOfMemory = error.OutOfMemory

-- The tree with these marks made, or a refusal: that of the marks, if they are refused, or else the
-- limit of the tree that is made.
abbrev pub marked_by : Vertex → Result (List Mark) AlgoRefusal → Result Vertex AlgoRefusal
marked_by main (Ok marks) = made_by (made_within marks main)
marked_by main (Err e) = Err e

-- The pruned tree to which these definitions resolve with its marks made, or the first refusal.
abbrev pub resolved_by : List Def → Result Vertex AlgoRefusal → Result Vertex AlgoRefusal
resolved_by ds (Ok main) = marked_by (pruned main) (marking_of ds)
resolved_by ds (Err e) = Err e

-- Definitions resolve to a tree; a unit of it that stands for no operation passes on its inputs, with nothing inside;
-- then each mark has to stand where one may; and then the marked references become graphs, within the bound on
-- operations.
abbrev pub elaboration_of : Defs → Result Vertex AlgoRefusal
elaboration_of defs = resolved_by defs.defs (resolution_of defs.defs)
