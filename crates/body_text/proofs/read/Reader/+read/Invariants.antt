use Rattle.std.proofs.Common.{◌+◌, ◌*◌}
use Rattle.body_text.proofs.read.Reader.+read.Given as goal

abbrev pub decreases-expression : goal.decreases-expression
decreases-expression l = 5 * l.depth

abbrev pub decreases-ended : goal.decreases-ended
decreases-ended l = 5 * l.depth + 1

abbrev pub decreases-apply : goal.decreases-apply
decreases-apply l = 5 * l.depth + 2

abbrev pub decreases-element : goal.decreases-element
decreases-element l = 5 * l.depth + 2

abbrev pub decreases-negation : goal.decreases-negation
decreases-negation l = 5 * l.depth + 2

abbrev pub decreases-select : goal.decreases-select
decreases-select l = 5 * l.depth + 2

abbrev pub decreases-form : goal.decreases-form
decreases-form l = 5 * l.depth + 3

abbrev pub decreases-named : goal.decreases-named
decreases-named l = 5 * l.depth + 4
