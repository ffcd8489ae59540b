use Rattle.std.proofs.lemmas.Option.{slice_get_past}
use Rattle.text_lint.proofs.Missing.{no_operator}
use Rattle.text_lint.proofs.durations.append_idle.Goals as goal

pub returns-else-operator-operators : goal.returns-else-operator-operators
returns-else-operator-operators c =
    no_operator _ _ _ _ _ (slice_get_past c.args.operators.now c.args.line.now.operator c.if-operator-operators.false)
