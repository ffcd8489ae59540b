use Rattle.std.proofs.Common.{◌∷◌, [], ◌++◌, Option, ℕ, List, sym, ap₂, ◌∙◌, arith}
use Rattle.std.proofs.lemmas.List.FromFn.{map-range_with_len_more}
use Rattle.durations.specs.Table.{entry}
use Rattle.durations.proofs.rows.row.Goals as goal

pub loop-operator-preserved : goal.loop-operator-preserved
loop-operator-preserved c =
    c.in_ok-push.ensures.items ∙ ap₂ (λ (es : List (Option ℕ)) (e : Option ℕ). es ++ e ∷ []) c.loop-operator.invariant c.entry.ensures
    ∙ sym (map-range_with_len_more (entry c.args.given.now.lines c.args.vertex.now) 0 c.loop-operator.operator c.loop-operator.operator (omega arith))
