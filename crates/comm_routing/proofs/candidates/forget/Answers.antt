use Rattle.std.proofs.Common.{List, ℕ, ap, cond, length, ◌∙◌}
use Rattle.comm_routing.proofs.Ordered.{sought_below}
use Rattle.comm_routing.proofs.candidates.forget.Goals as goal

pub forget_each-requires : goal.forget_each-requires
forget_each-requires c = record {
  operations = sought_below c.args.keeps c.args.dependents.now c.sought-sought.result.now c.args.ready.now (length c.args.rows.now)
      c.requires.listed c.requires.operations (c.sought-sought.ensures ∙ ap (λ (l : List ℕ). cond c.args.keeps c.args.dependents.now l) c.as_slice.ensures);
}
