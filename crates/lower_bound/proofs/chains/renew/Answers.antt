use Rattle.std.proofs.Common.{ℕ, ap, min, ◌∙◌}
use Rattle.std.specs.Prelude.{slice_set}
use Rattle.lower_bound.specs.Turns.{most_date}
use Rattle.lower_bound.proofs.chains.renew.Goals as goal

pub returns-clause-renewed : goal.returns-clause-renewed
returns-clause-renewed c = ap (λ (n : ℕ). slice_set c.args.ends.now c.args.op n) (c.min-end.ensures ∙ ap (λ (n : ℕ). min n most_date) c.first_end.ensures)
