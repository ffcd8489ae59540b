use Rattle.std.proofs.Common.{◌≡◌, List, Option, Some, ℕ, subst}
use Rattle.std.specs.Prelude.{slice_set}
use Rattle.comm_routing.specs.Candidates.{kept_in}
use Rattle.comm_routing.proofs.Kept.{one_more}
use Rattle.comm_routing.proofs.candidates.put.Goals as goal

pub returns-clause-kept : goal.returns-clause-kept
returns-clause-kept c = λ w q n e.
    one_more c.args.rows.now c.args.op c.args.operator c.args.date w q n
    (subst (λ (r : List (Option ℕ)). kept_in (slice_set c.args.rows.now c.args.op r) w q ≡ Some n) c.with_arrival-row.ensures e)
