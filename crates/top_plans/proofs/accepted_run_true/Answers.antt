use Rattle.top_plans.proofs.True.{accepted_true}
use Rattle.top_plans.proofs.accepted_run_true.Goals as goal

pub returns : goal.returns
returns c = accepted_true c.runs_end.ensures c.runs_take_rows.ensures c.windows_make_the_run.ensures
