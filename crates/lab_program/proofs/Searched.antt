-- What a search finds may be found.
use Rattle.std.proofs.Common.{◌≡◌, Result, Ok, Err}
use Rattle.std.specs.Prelude.{◌≢◌, IfOk, IsTrue}
use Rattle.syn_base.specs.declared.memory.OutOfMemory.{OutOfMemory}
use Rattle.self_timed.specs.Table.{entry_in}
use Rattle.self_timed.specs.declared.Schedule.{Schedule}
use Rattle.self_timed.specs.ScheduleValid.{is_valid}
use Rattle.schedule_search.specs.Found.{IsNoLongerThanAlone, IsNoLongerThanRun, IsNoSlowerThanAlone, IsNoSlowerThanRun}
use Rattle.top_plans.specs.Adequation.{IsPressureRun}
use Rattle.lab_words.specs.Command.{for_length, for_period}
use Rattle.lab_plans.specs.Asked.{IsFound, Request}

-- where each clause holds by the goal and the tries, the record does
pub all_found : (p : Request) (r : Result Schedule OutOfMemory)
    → IfOk r (λ s. IsTrue (is_valid p.graph p.archi (entry_in p.table) s))
    → (p.effort.goal ≡ for_length → IfOk r (IsNoLongerThanRun p.graph p.archi p.table))
    → (p.effort.goal ≡ for_period → IfOk r (IsNoSlowerThanRun p.graph p.archi p.table))
    → (p.effort.goal ≡ for_length → p.effort.tries ≢ 0 → IfOk r (IsNoLongerThanAlone p.graph p.archi (entry_in p.table)))
    → (p.effort.goal ≡ for_period → p.effort.tries ≢ 0 → IfOk r (IsNoSlowerThanAlone p.graph p.archi (entry_in p.table)))
    → (p.effort.tries ≡ 0 → IfOk r (IsPressureRun p.graph p.archi p.table)) → IfOk r (IsFound p)
all_found p (Ok s) v a b c d e = record { valid = v; shorter = a; faster = b; alone = c; faster_alone = d; none = e }
all_found p (Err e) v a b c d f = tt
