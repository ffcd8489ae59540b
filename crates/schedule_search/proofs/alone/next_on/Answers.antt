use Rattle.std.proofs.Common.{ℕ, List, ap, sym, ◌∙◌}
use Rattle.std.specs.Prelude.{slice_get}
use Rattle.comm_routing.specs.Draft.{task_of}
use Rattle.comm_routing.specs.Placing.{may_place}
use Rattle.self_timed.specs.Acts.{acts_of}
use Rattle.schedule_search.proofs.Way.{none_returned, when_passes}
use Rattle.schedule_search.proofs.alone.next_on.Goals as goal

pub returns-in-Some-clause-may : goal.returns-in-Some-clause-may
returns-in-Some-clause-may c =
    when_passes (λ (v : ℕ). may_place (task_of c.args.draft.now) (acts_of c.args.draft.now.decisions) v c.args.operator) c.in-Some.op.now c.if_may_place.result c.if_may_place.ensures

pub returns-in-Some-clause-none : goal.returns-in-Some-clause-none
returns-in-Some-clause-none c =
    none_returned c.args.draft.now c.in-Some.op.now c.args.operator c.if_may_place.result c.requires
    (sym (ap (λ (l : List ℕ). slice_get l 0) c.ready.ensures) ∙ sym c.in-Some.ensures.value) c.if_may_place.ensures
