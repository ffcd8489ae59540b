use Rattle.std.proofs.Common.{◌≤◌, List, length, sym, subst}
use Rattle.syn_base.specs.Bytes.{Bytes}
use Rattle.self_timed.specs.declared.Medium.{Medium}
use Rattle.trace_events.proofs.Lanes.{few_operators, few_media}
use Rattle.trace_events.proofs.frame.append_lanes.Goals as goal

pub append_operator_lanes-requires : goal.append_operator_lanes-requires
append_operator_lanes-requires c =
    subst (λ (l : List Bytes). length l ≤ 16) (sym c.operators.ensures.same) (few_operators c.args.archi.now c.operators.ensures.valid)

pub append_medium_lanes-requires : goal.append_medium_lanes-requires
append_medium_lanes-requires c =
    subst (λ (l : List Medium). length l ≤ 16) (sym c.media.ensures.same) (few_media c.args.archi.now c.media.ensures.valid)
