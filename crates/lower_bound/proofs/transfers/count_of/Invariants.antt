use Rattle.std.proofs.Common.{◌≡◌, ◌+◌, drop}
use Rattle.std.specs.List.{count_by}
use Rattle.lower_bound.specs.Transfers.{carries, is_sort}
use Rattle.lower_bound.proofs.transfers.count_of.Given as goal
use Rattle.self_timed.specs.Acts.{transfers_of}

-- the transfers so far, with those of the decisions that are left, are all
abbrev pub invariant-loop-decision : goal.invariant-loop-decision
invariant-loop-decision l = l.count + count_by (carries (is_sort l.sort) l.vertices) (transfers_of (drop l.decision-index l.decisions))
    ≡ count_by (carries (is_sort l.sort) l.vertices) (transfers_of l.decisions)
