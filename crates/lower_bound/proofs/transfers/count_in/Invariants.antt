use Rattle.std.proofs.Common.{◌≡◌, ◌+◌, drop}
use Rattle.std.specs.List.{count_by}
use Rattle.lower_bound.specs.Transfers.{carries, is_sort}
use Rattle.lower_bound.proofs.transfers.count_in.Given as goal

-- the transfers so far, with those that are left, are all
abbrev pub invariant-loop-transfer : goal.invariant-loop-transfer
invariant-loop-transfer l = l.count + count_by (carries (is_sort l.sort) l.vertices) (drop l.transfer-index l.transfers) ≡ count_by (carries (is_sort l.sort) l.vertices) l.transfers
