-- The laws of the check.
use Rattle.std.proofs.Common.{length}
use Rattle.sequence_build_laws.specs.Sequences.{sequences}
use Rattle.check_laws.specs.Laws.{RunIsOrder, OrderIsFound, WellFormedHasItems, CauseIsExact, NoCauseIsWellFormed, RunsAreOrders, RunsStopAlike}
use Rattle.check_laws.specs.Run.{run}
use Rattle.check_laws.proofs.Running.{is_run, none_stuck, follows_loops, keeps_awaited, stop_alike}
use Rattle.check_laws.proofs.Orders.{keeps, is_order}
use Rattle.check_laws.proofs.Items.{has_items}
use Rattle.check_laws.proofs.Causes.{exact, nothing_wrong, none_told}

pub runs_are_orders : RunsAreOrders
runs_are_orders p g seqs operators media order items r ends = is_order p g seqs media order operators items (follows_loops p order r ends) (keeps_awaited p order r ends)

pub run_is_order : RunIsOrder
run_is_order p g seqs operators media items ends = runs_are_orders p g seqs operators media (run p) items (is_run p) ends

pub order_is_found : OrderIsFound
order_is_found p g seqs media w = none_stuck p w.0 w.1.follows (keeps p g seqs media w.0 w.1)

pub well_formed_has_items : WellFormedHasItems
well_formed_has_items p g a valid w = has_items p g a w.0 w.1

pub cause_is_exact : CauseIsExact
cause_is_exact p g seqs operators media c e = exact p g seqs operators media c e

pub no_cause_is_well_formed : NoCauseIsWellFormed
no_cause_is_well_formed p g a valid = (
  λ e. let r = nothing_wrong p g (sequences a) (length a.operators) (length a.media) e in (run p, run_is_order p g (sequences a) (length a.operators) (length a.media) r.0 r.1),
  λ w. none_told p g (sequences a) (length a.operators) (length a.media) (well_formed_has_items p g a valid w) (order_is_found p g (sequences a) (length a.media) w),
)

pub runs_stop_alike : RunsStopAlike
runs_stop_alike p order r e = stop_alike p order r e
