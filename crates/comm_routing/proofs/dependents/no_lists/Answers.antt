-- One more empty list.
use Rattle.std.proofs.Common.{◌≡◌, ℕ, List, [], arith, subst, sym}
use Rattle.std.specs.Global.{Vec}
use Rattle.comm_routing.specs.Dependents.{list_at}
use Rattle.comm_routing.proofs.Depending.{none_more}
use Rattle.comm_routing.proofs.dependents.no_lists.Goals as goal

pub loop-preserved : goal.loop-preserved
loop-preserved c = record {
  size = let one = c.in_ok-push.ensures.len in let so_far = c.loop.invariant.size in omega arith;
  none = λ u. subst (λ (l : List (Vec ℕ)). list_at l u ≡ []) (sym c.in_ok-push.ensures.items) (none_more c.loop.lists.items c.new.result c.new.ensures.items c.loop.invariant.none u);
}

pub returns-clause-none : goal.returns-clause-none
returns-clause-none c = c.loop.invariant.none
