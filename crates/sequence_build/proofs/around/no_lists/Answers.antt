-- One more without any.
use Rattle.std.proofs.Common.{◌≡◌, ℕ, List, [], arith, refl, subst, sym, Vec, Global}
use Rattle.sequence_build.specs.Around.{list_at}
use Rattle.sequence_build.specs.Plain.{elements}
use Rattle.sequence_build.proofs.Appending.{none_more}
use Rattle.sequence_build.proofs.around.no_lists.Goals as goal

pub loop-preserved : goal.loop-preserved
loop-preserved c = record {
  many = let one = c.in_ok-push.ensures.len in let so_far = c.loop.invariant.many in omega arith;
  none = λ u. subst (λ (l : List (Vec ℕ Global)). list_at l u ≡ []) (sym c.in_ok-push.ensures.items)
      (none_more (elements {A = ℕ}) refl c.loop.lists.items c.new.result c.new.ensures.items c.loop.invariant.none u);
}
