-- One more without any.
use Rattle.std.proofs.Common.{◌≡◌, List, [], arith, refl, subst, sym, Vec, Global}
use Rattle.sequence_build.specs.declared.uses.Use.{Use}
use Rattle.sequence_build.specs.Uses.{uses_at}
use Rattle.sequence_build.specs.Plain.{elements}
use Rattle.sequence_build.proofs.Appending.{none_more}
use Rattle.sequence_build.proofs.uses.no_uses.Goals as goal

pub loop-preserved : goal.loop-preserved
loop-preserved c = record {
  many = let one = c.in_ok-push.ensures.len in let so_far = c.loop.invariant.many in omega arith;
  none = λ u. subst (λ (l : List (Vec Use Global)). uses_at l u ≡ []) (sym c.in_ok-push.ensures.items)
      (none_more (elements {A = Use}) refl c.loop.uses.items c.new.result c.new.ensures.items c.loop.invariant.none u);
}
