-- One more without any.
use Rattle.std.proofs.Common.{◌≡◌, List, [], arith, refl, subst, sym, Vec, Global}
use Rattle.sequence_build_laws.specs.declared.Instr.{Instr}
use Rattle.sequence_build.specs.Plain.{loop_at, elements}
use Rattle.sequence_build.proofs.Appending.{none_more}
use Rattle.sequence_build.proofs.site.empty_loops.Goals as goal

pub loop-preserved : goal.loop-preserved
loop-preserved c = record {
  many = let one = c.in_ok-push.ensures.len in let so_far = c.loop.invariant.many in omega arith;
  none = λ u. subst (λ (l : List (Vec Instr Global)). loop_at l u ≡ []) (sym c.in_ok-push.ensures.items)
      (none_more (elements {A = Instr}) refl c.loop.loops.items c.new.result c.new.ensures.items c.loop.invariant.none u);
}
