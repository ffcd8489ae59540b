use Rattle.std.proofs.Common.{◌≡◌, List, subst, ap, ◌∙◌}
use Rattle.std.specs.Prelude.{IfOk}
use Rattle.sequence_build.specs.declared.pairs.Pair.{Pair}
use Rattle.sequence_build.specs.Uses.{write_at}
use Rattle.sequence_build.proofs.Pairing.{below_is}
use Rattle.sequence_build.proofs.program.pairs_in.Goals as goal

pub returns : goal.returns
returns c = subst (λ (l : List Pair). IfOk c.pairs_of.result (λ pairs. pairs.items ≡ l))
    (below_is c.args.plain.now c.in_ok-uses.uses.items c.as_slice.result.now _ c.in_ok-uses.ensures.many c.in_ok-uses.ensures.each
    (λ b h. ap (λ l. write_at l b) c.as_slice.ensures.value ∙ c.in_ok-writes.ensures.each b h))
    c.pairs_of.ensures
