use Rattle.std.proofs.Common.{◌+◌, List, ℕ, map, ap, arith, ◌∙◌}
use Rattle.std.specs.Prelude.{slice_index}
use Rattle.reference_graph.proofs.SettledDepths.{greatest_below}
use Rattle.reference_graph.proofs.settling.depth_by.Goals as goal
use Rattle.syn_base.specs.Numbers.{greatest}

pub overflow_add-result : goal.overflow_add-result
overflow_add-result c =
    let ds = c.args.depths.now in
    let most = greatest_below (slice_index ds) 3999999999 c.references.result.now (λ b. omega (arith, c.requires.few b)) in
    record { fits = omega (arith, most, c.greatest_depth.ensures) }

pub returns : goal.returns
returns c =
    ap (λ (n : ℕ). n + 1) (c.greatest_depth.ensures ∙ ap (λ (refs : List ℕ). greatest (map (slice_index c.args.depths.now) refs)) c.references.ensures.are)
