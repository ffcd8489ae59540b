use Rattle.std.proofs.Common.{length, ap, arith, ◌≡◌, replicate}
use Rattle.std.proofs.lemmas.List.{length-replicate}
use Rattle.self_timed.specs.Running.{no_span}
use Rattle.self_timed.proofs.Freeing.{freed_length}
use Rattle.self_timed.proofs.reaction.next_reaction.Goals as goal

pub run-requires-clause-freed : goal.run-requires-clause-freed
run-requires-clause-freed c =
    let freed = ap length c.as_slice-2.ensures.value in
    let dates = ap length c.in_ok-freed.ensures in
    let long = freed_length c.args.plan.now c.args.depth c.args.past.now in
    let row = ap length c.as_mut_slice.ensures.value in
    let spans = ap length c.in_ok-row.ensures in
    let size : length (replicate c.args.plan.now.entries no_span) ≡ c.args.plan.now.entries = length-replicate c.args.plan.now.entries no_span in
    omega arith
