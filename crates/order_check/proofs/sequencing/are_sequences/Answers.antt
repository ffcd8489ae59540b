use Rattle.std.proofs.Common.{length, sym, ap, ◌∙◌}
use Rattle.std.specs.Prelude.{Some, None}
use Rattle.order_check.specs.Sequenced.{is_sequence}
use Rattle.program_walks.proofs.Passing.{range_passed}
use Rattle.order_check.proofs.sequencing.are_sequences.Goals as goal
use Rattle.executive_program.specs.Sequences.{sequences_of}
use Rattle.executive_program.specs.Sizes.{is_last}

pub returns-in-None : goal.returns-in-None
returns-in-None c =
    let codes = c.args.seqs.now in
    ap (is_last (length codes))
    (sym (range_passed (is_sequence codes) (sequences_of c.args.media.now) c.loop-operator.operator c.args.operators c.loop-operator.next None c.loop-operator-test.true (sym c.in-None.ensures))
    ∙ c.loop-operator.invariant)

pub loop-operator-preserved : goal.loop-operator-preserved
loop-operator-preserved c =
    let codes = c.args.seqs.now in
    sym (range_passed (is_sequence codes) (sequences_of c.args.media.now) c.loop-operator.operator c.args.operators c.loop-operator.next
    (Some c.in-Some.after) c.loop-operator-test.true (sym c.in-Some.ensures))
    ∙ c.loop-operator.invariant
