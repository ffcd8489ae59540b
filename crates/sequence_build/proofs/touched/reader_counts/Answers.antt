use Rattle.std.proofs.Common.{arith}
use Rattle.std.specs.List.{flat_map}
use Rattle.sequence_build_laws.specs.Acts.{acts_of}
use Rattle.sequence_build.specs.Plain.{steps_at}
use Rattle.sequence_build.proofs.Touching.{counts_are}
use Rattle.sequence_build.proofs.touched.reader_counts.Goals as goal

pub returns : goal.returns
returns c =
    let past = c.loop-buffer-test.false in
    let within = c.loop-buffer.auto.buffer-end in
    let many = c.loop-buffer.invariant.many in
    counts_are c.args.width c.args.site.now.copies (flat_map (steps_at c.args.site.now) (acts_of c.args.decisions.now)) c.in_ok-touched.touched c.loop-buffer.counts.items c.in_ok-touched.ensures
    (omega arith) (λ b l. c.loop-buffer.invariant.each b (omega arith))
