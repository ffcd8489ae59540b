use Rattle.std.proofs.Common.{Some, sym, ap, arith, ◌∙◌}
use Rattle.std.proofs.lemmas.Option.{slice_get-get_or}
use Rattle.sequence_build.proofs.Reading.{pushed}
use Rattle.sequence_build.proofs.site.push_at.Goals as goal

pub returns-in_ok-push_instr-clause-adds : goal.returns-in_ok-push_instr-clause-adds
returns-in_ok-push_instr-clause-adds c s h =
    pushed c.args.loops.now.items c.args.at c.index_mut.result.now c.push_instr.new.instrs c.args.instr
    (slice_get-get_or c.args.loops.now.items c.args.at c.index_mut.result.now (omega (arith, c.if-at-len.true, c.len.ensures))
    ∙ ap (λ v. Some v) (sym c.index_mut.ensures.value)) c.in_ok-push_instr.ensures s
