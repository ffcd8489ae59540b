-- One more guard.
use Rattle.std.proofs.Common.{ap, ◌∙◌}
use Rattle.sequence_build_laws.specs.declared.Guard.{Guard}
use Rattle.sequence_build_laws.specs.Acts.{copy}
use Rattle.sequence_build.specs.Plain.{numbering}
use Rattle.sequence_build.proofs.Appending.{mapped}
use Rattle.sequence_build.proofs.site.Site.read_guards.Goals as goal

pub loop-guard-preserved : goal.loop-guard-preserved
loop-guard-preserved c =
    mapped (λ (d : Guard). numbering c.args.self.now
    (copy c.args.operator d.source)) c.args.guards.now c.loop-guard.guard-index c.guard-item.result c.buffer.result
    c.loop-guard.ins.items c.push.new.self.items _ c.loop-guard-test.true
    (c.buffer.ensures ∙ ap (λ (d : Guard). numbering c.args.self.now (copy c.args.operator d.source)) c.guard-item.is) c.in_ok-push.ensures.items c.loop-guard.invariant
