-- One more source.
use Rattle.sequence_build_laws.specs.declared.Source.{Source}
use Rattle.sequence_build_laws.specs.Acts.{copy}
use Rattle.sequence_build.specs.Plain.{numbering}
use Rattle.sequence_build.proofs.Appending.{mapped}
use Rattle.sequence_build.proofs.site.Site.read_sources.Goals as goal

pub loop-source-preserved : goal.loop-source-preserved
loop-source-preserved c =
    mapped (λ (x : Source). numbering c.args.self.now (copy c.args.operator x)) c.args.sources.now c.loop-source.source-index
    (record { vertex = 0; port = 0 }) c.buffer.result c.loop-source.ins.items c.push.new.self.items _
    c.loop-source-test.true c.buffer.ensures c.in_ok-push.ensures.items c.loop-source.invariant
