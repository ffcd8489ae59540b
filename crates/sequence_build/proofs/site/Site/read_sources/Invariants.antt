use Rattle.std.proofs.Common.{◌≡◌, ◌++◌, drop, map}
use Rattle.sequence_build_laws.specs.Acts.{copy}
use Rattle.sequence_build.specs.Plain.{numbering}
use Rattle.sequence_build.proofs.site.Site.read_sources.Given as goal

-- what is left makes the whole
abbrev pub invariant-loop-source : goal.invariant-loop-source
invariant-loop-source l = l.ins.items ++ map (λ x. numbering l.self (copy l.operator x)) (drop l.source-index l.sources) ≡ l.fn.ins.items ++ map (λ x. numbering l.self (copy l.operator x)) l.sources
