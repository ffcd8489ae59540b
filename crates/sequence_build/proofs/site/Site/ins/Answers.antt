use Rattle.std.proofs.Common.{ℕ, List, ◌++◌, map, ap, ◌∙◌}
use Rattle.sequence_build_laws.specs.declared.Guard.{Guard}
use Rattle.sequence_build_laws.specs.Acts.{copy}
use Rattle.sequence_build.specs.Plain.{numbering}
use Rattle.sequence_build.proofs.Reading.{read_numbers}
use Rattle.sequence_build.proofs.site.Site.ins.Goals as goal

pub returns : goal.returns
returns c =
    let d = c.args.decision.now in
    let number = numbering c.args.self.now in
    c.new.ensures ∙ read_numbers number c.args.self.now.vertices.now d c.guards_of.result.now c.ins_of.result.now
    c.read_guards.new.ins.items c.read_sources.new.ins.items c.guards_of.ensures c.ins_of.ensures
    (c.in_ok-read_guards.ensures ∙ ap (λ (l : List ℕ). l ++ map (λ (y : Guard). number (copy d.operator y.source)) c.guards_of.result.now) c.new-ins.ensures.items) c.in_ok-read_sources.ensures
