use Rattle.std.proofs.Common.{◌≡◌, ℕ, ◌+◌, ◌++◌, List, [], ◌∷◌, map, drop, subst, ap, ◌∙◌}
use Rattle.sequence_build_laws.specs.declared.Source.{Source}
use Rattle.sequence_build_laws.specs.Acts.{copy, outputs_from}
use Rattle.sequence_build.specs.Plain.{numbering}
use Rattle.sequence_build.proofs.Reading.{outputs_next, one_more}
use Rattle.sequence_build.proofs.site.Site.give_all.Goals as goal

pub loop-port-preserved : goal.loop-port-preserved
loop-port-preserved c =
    let d = c.args.decision.now in
    let i = c.loop-port.port in
    let lens = c.args.lens.now in
    let here = ap (λ (n : ℕ). numbering c.args.self.now (copy d.operator (record { vertex = d.op; port = n }))) c.in_ok-to_u32.ensures.same in
    one_more c.loop-port.outs.items c.push.new.self.items (map (numbering c.args.self.now) (map (copy d.operator) (outputs_from d.op (i + 1) (drop (i + 1) lens)))) _
    (numbering c.args.self.now (copy d.operator (record { vertex = d.op; port = i })))
    (c.in_ok-push.ensures.items ∙ ap (λ (n : ℕ). c.loop-port.outs.items ++ n ∷ []) (c.buffer.ensures ∙ here))
    (subst (λ (l : List Source). c.loop-port.outs.items ++ map (numbering c.args.self.now) (map (copy d.operator) l)
    ≡ c.args.outs.now.items ++ map (numbering c.args.self.now) (map (copy d.operator) (outputs_from d.op 0 lens)))
    (outputs_next d.op i lens c.loop-port-test.true) c.loop-port.invariant)
