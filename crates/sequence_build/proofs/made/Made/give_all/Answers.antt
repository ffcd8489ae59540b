use Rattle.std.proofs.Common.{ℕ, ◌+◌, List, [], ◌∷◌, map, drop, subst}
use Rattle.sequence_build_laws.specs.declared.Source.{Source}
use Rattle.sequence_build_laws.specs.Acts.{copy, outputs_from}
use Rattle.sequence_build.specs.Made.{Makes}
use Rattle.sequence_build.proofs.Adding.{makes_next, MakesUp}
use Rattle.sequence_build.proofs.Reading.{outputs_next}
use Rattle.sequence_build.proofs.made.Made.give_all.Goals as goal

pub loop-port-preserved : goal.loop-port-preserved
loop-port-preserved c =
    let d = c.args.decision.now in
    let i = c.loop-port.port in
    let outs = c.args.outs.now in
    makes_next {xs = copy d.operator (record { vertex = d.op; port = i }) ∷ []} {ys = map (copy d.operator) (outputs_from d.op (i + 1) (drop (i + 1) outs))}
    (subst (λ (l : List Source). MakesUp c.args.vertices.now c.args.self.now c.loop-port.self (map (copy d.operator) l) (map (copy d.operator) (outputs_from d.op 0 outs)))
    (outputs_next d.op i outs c.loop-port-test.true) c.loop-port.invariant)
    (subst (λ (n : ℕ). Makes c.args.vertices.now c.loop-port.self c.make.new.self (copy d.operator (record { vertex = d.op; port = n }) ∷ [])) c.in_ok-to_u32.ensures.same c.in_ok-make.ensures)
