use Rattle.std.proofs.Common.{◌≡◌, length, ap, sym, subst, ◌∙◌, List, arith}
use Rattle.std.specs.Prelude.{IsTrue}
use Rattle.self_timed.specs.declared.Vertex.{Vertex}
use Rattle.self_timed.specs.FlatOrder.{is_acyclic}
use Rattle.self_timed.proofs.Settled.{acyclic_of}
use Rattle.self_timed.proofs.Decided.{few_operations}
use Rattle.lower_bound.proofs.links.chain_of.Goals as goal

pub links_back-requires : goal.links_back-requires
links_back-requires c =
    let flat = c.args.flat.now in
    let few = few_operations flat c.vertices.ensures.valid in
    let same = ap length c.vertices.ensures.same in
    record {
      few = omega arith;
      rows = c.requires ∙ sym same;
      acyclic = subst (λ (vs : List Vertex). IsTrue (is_acyclic vs)) (sym c.vertices.ensures.same) (acyclic_of flat c.vertices.ensures.valid);
    }
