use Rattle.std.proofs.Common.{◌≡◌, ◌≤◌, max, length, arith, sym, ap, subst, ◌∙◌, List}
use Rattle.std.specs.Prelude.{IsTrue}
use Rattle.self_timed.specs.declared.Vertex.{Vertex}
use Rattle.self_timed.specs.FlatOrder.{is_acyclic}
use Rattle.self_timed.proofs.Settled.{acyclic_of}
use Rattle.self_timed.specs.declared.Medium.{Medium}
use Rattle.self_timed.specs.Table.{entry_in}
use Rattle.self_timed.proofs.Archis.{few_operators}
use Rattle.self_timed.proofs.Decided.{few_operations}
use Rattle.lower_bound.specs.Bound.{longest_carried}
use Rattle.lower_bound.specs.Turns.{AreShort}
use Rattle.lower_bound.proofs.Short.{are_short}
use Rattle.lower_bound.proofs.Whole.{below_all, bound_is}
use Rattle.lower_bound.proofs.bound.lower_bound.Goals as goal

pub longest_carried-requires : goal.longest_carried-requires
longest_carried-requires c =
    let flat = c.args.flat.now in
    let few = few_operations flat c.vertices.ensures.valid in
    let same = ap length c.vertices.ensures.same in
    record {
      few = omega arith;
      rows = c.requires.operations ∙ sym same;
      acyclic = subst (λ (vs : List Vertex). IsTrue (is_acyclic vs)) (sym c.vertices.ensures.same) (acyclic_of flat c.vertices.ensures.valid);
      short = subst (λ (ms : List Medium). AreShort ms c.vertices.result.now) (sym c.media.ensures.same)
          (subst (λ (vs : List Vertex). AreShort c.args.archi.now.media vs) (sym c.vertices.ensures.same)
          (are_short flat c.args.archi.now c.vertices.ensures.valid c.media.ensures.valid));
    }

pub shared_work-requires : goal.shared_work-requires
shared_work-requires c =
    let few = few_operations c.args.flat.now c.vertices.ensures.valid in
    let rows = c.requires.operations in
    let some = few_operators c.args.archi.now c.operators-operators.ensures.valid in
    let same = c.requires.operators in
    record { few = omega arith; operators = omega arith }

pub greatest_work-requires : goal.greatest_work-requires
greatest_work-requires c =
    let few = few_operations c.args.flat.now c.vertices.ensures.valid in
    let rows = c.requires.operations in
    omega arith

pub returns-clause-bound : goal.returns-clause-bound
returns-clause-bound c =
    let d = c.args.durations.now in
    let one = c.max.ensures in
    let two = c.max-2.ensures in
    bound_is c.args.flat.now c.args.archi.now d c.requires c.in_ok-chain.chain c.shared_work.result c.greatest_work.result c.max-2.result
    (c.in_ok-chain.ensures ∙ (λ i. longest_carried d.operators (entry_in d) (c.vertices.ensures.same i) (c.media.ensures.same i))) c.shared_work.ensures c.greatest_work.ensures (omega arith)

pub returns-clause-below : goal.returns-clause-below
returns-clause-below c =
    let d = c.args.durations.now in
    let one = c.max.ensures in
    let two = c.max-2.ensures in
    below_all c.args.flat.now c.args.archi.now d c.max-2.result
    (bound_is c.args.flat.now c.args.archi.now d c.requires c.in_ok-chain.chain c.shared_work.result c.greatest_work.result c.max-2.result
    (c.in_ok-chain.ensures ∙ (λ i. longest_carried d.operators (entry_in d) (c.vertices.ensures.same i) (c.media.ensures.same i))) c.shared_work.ensures c.greatest_work.ensures (omega arith))
