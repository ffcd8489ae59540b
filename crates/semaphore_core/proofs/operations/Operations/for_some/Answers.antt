-- The parts are those of the opening, with rows for some operations.
use Rattle.std.proofs.Common.{◌≡◌, ◌∙◌, sym, ap, subst, map, length, replicate, List, get_or, false}
use Rattle.std.specs.Prelude.{IsTrue}
use Rattle.std.proofs.lemmas.List.{length-replicate}
use Rattle.syn_base.specs.Rows.{Reactions}
use Rattle.std.specs.Option.{option_map}
use Rattle.executive_program.specs.Graph.{Graph}
use Rattle.executive_program.specs.FlatValid.{is_flat}
use Rattle.operation_desks.specs.Desk.{lens_of_desk, AreDesks}
use Rattle.semaphore_core.specs.Job.{reactions}
use Rattle.operation_desks.specs.RowLens.{lens_for}
use Rattle.semaphore_core.proofs.Jobs.{opening_ready}
use Rattle.semaphore_core.proofs.Some.{rows_for}
use Rattle.semaphore_core.proofs.operations.Operations.for_some.Goals as goal
use Rattle.syn_base.specs.Vectors.{Values, zeros}

pub returns-clause-lens : goal.returns-clause-lens
returns-clause-lens c =
    let lens : c.in_ok-zero_rows.field-0.lens
    ≡ lens_for c.args.job.now.graph (λ v. get_or c.args.mine.now v false) 0 c.args.job.now.graph.vertices =
    ap (λ (r : Reactions). r.lens) c.in_ok-zero_rows.ensures ∙ c.as_slice.ensures ∙ c.in_ok-lens.ensures
    ∙ ap (λ (g : Graph). lens_for g (λ v. get_or c.args.mine.now v false) 0 g.vertices) c.flat.ensures in
    lens

pub returns-clause-rows : goal.returns-clause-rows
returns-clause-rows c =
    let rows : c.in_ok-zero_rows.field-0.reactions
    ≡ replicate (length c.args.job.now.sensors) (map zeros c.in_ok-zero_rows.field-0.lens) =
    ap (λ (r : Reactions). r.reactions) c.in_ok-zero_rows.ensures
    ∙ (λ i. replicate (c.reactions.ensures i) (map zeros (sym (ap (λ (r : Reactions). r.lens) c.in_ok-zero_rows.ensures) i))) in
    rows

pub returns-clause-ready : goal.returns-clause-ready
returns-clause-ready c =
    let rows : c.in_ok-zero_rows.field-0.reactions
    ≡ replicate (length c.args.job.now.sensors) (map zeros c.in_ok-zero_rows.field-0.lens) =
    ap (λ (r : Reactions). r.reactions) c.in_ok-zero_rows.ensures
    ∙ (λ i. replicate (c.reactions.ensures i) (map zeros (sym (ap (λ (r : Reactions). r.lens) c.in_ok-zero_rows.ensures) i))) in
    let valid : IsTrue (is_flat c.args.job.now.graph) = subst (λ (g : Graph). IsTrue (is_flat g)) c.flat-2.ensures c.in_ok-desks_for.ensures.valid in
    let desks : AreDesks c.args.job.now.graph (λ v. get_or c.args.mine.now v false) (length c.args.job.now.graph.vertices)
    (map (option_map lens_of_desk) c.in_ok-desks_for.field-0.items) =
    subst (λ (g : Graph). AreDesks g (λ v. get_or c.args.mine.now v false) (length g.vertices)
    (map (option_map lens_of_desk) c.in_ok-desks_for.field-0.items)) c.flat-2.ensures c.in_ok-desks_for.ensures.desks in
    opening_ready c.args.job.now c.opening.ensures.job
    (record {
      cells = map (λ v. v.items) c.in_ok-copy_of.field-0.items;
      rows = c.in_ok-zero_rows.field-0.reactions;
      lens =
          c.in_ok-zero_rows.field-0.lens;
      desks = map (option_map lens_of_desk) c.in_ok-desks_for.field-0.items;
    })
    valid (c.in_ok-copy_of.ensures ∙ c.opening.ensures.same)
    (ap (λ (l : List Values). length l) rows ∙ length-replicate (reactions c.args.job.now) (map zeros c.in_ok-zero_rows.field-0.lens))
    desks.there

pub returns-clause-laid_out : goal.returns-clause-laid_out
returns-clause-laid_out c =
    let lens : c.in_ok-zero_rows.field-0.lens
    ≡ lens_for c.args.job.now.graph (λ v. get_or c.args.mine.now v false) 0 c.args.job.now.graph.vertices =
    ap (λ (r : Reactions). r.lens) c.in_ok-zero_rows.ensures ∙ c.as_slice.ensures ∙ c.in_ok-lens.ensures
    ∙ ap (λ (g : Graph). lens_for g (λ v. get_or c.args.mine.now v false) 0 g.vertices) c.flat.ensures in
    let valid : IsTrue (is_flat c.args.job.now.graph) = subst (λ (g : Graph). IsTrue (is_flat g)) c.flat-2.ensures c.in_ok-desks_for.ensures.valid in
    let desks : AreDesks c.args.job.now.graph (λ v. get_or c.args.mine.now v false) (length c.args.job.now.graph.vertices)
    (map (option_map lens_of_desk) c.in_ok-desks_for.field-0.items) =
    subst (λ (g : Graph). AreDesks g (λ v. get_or c.args.mine.now v false) (length g.vertices)
    (map (option_map lens_of_desk) c.in_ok-desks_for.field-0.items)) c.flat-2.ensures c.in_ok-desks_for.ensures.desks in
    λ v m. record {
      row = rows_for c.args.job.now valid (λ u. get_or c.args.mine.now u false) c.in_ok-zero_rows.field-0.lens lens v m;
      desk = λ x d is at. desks.each v x d m is at;
    }
