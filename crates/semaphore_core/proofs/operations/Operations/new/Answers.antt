-- The operations can be computed, with the rows of all of them.
use Rattle.std.proofs.Common.{◌∙◌, ap, subst, refl, map, length, List, true}
use Rattle.std.specs.Prelude.{IsTrue}
use Rattle.std.proofs.lemmas.List.{length-replicate}
use Rattle.std.specs.Option.{option_map}
use Rattle.executive_program.specs.Graph.{Graph}
use Rattle.executive_program.specs.FlatValid.{is_flat}
use Rattle.executive_program.specs.FlatLaws.{actuator_lens}
use Rattle.operation_desks.specs.Desk.{lens_of_desk, AreDesks}
use Rattle.semaphore_core.specs.Job.{reactions}
use Rattle.semaphore_core.proofs.Jobs.{opening_ready, rows_laid_out}
use Rattle.semaphore_core.proofs.operations.Operations.new.Goals as goal
use Rattle.syn_base.specs.Vectors.{Values, zeros}

desks_are : (c : goal.In_ok-desks) → AreDesks c.args.job.now.graph (λ v. true) (length c.args.job.now.graph.vertices) (map (option_map lens_of_desk) c.in_ok-desks.desks.items)
desks_are c = subst (λ (g : Graph). AreDesks g (λ v. true) (length g.vertices) (map (option_map lens_of_desk) c.in_ok-desks.desks.items)) c.flat.ensures c.in_ok-desks.ensures.desks

pub returns-clause-ready : goal.returns-clause-ready
returns-clause-ready c = let j = c.args.job.now in let p = c.in_ok-cells.ensures in
    opening_ready j p.job
    (record {
      cells = map (λ v. v.items) c.in_ok-cells.cells.items;
      rows = c.in_ok-cells.rows.reactions;
      lens =
          c.in_ok-cells.rows.lens;
      desks = map (option_map lens_of_desk) c.in_ok-desks.desks.items;
    })
    (subst (λ (g : Graph). IsTrue (is_flat g)) c.flat.ensures c.in_ok-desks.ensures.valid)
    p.cells
    (ap (λ (l : List Values). length l) p.rows ∙ length-replicate (reactions j) (map zeros (actuator_lens j.graph j.graph.vertices)))
    (desks_are c).there

pub returns-clause-laid_out : goal.returns-clause-laid_out
returns-clause-laid_out c = let p = c.in_ok-cells.ensures in λ v. record {
  row = rows_laid_out c.args.job.now p.job (subst (λ (g : Graph). IsTrue (is_flat g)) c.flat.ensures c.in_ok-desks.ensures.valid) c.in_ok-cells.rows.lens p.lens v;
  desk = λ x d is at. (desks_are c).each v x d refl is at;
}
