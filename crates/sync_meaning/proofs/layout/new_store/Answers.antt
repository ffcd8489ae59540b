use Rattle.std.proofs.Common.{ap, ◌∙◌}
use Rattle.sync_meaning.specs.Store.{lengths}
use Rattle.sync_meaning.proofs.Keeping.{cells_first, lens_first}
use Rattle.sync_meaning.proofs.layout.new_store.Goals as goal

pub returns-clause-fits : goal.returns-clause-fits
returns-clause-fits c =
    let same = c.vertices-vertices.ensures.same in
    let first = rw same at c.in_ok-first_cells.ensures in
    record {
      reads_fit = rw same at c.in_ok-all_reads.ensures;
      outs_fit = rw same at c.in_ok-all_outputs.ensures;
      cells_fit = ap lengths first ∙ lens_first c.args.flat.now.vertices;
    }

pub returns-clause-first : goal.returns-clause-first
returns-clause-first c =
    let first = rw c.vertices-vertices.ensures.same at c.in_ok-first_cells.ensures in
    cells_first c.args.flat.now.vertices _ first
