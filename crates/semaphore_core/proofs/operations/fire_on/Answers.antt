-- The cell that was lent has its new value.
use Rattle.std.proofs.Common.{◌≡◌, ◌<◌, ◌∙◌, length, sym, arith, Some, Vec, ℤ, Global}
use Rattle.std.proofs.lemmas.List.{length-map}
use Rattle.executive_program.specs.Fire.{kept_at, cell_len}
use Rattle.semaphore_core.proofs.RowVectors.{cell_set, cell_there, cells_of}
use Rattle.semaphore_core.proofs.operations.fire_on.Goals as goal
use Rattle.syn_base.specs.Vectors.{Vector}

pub returns-in-Some-clause-cells : goal.returns-in-Some-clause-cells
returns-in-Some-clause-cells c =
    let e : c.args.desk.now.delay ≡ Some c.in-Some.delay = sym c.delay.ensures ∙ c.in-Some.is in
    let h : c.in-Some.delay < length c.args.cells.now.items = let a =
    cell_there (cells_of c.args.cells.now.items) c.args.desk.now.delay
    (cell_len c.args.flat.now c.args.vertex) c.in-Some.delay c.requires.cell e in
    let b = length-map c.args.cells.now.items (λ (v : Vec ℤ Global). v.items) in omega arith in
    let l : length c.fire-in-Some.new.cell ≡ c.index_mut-cell.result.now.len = let a = c.fire-in-Some.auto.cell in let b = c.as_mut_slice.ensures.len in omega arith in
    cell_set c.args.cells.now.items c.in-Some.delay c.index_mut-cell.result.now c.as_mut_slice.result.now c.fire-in-Some.new.cell
    c.args.desk.now.delay (λ (v : Vector). kept_at c.args.flat.now c.args.vertex v c.args.desk.now.read)
    h c.index_mut-cell.ensures.value c.as_mut_slice.ensures.value l e c.fire-in-Some.ensures.cell
