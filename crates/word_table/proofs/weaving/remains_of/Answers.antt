use Rattle.std.proofs.Common.{◌≡◌, ℕ, ◌-◌, ◌∙◌, length, ap, arith}
use Rattle.std.proofs.lemmas.List.{length-replicate}
use Rattle.executive_program.specs.declared.Vertex.{Vertex}
use Rattle.executive_program.specs.Graph.{Graph}
use Rattle.executive_program.specs.declared.program.SeqCode.{SeqCode}
use Rattle.executive_program.specs.declared.program.Program.{Program}
use Rattle.executive_program.specs.Places.{caller_of}
use Rattle.word_table.specs.Owners.{owners}
use Rattle.word_table.proofs.weaving.remains_of.Goals as goal

pub returns : goal.returns
returns c = record {
  counts_there = ap (length {A = ℕ}) c.in_ok-counts.ensures ∙ length-replicate (length c.as_slice.result.now) 0
      ∙ ap (length {A = SeqCode}) (c.as_slice.ensures ∙ ap (λ (p : Program). p.seqs) c.program.ensures.same);
  words_there = let l = ap (length {A = ℕ}) c.in_ok-words.ensures ∙ length-replicate (c.args.len - 1) 0 in let r = c.requires in omega (arith, l, r);
  cells = c.in_ok-cells.ensures.cells;
  lens = c.in_ok-cells.ensures.lens;
  rows = c.in_ok-cells.ensures.rows;
  callers_there = c.in_ok-callers.ensures.long ∙ many;
  callers = λ v l. c.in_ok-callers.ensures.each v (omega (arith, l, many)) ∙ ap (λ (p : Program). caller_of p v) c.program-2.ensures.same;
  cell_owners = c.in_ok-cell_owners.ensures ∙ (λ i. owners (c.as_slice-2.ensures.value i) (vertices i));
}
  where
    vertices : c.vertices-vertices.result.now ≡ c.args.job.now.graph.vertices
    vertices = c.vertices-vertices.ensures.same ∙ ap (λ (g : Graph). g.vertices) c.flat.ensures

    many : length c.vertices-vertices.result.now ≡ length c.args.job.now.graph.vertices
    many = ap (length {A = Vertex}) vertices
