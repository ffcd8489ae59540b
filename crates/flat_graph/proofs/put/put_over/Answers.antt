use Rattle.std.proofs.Common.{◌≡◌, ◌+◌, take, ap, refl, rules, w64, FitsSigned, ◌∙◌}
use Rattle.std.specs.Prelude.{slice_index_or, slice_set, pos}
use Rattle.std.proofs.lemmas.Int.{to_z-of_z}
use Rattle.syn_base.specs.Rows.{with_value}
use Rattle.flat_graph.specs.Put.{over}
use Rattle.flat_graph.proofs.Fill.{one_written, over_more}
use Rattle.flat_graph.proofs.put.put_over.Goals as goal
use Rattle.syn_base.specs.Vectors.{vector_at}

pub loop-j-preserved : goal.loop-j-preserved
loop-j-preserved c =
    let j = c.loop-j.j in
    let x = slice_index_or c.args.vector.now j (pos 0) in
    let w = vector_at c.args.outs.now 0 in
    let fits : FitsSigned w64 x = search rules in
    c.set.ensures
    ∙ ap (λ y. with_value c.loop-j.outs 0 (c.args.from + j) y) (to_z-of_z w64 x fits)
    ∙ ap (λ vs. slice_set vs 0 (slice_set (vector_at vs 0) (c.args.from + j) x)) c.loop-j.invariant
    ∙ one_written c.args.outs.now 0 c.requires.port (over c.args.from (take j c.args.vector.now) w) (over c.args.from (take (j + 1) c.args.vector.now) w) (c.args.from + j) x
    (over_more c.args.from c.args.vector.now w j (pos 0) x c.loop-j-test.true c.requires.len (let same : x ≡ x = refl in same))
