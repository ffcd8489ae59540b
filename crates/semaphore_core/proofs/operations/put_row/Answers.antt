-- One more element.
use Rattle.std.proofs.Common.{◌≡◌, ◌∙◌, [], get_or, length, arith, ap, rules, w64, to_z, of_z, List, ℤ, pos}
use Rattle.std.proofs.lemmas.Int.{to_z-of_z}
use mir.Val.{SFits}
use Rattle.syn_base.specs.Rows.{Reactions, with_element}
use Rattle.semaphore_core.proofs.RowVectors.{one_put}
use Rattle.semaphore_core.proofs.operations.put_row.Goals as goal
use Rattle.syn_base.specs.Vectors.{Vector, Values}

pub loop-j-preserved : goal.loop-j-preserved
loop-j-preserved c =
    let e : length c.args.vector.now
    ≡ length (get_or (get_or c.args.rows.now.reactions c.args.reaction []) c.args.actuator []) = let a = c.requires.len in
    let b = c.vector-len.ensures.len in let d = ap (λ (v : Vector). length v) c.vector-len.ensures.value in omega arith in
    let v : ℤ = get_or c.args.vector.now c.loop-j.j (pos 0) in
    let f : SFits w64 (get_or c.args.vector.now c.loop-j.j (pos 0)) = search rules in
    let t : to_z w64 (of_z w64 (get_or c.args.vector.now c.loop-j.j (pos 0))) ≡ get_or c.args.vector.now c.loop-j.j (pos 0) = to_z-of_z w64 (get_or c.args.vector.now c.loop-j.j (pos 0)) f in
    c.set.ensures ∙ ap (λ (r : Reactions). record {
      lens = r.lens;
      reactions =
          with_element r.reactions c.args.reaction c.args.actuator c.loop-j.j
          (to_z w64 (of_z w64 (get_or c.args.vector.now c.loop-j.j (pos 0))));
    }) c.loop-j.invariant
    ∙ ap (λ (r : List Values). record { lens = c.args.rows.now.lens; reactions = r })
    (one_put c.args.rows.now.reactions c.args.reaction c.args.actuator c.args.vector.now c.loop-j.j
    (to_z w64 (of_z w64 (get_or c.args.vector.now c.loop-j.j (pos 0)))) c.requires.reaction c.loop-j-test.true e t)
