-- One more element.
use Rattle.std.proofs.Common.{◌<◌, ◌∙◌, length, arith, rules, w64, to_z, of_z}
use Rattle.std.proofs.lemmas.Int.{to_z-of_z}
use mir.Val.{SFits}
use Rattle.operation_desks.proofs.ReadVectors.{place_there, element_more}
use Rattle.operation_desks.proofs.reading.read_vector.Goals as goal
use Rattle.syn_base.specs.Vectors.{vector_at}

pub set-requires-clause-place : goal.set-requires-clause-place
set-requires-clause-place c =
    let h : c.loop-j.j < length (vector_at c.args.ins.now c.args.port) = let a = c.loop-j-test.true in let b = c.loop-j.invariant.len_is in omega arith in
    place_there c.args.registers.now.values c.args.at c.args.port c.args.ins.now c.loop-j.ins c.loop-j.j c.requires.port c.loop-j.invariant.ins_are h

pub loop-j-preserved : goal.loop-j-preserved
loop-j-preserved c =
    let f : SFits w64 c.get_wide.result = search rules in
    let h : c.loop-j.j < length (vector_at c.args.ins.now c.args.port) = let a = c.loop-j-test.true in let b = c.loop-j.invariant.len_is in omega arith in
    record {
      ins_are = element_more c.args.registers.now.values c.args.at c.args.port c.args.ins.now c.loop-j.ins c.set.new.self c.loop-j.j
          (to_z w64 (of_z w64 c.get_wide.result)) c.requires.port c.loop-j.invariant.ins_are h
          (to_z-of_z w64 c.get_wide.result f ∙ c.get_wide.ensures) c.set.ensures;
      len_is = c.loop-j.invariant.len_is;
    }
