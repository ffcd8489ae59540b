use Rattle.std.proofs.Common.{◌≡◌, ◌+◌, ◌++◌, set, take, drop, length, ap, ◌∙◌, arith, List, ℤ}
use Rattle.std.proofs.Common.{vec_len}
use Rattle.std.proofs.Math.Seq.{take-append_seam}
use Rattle.syn_base.specs.Rows.{cut}
use Rattle.body_lang.proofs.Vectors.{port_inside, length_seen, cut-put}
use Rattle.body_lang.proofs.inputs.Ins.set_vector.Goals as goal

pub start-start-requires : goal.start-start-requires
start-start-requires c = port_inside c.self.inside.shape c.self.inside.elements.items c.args.self.now c.self.view_is c.self.invariant c.args.port c.requires.port

pub put-requires : goal.put-requires
put-requires c =
    let len = length_seen c.self.inside.shape c.self.inside.elements.items c.args.self.now c.self.view_is c.self.invariant c.args.port c.requires.port in
    omega (arith, c.start-start.ensures.inside, c.requires.len, c.self.invariant, c.deref_mut.ensures.len)

pub returns : goal.returns
returns c =
    let shape = c.self.inside.shape in
    let items = c.self.inside.elements.items in
    let in_shape = port_inside shape items c.args.self.now c.self.view_is c.self.invariant c.args.port c.requires.port in
    let len = c.requires.len ∙ length_seen shape items c.args.self.now c.self.view_is c.self.invariant c.args.port c.requires.port in
    let same : vec_len c.self.inside.elements ≡ length c.put.new.row = omega (arith, c.deref_mut.ensures.len, c.put.auto.row) in
    ap (cut shape) (ap (λ n. take n (c.put.new.row ++ drop (length c.put.new.row) items)) same ∙ take-append_seam c.put.new.row (drop (length c.put.new.row) items))
    ∙ ap (cut shape) (c.put.ensures ∙ ap (λ row. take c.start-start.result row ++ (c.args.vector.now ++ drop (c.start-start.result + length c.args.vector.now) row)) c.deref_mut.ensures.value)
    ∙ ap (λ n. cut shape (take n items ++ (c.args.vector.now ++ drop (n + length c.args.vector.now) items))) c.start-start.ensures.start
    ∙ cut-put shape items c.args.vector.now c.args.port in_shape c.self.invariant len
    ∙ ap (λ (vs : List (List ℤ)). set vs c.args.port c.args.vector.now) c.self.view_is
