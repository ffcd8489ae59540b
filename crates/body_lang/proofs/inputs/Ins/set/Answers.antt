use Rattle.std.proofs.Common.{◌<◌, ◌+◌, get_or, set, ap, ◌∙◌, arith, rules, w64, FitsSigned, List, ℤ}
use Rattle.std.proofs.lemmas.Int.{to_z-of_z}
use Rattle.syn_base.specs.Rows.{cut, with_value}
use Rattle.syn_base.proofs.Cut.{cut-set}
use Rattle.body_lang.proofs.Vectors.{port_inside, length_seen}
use Rattle.body_lang.proofs.inputs.Ins.set.Goals as goal

pub start-requires : goal.start-requires
start-requires c = port_inside c.self.inside.shape c.self.inside.elements.items c.args.self.now c.self.view_is c.self.invariant c.args.port c.requires.port

pub overflow_add-place : goal.overflow_add-place
overflow_add-place c =
    let len = length_seen c.self.inside.shape c.self.inside.elements.items c.args.self.now c.self.view_is c.self.invariant c.args.port c.requires.port in
    record { fits = omega (arith, c.requires.place, c.start.ensures.inside, c.start.ensures.fits) }

pub index_mut-requires : goal.index_mut-requires
index_mut-requires c =
    let len = length_seen c.self.inside.shape c.self.inside.elements.items c.args.self.now c.self.view_is c.self.invariant c.args.port c.requires.port in
    omega (arith, c.requires.place, c.start.ensures.inside, c.self.invariant)

pub returns : goal.returns
returns c =
    let shape = c.self.inside.shape in
    let items = c.self.inside.elements.items in
    let in_shape = port_inside shape items c.args.self.now c.self.view_is c.self.invariant c.args.port c.requires.port in
    let j_in : c.args.j < get_or shape c.args.port 0 = omega (arith, c.requires.place, length_seen shape items c.args.self.now c.self.view_is c.self.invariant c.args.port c.requires.port) in
    let fits : FitsSigned w64 c.args.v = search rules in
    ap (λ x. cut shape (set items (c.start.result + c.args.j) x)) (to_z-of_z w64 c.args.v fits)
    ∙ ap (λ n. cut shape (set items (n + c.args.j) c.args.v)) c.start.ensures.start
    ∙ cut-set shape items c.args.port c.args.j c.args.v in_shape j_in
    ∙ ap (λ (vs : List (List ℤ)). with_value vs c.args.port c.args.j c.args.v) c.self.view_is
