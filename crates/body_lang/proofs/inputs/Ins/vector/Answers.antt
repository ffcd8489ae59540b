use Rattle.std.proofs.Common.{◌≡◌, ◌+◌, ◌-◌, get_or, take, drop, ap₂, ◌∙◌, arith}
use Rattle.body_lang.proofs.Vectors.{port_inside, vector_seen}
use Rattle.body_lang.proofs.inputs.Ins.vector.Goals as goal

pub start-start-requires : goal.start-start-requires
start-start-requires c = port_inside c.self.inside.shape c.self.inside.elements.items c.args.self.now c.self.view_is c.self.invariant c.args.port c.requires

pub len_of-len-requires : goal.len_of-len-requires
len_of-len-requires c = port_inside c.self.inside.shape c.self.inside.elements.items c.args.self.now c.self.view_is c.self.invariant c.args.port c.requires

pub returns : goal.returns
returns c =
    let len : c.start-start.result + c.len_of-len.result - c.start-start.result ≡ get_or c.self.inside.shape c.args.port 0 = omega (arith, c.len_of-len.ensures) in
    ap₂ take len (ap₂ drop c.start-start.ensures.start c.deref.ensures.value)
    ∙ vector_seen c.self.inside.shape c.self.inside.elements.items c.args.self.now c.self.view_is c.self.invariant c.args.port c.requires
