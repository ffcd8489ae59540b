-- The guards' vectors, and the inputs'.
use Rattle.std.proofs.Common.{◌+◌, ap, length, sym, ◌∙◌}
use Rattle.operation_desks.specs.Desk.{DeskData}
use Rattle.operation_desks.proofs.Desks.{conditions_read, inputs_read}
use Rattle.operation_desks.proofs.desk.Desk.read.Goals as goal

pub returns-clause-conditions : goal.returns-clause-conditions
returns-clause-conditions c = rw (← c.self.view_is)
    (conditions_read c.args.registers.now.values c.self.inside.inputs c.self.inside.guards c.read_ports-after.result c.self.inside.read
    c.read_ports-after.new.ins c.read_ports.new.ins
    (ap (λ (d : DeskData). d.inputs + d.guards) c.self.view_is ∙ c.requires
    ∙ sym (ap (λ (d : DeskData). length d.read) c.self.view_is)) c.read_ports-after.ensures.ins c.read_ports-after.ensures.after c.read_ports.ensures.ins)

pub returns-clause-inputs : goal.returns-clause-inputs
returns-clause-inputs c = rw (← c.self.view_is)
    (inputs_read c.args.registers.now.values c.self.inside.inputs c.self.inside.guards c.read_ports-after.result c.self.inside.read
    c.read_ports-after.new.ins c.read_ports.new.ins
    (ap (λ (d : DeskData). d.inputs + d.guards) c.self.view_is ∙ c.requires
    ∙ sym (ap (λ (d : DeskData). length d.read) c.self.view_is)) c.read_ports-after.ensures.ins c.read_ports-after.ensures.after c.read_ports.ensures.ins)
