-- The lengths of vectors of zeros.
use Rattle.std.proofs.Common.{◌∙◌, ap, map, length}
use Rattle.executive_program.proofs.KindLens.{length-zeros}
use Rattle.operation_desks.proofs.desk.Desk.new.Goals as goal

pub returns : goal.returns
returns c = λ i. record {
  reads = (ap (map length) c.in_ok-new.ensures ∙ length-zeros c.args.reads.now) i;
  gives = (ap (map length) c.in_ok-new-2.ensures ∙ length-zeros c.args.gives.now) i;
  guards = c.args.guards;
  inputs = c.args.inputs;
  delay = c.args.delay;
}
