use Rattle.top_plans.specs.Status.{ending_of}
use Rattle.lab_words.specs.View.{view_of}
use Rattle.lab_plans.specs.Plans.{plan_for}
use Rattle.lab_program.proofs.Carried.{ran_so}
use Rattle.lab_program.proofs.commands.carry_out.Goals as goal

pub returns-clause-ran : goal.returns-clause-ran
returns-clause-ran g c =
    let H = g.S.Shelf.held in
    let K = g.K.Sink.sunk in
    ran_so (plan_for (view_of c.args.command.now)) (H c.args.shelf.now) (H c.command_text-made.new.shelf) c.command_text-made.result
    (K c.args.out.now) (K c.write_text.new.out) (ending_of c.write_text.result)
    c.command_text-made.ensures.carries c.write_text.ensures
