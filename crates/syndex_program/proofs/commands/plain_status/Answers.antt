use Rattle.top_plans.specs.Status.{ending_of}
use Rattle.top_plans.specs.Reads.{text_in}
use Rattle.syndex_program.proofs.Coded.{written_ends}
use Rattle.syndex_program.proofs.commands.plain_status.Goals as goal

pub returns-clause-ran : goal.returns-clause-ran
returns-clause-ran g c = λ driven.
    let K = g.K.Sink.sunk in
    let made = c.plain_text-made.result in
    (text_in made, c.plain_text-made.ensures.makes, written_ends made (K c.args.out.now) (K c.write_text.new.out) driven (ending_of c.write_text.result) c.write_text.ensures)
