use Rattle.schedule_search.proofs.Measures.{lone_is_low}
use Rattle.schedule_search.proofs.alone.lone.Goals as goal

pub returns-clause-alone : goal.returns-clause-alone
returns-clause-alone c =
    lone_is_low c.one_operator_has_its_length_as_period.ensures c.args.site.now c.args.goal c.args.operator c.args.schedule c.depth-depth.ensures.valid c.requires.alone
    c.with_measure.result c.with_measure.ensures.measured c.with_measure.ensures.same
