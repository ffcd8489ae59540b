use Rattle.lab_words.specs.View.{effort_view}
use Rattle.lab_program.specs.Found.{request_of}
use Rattle.lab_program.proofs.Searched.{all_found}
use Rattle.lab_program.proofs.found.find_schedule.Goals as goal
use Rattle.self_timed.specs.Text.{described_by}

pub search-requires : goal.search-requires
search-requires c = (c.durations_fit.ensures c.args.problem.now.flat (described_by c.args.problem.now.text) c.args.problem.now.durations c.requires).0

pub returns : goal.returns
returns c =
    let found = c.search.ensures in
    let is = c.goal_of.ensures in
    all_found (request_of c.args.problem.now (effort_view c.args.effort)) c.search.result found.valid
    (λ e. found.shorter (is.length e)) (λ e. found.faster (is.period e)) (λ e. found.alone (is.length e)) (λ e. found.faster_alone (is.period e)) found.none
