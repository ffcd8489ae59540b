-- A problem, and how a schedule for it is searched.
use Rattle.compiler.specs.declared.stages.Problem.{Problem}
use Rattle.lab_words.specs.Command.{Effort}
use Rattle.lab_plans.specs.Asked.{Request}

-- the operations, architecture and durations of a problem, and this effort
abbrev pub request_of : Problem → Effort → Request
request_of problem effort = record {
  graph = problem.flat;
  archi = problem.text.archi;
  table = problem.durations;
  effort = effort;
}
