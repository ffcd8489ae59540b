use Rattle.std.proofs.Common.{List, ◌++◌, ap, ◌∙◌}
use Rattle.algo_rules.specs.declared.Def.{Def}
use Rattle.text_lint.specs.Algorithm.{findings_at}
use Rattle.text_lint.specs.declared.finding.Finding.{Finding}
use Rattle.text_lint.proofs.findings.algorithm_findings.Goals as goal

pub returns : goal.returns
returns c =
    c.in_ok-append_algorithm.ensures
    ∙ ap (λ (found : List Finding). found ++ findings_at c.in_ok-known.known c.args.defs.now) c.new-found.ensures.items
    ∙ ap (λ (ds : List Def). findings_at ds c.args.defs.now) c.in_ok-known.ensures
