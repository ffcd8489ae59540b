use Rattle.std.proofs.Common.{sym, ap, ◌∙◌}
use Rattle.macro_check.specs.Causes.{told}
use Rattle.macro_check.proofs.Lacks.{all_of, may_run}
use Rattle.macro_check.proofs.check.check_by_tables.Goals as goal

pub find_order-requires-clause-run : goal.find_order-requires-clause-run
find_order-requires-clause-run c =
    let all = all_of c.args.program.now c.args.vertices.now c.args.tables.now.media (sym c.in_ok-cause.ensures ∙ ap told c.in-None.is) in
    may_run c.args.program.now c.args.tables.now.media c.requires.named all.transferred all.guarded
