use Rattle.std.proofs.Common.{◌∙◌, ◌++◌, ap}
use Rattle.syn_base.specs.Bytes.{Bytes}
use Rattle.report_text.specs.Text.{report_text}
use Rattle.report_text.specs.declared.figures.Figures.{Figures}
use Rattle.lab_program.proofs.commands.report.print_numbers.Goals as goal

pub returns : goal.returns
returns c =
    let g = c.args.problem.now.flat in
    let a = c.args.problem.now.text.archi in
    c.in_ok-print_report.ensures.text ∙ ap (λ (t : Bytes). t ++ report_text g.vertices a c.in_ok-told.told) c.new-text.ensures.items
    ∙ ap (λ (f : Figures). report_text g.vertices a f) c.in_ok-told.ensures
