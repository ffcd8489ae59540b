use Rattle.std.proofs.Common.{◌≡◌, ◌<◌, ◌∙◌, subst, sym}
use Rattle.word_rule.specs.Job.{reactions}
use Rattle.word_rule.specs.Ended.{last_cells}
use Rattle.job_windows.specs.Windowed.{WindowsData, first_of, next_job}
use Rattle.job_windows.proofs.Opened.{passes}
use Rattle.job_windows.proofs.windows.JobWindows.go_on.Goals as goal

pub invariant_of-self : goal.invariant_of-self
invariant_of-self c =
    let s = c.self.inside in
    passes s.archi.now s.workers s.program.now s.flat.now s.rows.now s.next s.opening c.self.invariant c.are_cut.ensures c.vertices.ensures.valid c.windows_make_the_run.ensures
    (subst (λ (w : WindowsData). first_of w.next < reactions w.job) (sym c.self.view_is) c.requires.there) c.into_cells.result
    (c.into_cells.ensures ∙ subst (λ (w : WindowsData). c.args.closed.cells ≡ last_cells (next_job w)) (sym c.self.view_is) c.requires.ended.cells)
