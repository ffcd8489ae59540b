use Rattle.std.proofs.Common.{◌≡◌, ◌<◌, ◌∙◌, Ok, ap, subst, sym, arith, length}
use Rattle.std.specs.Prelude.{Some}
use Rattle.run_laws.specs.Windows.{reactions_from}
use Rattle.word_rule.specs.Job.{JobData}
use Rattle.word_rule.specs.IsJob.{FitTogether, job_of}
use Rattle.word_rule.specs.Windows.{window}
use Rattle.word_rule.specs.Driven.{driven_by}
use Rattle.word_table.specs.Closed.{IsAtEnd}
use Rattle.job_windows.specs.Windowed.{RunsNext, WindowsData, first_of}
use Rattle.job_windows.proofs.Opened.{is_next, next_fits, not_refused, is_window}
use Rattle.job_windows.proofs.windows.JobWindows.run_next.Goals as goal

pub new-requires : goal.new-requires
new-requires g c =
    let s = c.self.inside in
    let e = c.first-from.ensures.value ∙ ap (λ (w : WindowsData). first_of w.next) (sym c.self.view_is) in
    let there : first_of s.next < length s.rows.now.reactions = omega (arith, c.if-from-reactions.false, e, c.count-reactions.ensures) in
    let many : c.min.result ≡ reactions_from (length s.rows.now.reactions) (first_of s.next) = omega (arith, c.min.ensures, e, c.count-reactions.ensures) in
    let rows = c.in_ok-rows.ensures ∙ (λ i. record s.rows.now { reactions = window (e i) (many i) s.rows.now.reactions }) in
    let same = is_next s.archi.now s.workers s.program.now s.flat.now s.rows.now s.next s.opening c.self.invariant c.are_cut.ensures
    c.vertices.ensures.valid c.windows_make_the_run.ensures there c.in_ok-rows.rows c.in_ok-opening.opening rows
    (c.in_ok-opening.ensures ∙ c.as_slice.ensures) in
    subst (λ (j : JobData). FitTogether s.archi.now j) (sym same)
    (next_fits s.archi.now s.workers s.program.now s.flat.now s.rows.now s.next s.opening c.self.invariant c.are_cut.ensures
    c.vertices.ensures.valid c.windows_make_the_run.ensures there)

pub unreachable-requires : goal.unreachable-requires
unreachable-requires g c =
    let s = c.self.inside in
    let e = c.first-from.ensures.value ∙ ap (λ (w : WindowsData). first_of w.next) (sym c.self.view_is) in
    let there : first_of s.next < length s.rows.now.reactions = omega (arith, c.if-from-reactions.false, e, c.count-reactions.ensures) in
    let many : c.min.result ≡ reactions_from (length s.rows.now.reactions) (first_of s.next) = omega (arith, c.min.ensures, e, c.count-reactions.ensures) in
    let rows = c.in_ok-rows.ensures ∙ (λ i. record s.rows.now { reactions = window (e i) (many i) s.rows.now.reactions }) in
    let same = is_next s.archi.now s.workers s.program.now s.flat.now s.rows.now s.next s.opening c.self.invariant c.are_cut.ensures
    c.vertices.ensures.valid c.windows_make_the_run.ensures there c.in_ok-rows.rows c.in_ok-opening.opening rows
    (c.in_ok-opening.ensures ∙ c.as_slice.ensures) in
    not_refused s.archi.now s.workers s.program.now s.flat.now s.rows.now s.next s.opening c.self.invariant c.are_cut.ensures c.vertices.ensures.valid c.windows_make_the_run.ensures there
    (job_of s.program.now s.flat.now s.archi.now c.in_ok-rows.rows c.in_ok-opening.opening) c.in_default.field-0 same c.in_default.ensures.limit

pub returns : goal.returns
returns g c =
    let s = c.self.inside in
    let e = c.first-from.ensures.value ∙ ap (λ (w : WindowsData). first_of w.next) (sym c.self.view_is) in
    let there : first_of s.next < length s.rows.now.reactions = omega (arith, c.if-from-reactions.false, e, c.count-reactions.ensures) in
    let many : c.min.result ≡ reactions_from (length s.rows.now.reactions) (first_of s.next) = omega (arith, c.min.ensures, e, c.count-reactions.ensures) in
    let rows = c.in_ok-rows.ensures ∙ (λ i. record s.rows.now { reactions = window (e i) (many i) s.rows.now.reactions }) in
    let same = is_next s.archi.now s.workers s.program.now s.flat.now s.rows.now s.next s.opening c.self.invariant c.are_cut.ensures
    c.vertices.ensures.valid c.windows_make_the_run.ensures there c.in_ok-rows.rows c.in_ok-opening.opening rows
    (c.in_ok-opening.ensures ∙ c.as_slice.ensures) in
    let ready = c.in_ok-ready.ensures.0 ∙ c.in-Ok.ensures.job.0 ∙ same in
    subst (λ (w : WindowsData). RunsNext w c.args.driven.now c.run_ready.new.driven (Ok (Some c.run_ready.result))) c.self.view_is (
      there,
      c.run_ready.ensures.driven ∙ ap (λ (j : JobData). driven_by j c.args.driven.now) ready,
      subst (λ (j : JobData). IsAtEnd j c.run_ready.result) ready c.run_ready.ensures.closed,
      (is_window s.archi.now s.workers s.program.now s.flat.now s.rows.now s.next s.opening c.self.invariant c.are_cut.ensures c.vertices.ensures.valid c.windows_make_the_run.ensures there).acts,
    )
