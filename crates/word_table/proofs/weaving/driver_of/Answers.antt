use Rattle.std.proofs.Common.{refl, ap, subst, ◌∙◌, ℕ, List, length, map}
use Rattle.std.specs.Prelude.{replicate, nat_eq, ◌%◌}
use Rattle.executive_program.specs.declared.program.SeqCode.{SeqCode}
use Rattle.executive_program.specs.declared.program.Program.{Program}
use Rattle.executive_program.specs.declared.expand.SeqSteps.{SeqSteps}
use Rattle.word_rule.specs.AtOpening.{AreAtOpening}
use Rattle.word_table.proofs.Beginning.{begins_by}
use Rattle.word_table.proofs.weaving.driver_of.Goals as goal

pub returns : goal.returns
returns c = let a = c.args in let w = a.fabric.now in let q = c.requires.fabric in let j = w.job.now in let o = c.in_ok-own.ensures in
    let b = begins_by j q.runs w.steps.items q.steps_are w.remains.callers.items q.laid.callers q.laid.callers_there _ refl c.requires.view c.as_slice-3.result.now
    (c.as_slice-3.ensures.value ∙ c.in_ok-called.ensures ∙ ap (map (λ s. nat_eq (s % w.groups) a.group)) c.as_slice.ensures.value)
    (c.in_ok-counts.ensures ∙ ap (λ (xs : List SeqCode). replicate {A = ℕ} (length xs) 0) (c.as_slice-sequences.ensures ∙ ap (λ (p : Program). p.seqs) c.program.ensures.same))
    (subst (λ (l : List SeqSteps). AreAtOpening j l c.in_ok-own.own) c.as_slice-2.ensures.value o.opening) o.lens o.rows o.laid_out in
    record { driver = b.0; seated = refl; job = refl; groups = refl; group = refl; new = b.1 }
