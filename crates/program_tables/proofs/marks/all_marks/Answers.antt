-- One more sequence.
use Rattle.std.proofs.Common.{◌<◌, ◌++◌, ℕ, List, length, get_or, ap, refl, subst, ◌∙◌}
use Rattle.executive_program.specs.declared.program.Instr.{Instr}
use Rattle.executive_program.specs.declared.program.SeqCode.{SeqCode}
use Rattle.program_tables.specs.Marks.{marks_from, marks_in}
use Rattle.program_tables.proofs.Appending.{counted}
use Rattle.program_tables.proofs.marks.all_marks.Goals as goal

pub loop-sequence-preserved : goal.loop-sequence-preserved
loop-sequence-preserved c =
    let k = c.loop-sequence.sequence in
    let x = c.code-item.result in
    let same = c.as_slice-code-items.ensures in
    counted (λ (n : ℕ) (q : SeqCode). marks_in c.args.role n 0 q.turn) (marks_from c.args.role) (λ n q qs. refl) c.args.program.now.seqs k x c.loop-sequence.marks.items c.push_loop.new.out.items _
    (subst (λ (l : List SeqCode). k < length l) same c.loop-sequence-test.true) (c.code-item.is ∙ ap (λ (l : List SeqCode). get_or l k x) same)
    (c.in_ok-push_loop.ensures ∙ ap (λ (l : List Instr). c.loop-sequence.marks.items ++ marks_in c.args.role k 0 l) c.as_slice.ensures) c.loop-sequence.invariant
