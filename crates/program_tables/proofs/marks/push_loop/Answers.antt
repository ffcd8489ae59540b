-- One more instruction.
use Rattle.std.proofs.Common.{◌++◌, ℕ, List, ap, refl, ◌∙◌}
use Rattle.executive_program.specs.declared.program.Instr.{Instr}
use Rattle.program_tables.specs.Marks.{marks_at, marks_in, named}
use Rattle.program_tables.proofs.Appending.{counted}
use Rattle.program_tables.proofs.marks.push_loop.Goals as goal

pub loop-at-preserved : goal.loop-at-preserved
loop-at-preserved c =
    let s = c.args.sequence in
    let k = c.loop-at.at in
    counted (λ (n : ℕ) (x : Instr). marks_at s n 0 (named c.args.role x)) (marks_in c.args.role s)
    (λ n x xs. refl) c.args.list.now k c.index-list-at.result c.loop-at.out.items c.push_named.new.out.items _
    c.loop-at-test.true c.index-list-at.is (c.in_ok-push_named.ensures ∙ ap (λ (l : List ℕ). c.loop-at.out.items ++ marks_at s k 0 l) c.numbers_named.ensures) c.loop-at.invariant
