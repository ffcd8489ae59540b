-- One more sequence.
use Rattle.std.proofs.Common.{◌<◌, List, length, get_or, ap, subst, ◌∙◌}
use Rattle.executive_program.specs.declared.program.Instr.{Instr}
use Rattle.executive_program.specs.declared.program.SeqCode.{SeqCode}
use Rattle.program_tables.specs.Communications.{places_from}
use Rattle.program_tables.proofs.Appending.{mapped}
use Rattle.program_tables.proofs.communications.communication_places.Goals as goal

pub loop-code-preserved : goal.loop-code-preserved
loop-code-preserved c =
    let k = c.loop-code.code-index in
    let x = c.code-item.result in
    let same = c.as_slice-code-items.ensures in
    mapped (λ (q : SeqCode). places_from 0 q.turn) c.args.program.now.seqs k x c.new.result c.loop-code.rows.items c.push.new.self.items _
    (subst (λ (l : List SeqCode). k < length l) same c.loop-code-test.true)
    (c.code-item.is ∙ ap (λ (l : List SeqCode). get_or l k x) same)
    (c.new.ensures ∙ c.in_ok-row.ensures ∙ ap (λ (l : List Instr). places_from 0 l) c.as_slice.ensures) c.in_ok-push.ensures.items c.loop-code.invariant
