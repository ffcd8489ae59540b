-- The parts are those of the opening, and the state is open.
use Rattle.std.proofs.Common.{◌≡◌, ℕ, ◌*◌, ◌++◌, ◌∙◌, List, [], length, replicate, ap, subst}
use Rattle.executive_program.specs.declared.program.Program.{Program}
use Rattle.executive_program.specs.declared.program.SeqCode.{SeqCode}
use Rattle.semaphore_core.specs.Core.{opening, buffer_zeros, wire_zeros}
use Rattle.executive_program.specs.declared.expand.SeqSteps.{SeqSteps}
use Rattle.semaphore_core.specs.AtOpening.{AreAtOpening}
use Rattle.semaphore_core.proofs.Viewing.{core_of}
use Rattle.semaphore_core.proofs.OpenStates.{registers_empty, state_open}
use Rattle.semaphore_core.proofs.state.State.new.Goals as goal

is_opening : (c : goal.In_ok-own) → AreAtOpening c.args.job.now c.in_ok-steps.steps.items c.in_ok-own.own
is_opening c = subst (λ (l : List SeqSteps). AreAtOpening c.args.job.now l c.in_ok-own.own) c.as_slice-2.ensures.value c.in_ok-own.ensures.opening

core_is : (c : goal.In_ok-own) → core_of c.in_ok-counts.counts.items c.in_ok-semaphores.semaphores.items c.in_ok-turns.turns.items
    c.in_ok-elements.elements.items c.in_ok-own.own ≡ opening c.args.job.now
core_is c = λ i. record {
  counts = counts i;
  semaphores = semaphores i;
  turns = turns i;
  elements = elements i;
  registers =
      registers i;
  cells = c.in_ok-own.ensures.opening.cells i;
  rows = c.in_ok-own.ensures.rows i;
}
  where
    same : c.program-program.result.now ≡ c.args.job.now.program
    same = c.program-program.ensures.same

    counts : c.in_ok-counts.counts.items ≡ replicate (length c.args.job.now.program.seqs) 0
    counts = c.in_ok-counts.ensures ∙ ap (λ (l : List SeqCode). replicate (length l) 0) (c.as_slice-sequences.ensures ∙ ap (λ (p : Program). p.seqs) same)

    semaphores : c.in_ok-semaphores.semaphores.items ≡ replicate (2 * length c.args.job.now.program.pairs) 0
    semaphores = c.in_ok-semaphores.ensures ∙ ap (λ (l : List ℕ). replicate (2 * length l) 0) (c.as_slice.ensures ∙ ap (λ (p : Program). p.pairs) same)

    turns : c.in_ok-turns.turns.items ≡ replicate c.args.job.now.media 0
    turns = c.in_ok-turns.ensures ∙ ap (λ (n : ℕ). replicate n 0) c.media.ensures

    elements : c.in_ok-elements.elements.items ≡ buffer_zeros c.args.job.now.program ++ wire_zeros c.args.job.now.program c.args.job.now.media
    elements = c.in_ok-elements.ensures ∙ (λ i. buffer_zeros (same i) ++ wire_zeros (same i) ((c.in_ok-to_u32.ensures.same ∙ c.media-2.ensures) i))

    registers : c.in_ok-own.own.registers ≡ replicate (length c.args.job.now.program.seqs) []
    registers = registers_empty c.args.job.now c.program-program.result.now same c.in_ok-steps.steps.items c.in_ok-steps.ensures c.in_ok-own.own (is_opening c)

pub returns-clause-core : goal.returns-clause-core
returns-clause-core c = core_is c

pub returns-clause-opened : goal.returns-clause-opened
returns-clause-opened c = state_open c.args.job.now c.program-program.result.now c.program-program.ensures.same c.in_ok-steps.steps.items
    c.in_ok-steps.ensures c.in_ok-own.own (is_opening c) c.program-program.ensures.job
    (core_of c.in_ok-counts.counts.items c.in_ok-semaphores.semaphores.items c.in_ok-turns.turns.items c.in_ok-elements.elements.items c.in_ok-own.own)
    c.in_ok-own.ensures.laid_out (core_is c) c.in_ok-own.ensures.opening.ready
