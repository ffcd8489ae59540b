use Rattle.std.proofs.Common.{◌≡◌, drop}
use Rattle.program_walks.specs.Walks.{all_at}
use Rattle.program_walks.specs.Opened.{signals_right}
use Rattle.program_walks.proofs.opening.all_signal.Given as goal

-- the sequences that are left decide
abbrev pub invariant-loop-sequence : goal.invariant-loop-sequence
invariant-loop-sequence l =
    all_at (signals_right l.program l.pair (record { buffer = l.reading.buffer; sequence = l.reading.sequence })) l.sequence
    (drop l.sequence l.program.seqs)
    ≡ all_at (signals_right l.program l.pair (record { buffer = l.reading.buffer; sequence = l.reading.sequence })) 0 l.program.seqs
