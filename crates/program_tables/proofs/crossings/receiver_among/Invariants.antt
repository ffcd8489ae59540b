use Rattle.std.proofs.Common.{◌≡◌, drop, length}
use Rattle.program_tables.specs.Crossings.{first_where, receives_in}
use Rattle.program_tables.proofs.crossings.receiver_among.Given as goal

abbrev pub invariant-loop-mark : goal.invariant-loop-mark
invariant-loop-mark l = first_where (length l.program.seqs) (receives_in l.program l.number) (drop l.mark-index l.communicators)
    ≡ first_where (length l.program.seqs) (receives_in l.program l.number) l.communicators
