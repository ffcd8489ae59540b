use Rattle.std.proofs.Common.{◌≡◌, drop}
use Rattle.check_places.specs.First.{first_from}
use Rattle.sequence_build_laws.specs.declared.SeqCode.{SeqCode}
use Rattle.check_places.specs.Pairs.{pairs_signalled, signal_place}
use Rattle.check_places.proofs.prologues.prologue_place.Given as goal

-- what is left gives the first
abbrev pub invariant-loop-sequence : goal.invariant-loop-sequence
invariant-loop-sequence l = first_from (λ s (c : SeqCode). signal_place s 0 c.prologue (pairs_signalled l.program s)) l.sequence
    (drop l.sequence l.program.seqs) ≡ first_from (λ s (c : SeqCode). signal_place s 0 c.prologue (pairs_signalled l.program s)) 0 l.program.seqs
