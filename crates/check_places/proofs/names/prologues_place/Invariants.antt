use Rattle.std.proofs.Common.{◌≡◌, drop}
use Rattle.check_places.specs.First.{first_from}
use Rattle.sequence_build_laws.specs.declared.SeqCode.{SeqCode}
use Rattle.check_places.specs.declared.place.Part.TheVariants.{Prologue}
use Rattle.check_places.specs.Names.{name_place}
use Rattle.check_places.proofs.names.prologues_place.Given as goal

-- what is left gives the first
abbrev pub invariant-loop-sequence : goal.invariant-loop-sequence
invariant-loop-sequence l = first_from
    (λ s (c : SeqCode). first_from (name_place l.program l.known.operations l.known.operators Prologue s) 0 c.prologue) l.sequence
    (drop l.sequence l.program.seqs)
    ≡ first_from (λ s (c : SeqCode). first_from (name_place l.program l.known.operations l.known.operators Prologue s) 0 c.prologue) 0 l.program.seqs
