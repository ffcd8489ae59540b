-- The sequences of an architecture, by their number.
use Rattle.std.specs.Prelude.{ℕ, ◌+◌, if◌then◌else◌, List, [], ◌∷◌, length, None, Some}
use Rattle.std.specs.List.{flat_map, range_with_len}
use Rattle.archi_graph.specs.declared.medium.Medium.{Medium}
use Rattle.archi_graph.specs.declared.medium.Seq.{Seq}
use Rattle.archi_graph.specs.Archi.{Architecture, stands_at}

-- The sequence of operator o that runs its operations.
abbrev pub computation : ℕ → Seq
computation o = record { operator = o; medium = None }

-- The sequence of operator o that takes part in the transfers over medium m.
abbrev pub communicator : ℕ → ℕ → Seq
communicator o m = record { operator = o; medium = Some m }

-- the operator's communicators at media that are numbered from this number on
abbrev pub communicators : ℕ → ℕ → List Medium → List Seq
communicators o number [] = []
communicators o number (m ∷ media) =
    if stands_at m o then communicator o number ∷ communicators o (number + 1) media else
    communicators o (number + 1) media

-- an operator's computation sequence, and then its communicators by the number of the medium
abbrev pub sequences_of : List Medium → ℕ → List Seq
sequences_of media o = computation o ∷ communicators o 0 media

-- operator by operator
abbrev pub sequences : Architecture → List Seq
sequences a = flat_map (sequences_of a.media) (range_with_len 0 (length a.operators))
