-- What the durations of every accepted text keep.
use Rattle.std.specs.Prelude.{◌≡◌, length, Ok}
use Rattle.syn_base.specs.Bytes.{Bytes}
use Rattle.archi_defs.specs.Text.{Described, description_of}
use Rattle.durations.specs.Lines.{AreDurations}

-- each duration of an accepted text is for one of its operators, and is bounded
abbrev pub AcceptedAreDurations : Type 0
AcceptedAreDurations = (text : Bytes) (d : Described) → description_of text ≡ Ok d
    → AreDurations (length d.archi.operators) d.durations
