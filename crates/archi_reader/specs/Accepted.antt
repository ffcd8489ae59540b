-- What an accepted text describes.
use Rattle.std.specs.Prelude.{◌≡◌, IsTrue, Ok}
use Rattle.syn_base.specs.Bytes.{Bytes}
use Rattle.archi_defs.specs.Archi.{is_archi, is_depth}
use Rattle.archi_defs.specs.Text.{Described, description_of}

-- a described architecture is one
abbrev pub DescribedAreArchitectures : Type 0
DescribedAreArchitectures = (text : Bytes) (d : Described) → description_of text ≡ Ok d
    → IsTrue (is_archi d.archi.operators d.archi.media) × IsTrue (is_depth d.archi.depth)
