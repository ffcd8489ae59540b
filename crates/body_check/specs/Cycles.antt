-- The names of references by flags beside them.
use Rattle.std.specs.Prelude.{Bool, List, [], ◌∷◌, if◌then◌else◌}
use Rattle.syn_base.specs.Bytes.{Bytes}
use Rattle.algo_rules.specs.declared.Reference.{Reference}

-- The names of those that are flagged, in order.
abbrev pub flagged : List Bool → List Reference → List Bytes
flagged fs [] = []
flagged [] (r ∷ rs) = []
flagged (f ∷ fs) (r ∷ rs) = if f then r.name ∷ flagged fs rs else flagged fs rs
