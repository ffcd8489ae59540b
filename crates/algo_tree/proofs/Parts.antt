-- The parts of a level are distinct, segment by segment.
use Rattle.std.proofs.Common.{List, [], ◌∷◌, ◌++◌}
use Rattle.level_meaning.specs.declared.part.Part.{Part}
use Rattle.level_meaning.specs.Level.{Node}
use Rattle.level_meaning.specs.Parts.{IsApart, HasDistinctParts}

pub apart-append : (p : Part) (xs ys : List Node) → IsApart p xs → IsApart p ys → IsApart p (xs ++ ys)
apart-append p [] ys h k = k
apart-append p (x ∷ xs) ys h k = (h.0, apart-append p xs ys h.1 k)

abbrev pub AllApart : List Node → List Node → Type 0
AllApart [] ys = Unit {0}
AllApart (x ∷ xs) ys = IsApart x.part ys × AllApart xs ys

pub distinct-append : (xs ys : List Node) → HasDistinctParts xs → HasDistinctParts ys → AllApart xs ys → HasDistinctParts (xs ++ ys)
distinct-append [] ys h k a = k
distinct-append (x ∷ xs) ys h k a = (apart-append x.part xs ys h.0 a.0, distinct-append xs ys h.1 k a.1)
