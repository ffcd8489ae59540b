use Rattle.std.proofs.Common.{◌≡◌, length, take, drop}
use Rattle.macro_code.specs.ReadText.{first_wrong, misnumbered}
use Rattle.macro_code.specs.Placed.{ArePlaced}
use Rattle.macro_code.proofs.places.places_of.Given as goal

abbrev pub invariant-loop-place : goal.invariant-loop-place
invariant-loop-place l = record {
  placed : ArePlaced l.places.items (take l.place l.declared) (length l.declared);
  right : first_wrong (length l.declared) (take l.place l.declared) (drop l.place l.declared) ≡ misnumbered l.declared;
}
