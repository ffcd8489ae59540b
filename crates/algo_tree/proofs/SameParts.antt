-- Parts that are the same.
use Rattle.std.proofs.Common.{◌≡◌, ℕ, List, [], ◌∷◌, true, refl, ap, eq-eqb}
use Rattle.std.proofs.lemmas.Bool.{false≢true, eqb-true}
use Rattle.std.proofs.lemmas.Slice.Eq.{bytes_eq-Decides}
use Rattle.std.specs.Str.{bytes_eq}
use Rattle.level_meaning.specs.declared.part.Part.{Part}
use Rattle.level_meaning.specs.declared.part.Part.TheVariants.{Named, Numbered, Port}
use Rattle.level_meaning.specs.Level.{same_part}

same_bytes : (xs ys : List ℕ) → bytes_eq xs ys ≡ true → xs ≡ ys
same_bytes xs ys h = (bytes_eq-Decides xs ys).0 h

bytes_itself : (xs : List ℕ) → bytes_eq xs xs ≡ true
bytes_itself [] = refl
bytes_itself (x ∷ xs) = rw (eq-eqb x x refl) (bytes_itself xs)

pub same_itself : (p : Part) → same_part p p ≡ true
same_itself (Named x) = bytes_itself x
same_itself (Numbered n) = eq-eqb n n refl
same_itself (Port x) = bytes_itself x

pub same_means : (p q : Part) → same_part p q ≡ true → p ≡ q
same_means (Named x) (Named y) h = ap Named (same_bytes x y h)
same_means (Named x) (Numbered n) h = absurd (false≢true h)
same_means (Named x) (Port y) h = absurd (false≢true h)
same_means (Numbered m) (Named y) h = absurd (false≢true h)
same_means (Numbered m) (Numbered n) h = ap Numbered (eqb-true m n h)
same_means (Numbered m) (Port y) h = absurd (false≢true h)
same_means (Port x) (Named y) h = absurd (false≢true h)
same_means (Port x) (Numbered n) h = absurd (false≢true h)
same_means (Port x) (Port y) h = ap Port (same_bytes x y h)
