-- How clap sees a word, by the table's tests.
use Rattle.std.proofs.Common.{◌≡◌, ◌∙◌, ℕ, List, [], ◌∷◌, Bool, true, false, Option, Some, None, inl, inr, ◌⊎◌, refl, sym, arith, encode_utf8_all, lit<}
use Rattle.std.proofs.lemmas.Bool.Decides.{nat_tests}
use Rattle.std.specs.Prelude.{◌==◌}
use Rattle.std.specs.Str.{chars, IsUtf8}
use Rattle.std.proofs.lemmas.Str.{IsUtf8-drop, IsCharBoundary-after_ascii, encodes-chars}
use Rattle.clap.specs.Lexer.{long_of, short_of, name_and_value}
use Rattle.command_words.proofs.PlainWords.{Text, is_escape, is_dashed}

pub two_ways : (b : Bool) → (b ≡ true) ⊎ (b ≡ false)
two_ways true = inl refl
two_ways false = inr refl

pub plain_long : (w : Text) → is_dashed w ≡ false → long_of w ≡ None
plain_long [] h = refl
plain_long (x ∷ []) h = elim (two_ways (x == 45)) [ inl e ↦ rw e refl | inr e ↦ rw e refl ]
plain_long (x ∷ y ∷ rest) h = rw h refl

pub plain_short : (w : Text) → is_dashed w ≡ false → short_of w ≡ None
plain_short [] h = refl
plain_short (x ∷ []) h = elim (two_ways (x == 45)) [ inl e ↦ rw e refl | inr e ↦ rw e refl ]
plain_short (x ∷ y ∷ rest) h = rw h refl

-- a dashed word is long, or short with something after the hyphen
pub data Dashed (w : Text) : Type 0 where
  long : (p : Text × Option Text) → long_of w ≡ Some p → Dashed w
  short : (x : ℕ) (rest : Text) → w ≡ 45 ∷ x ∷ rest → long_of w ≡ None → short_of w ≡ Some (x ∷ rest) → Dashed w

dashed_two : (x y : ℕ) (rest : Text) → is_escape (x ∷ y ∷ rest) ≡ false → (x == 45) ≡ true → (y == 45) ≡ true → Dashed (x ∷ y ∷ rest)
dashed_two x y [] e h k = let t : is_escape (x ∷ y ∷ []) ≡ true = rw (h, k) refl in let bad : true ≡ false = sym t ∙ e in cc
dashed_two x y (z ∷ zs) e h k = long (name_and_value (z ∷ zs)) (rw (h, k) refl)

pub dashed_looks : (w : Text) → is_escape w ≡ false → is_dashed w ≡ true → Dashed w
dashed_looks [] e h = cc
dashed_looks (x ∷ []) e h = cc
dashed_looks (x ∷ y ∷ rest) e h =
    elim (two_ways (y == 45)) [
      | inl k ↦ dashed_two x y rest e h k
      | inr k ↦ short y rest (let s : x ≡ 45 = grind (arith, nat_tests, h) in rw s refl) (rw (h, k) refl) (rw (h, k) refl)
    ]

some_chars : (cs : List ℕ) (x : ℕ) (rest : Text) → encode_utf8_all cs ≡ x ∷ rest → (d : ℕ) × (ds : List ℕ) × (cs ≡ d ∷ ds)
some_chars [] x rest e = cc
some_chars (d ∷ ds) x rest e = (d, ds, refl)

-- text after a hyphen has a first character
pub first_char : (x : ℕ) (rest : Text) → IsUtf8 (45 ∷ x ∷ rest) → (c : ℕ) × (cs : List ℕ) × (chars (x ∷ rest) ≡ c ∷ cs)
first_char x rest u =
    let v : IsUtf8 (x ∷ rest) = IsUtf8-drop (45 ∷ x ∷ rest) 1 u (IsCharBoundary-after_ascii (45 ∷ x ∷ rest) 0 u (omega arith) (lit< tt)) in
    some_chars (chars (x ∷ rest)) x rest (encodes-chars (x ∷ rest) v)
