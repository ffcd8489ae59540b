-- The first operator that no route reaches.
use Rattle.std.proofs.Common.{◌≡◌, ℕ, zero, suc, ◌+◌, ◌<◌, ◌≤◌, Bool, not, false, List, [], ◌∷◌, length, take, map, position, refl, ap, ap₂, subst, ◌∙◌, arith, add-zero}
use Rattle.std.specs.Prelude.{slice_index_or}
use Rattle.std.specs.List.{range_with_len}
use Rattle.archi_defs.specs.declared.Medium.{Medium}
use Rattle.archi_defs.specs.Archi.{reached_within}
use Rattle.archi_reader.proofs.Named.{position-map}

-- flags that agree with a test below n
flags_are : (f : ℕ → Bool) (flags : List Bool) (a n : ℕ) → n ≤ length flags → ((o : ℕ) → o < n → slice_index_or flags o false ≡ f (a + o))
    → take n flags ≡ map f (range_with_len a n)
flags_are f flags a zero h same = refl
flags_are f [] a (suc n) h same = absurd (omega arith)
flags_are f (x ∷ flags) a (suc n) h same =
    ap₂ (λ (b : Bool) (bs : List Bool). b ∷ bs)
    (subst (λ (k : ℕ). x ≡ f k) (add-zero a) (same 0 (omega arith)))
    (flags_are f flags (a + 1) n (omega arith) (λ o l.
    subst (λ (k : ℕ). slice_index_or flags o false ≡ f k) (let e : a + suc o ≡ a + 1 + o = omega arith in e) (same (suc o) (omega arith))))

pub apart_place : (operators : ℕ) (media : List Medium) (flags : List Bool) → operators ≤ 16 → operators ≤ length flags
    → ((o : ℕ) → o < 16 → slice_index_or flags o false ≡ reached_within media operators o)
    → position (λ is_set. not is_set) (take operators flags) ≡ position (λ o. not (reached_within media operators o)) (range_with_len 0 operators)
apart_place operators media flags few long same =
    ap (λ (bs : List Bool). position (λ is_set. not is_set) bs) (flags_are (reached_within media operators) flags 0 operators long (λ o l.
    subst (λ (k : ℕ). slice_index_or flags o false ≡ reached_within media operators k) (let e : o ≡ 0 + o = omega arith in e) (same o (omega arith))))
    ∙ position-map (reached_within media operators) (λ is_set. not is_set) (range_with_len 0 operators)
