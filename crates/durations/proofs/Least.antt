-- The least of entries.
use Rattle.std.proofs.Common.{◌≡◌, ℕ, zero, suc, ◌≤◌, ◌<◌, Bool, true, false, List, [], ◌∷◌, length, Option, Some, None, nat_le, refl, sym, ap, ap₂, subst, ◌∙◌, arith}
use Rattle.std.specs.Prelude.{min, is_some, slice_index_or, IfSome}
use Rattle.std.specs.List.{list_any}
use Rattle.std.proofs.lemmas.Bool.{leb-true, leb-false}
use Rattle.durations.specs.Table.{least_of, IsLeast, IsRow}
use Rattle.syn_base.specs.Numbers.{lesser}

pub lesser_of_three : (e f g : Option ℕ) → lesser (lesser e f) g ≡ lesser e (lesser f g)
lesser_of_three None f g = refl
lesser_of_three (Some a) None g = refl
lesser_of_three (Some a) (Some b) None = refl
lesser_of_three (Some a) (Some b) (Some c) = ap (λ (n : ℕ). Some n) (let e : min (min a b) c ≡ min a (min b c) = omega arith in e)

-- where an entry is there, the least one is, and is not above it
pub no_more : (entries : List (Option ℕ)) (k u : ℕ) → k < length entries → slice_index_or entries k (Some u) ≡ Some u → (t : ℕ) × (least_of entries ≡ Some t) × (t ≤ u)
no_more [] k u l h = absurd (omega arith)
no_more (e ∷ entries) zero u l h = by (least_of entries) refl
  where
    by : (f : Option ℕ) → least_of entries ≡ f → (t : ℕ) × (lesser e (least_of entries) ≡ Some t) × (t ≤ u)
    by None g = (u, ap₂ lesser h g, omega arith)
    by (Some s) g = (min u s, ap₂ lesser h g, omega arith)
no_more (e ∷ entries) (suc k) u l h = by e (no_more entries k u (omega arith) h)
  where
    by : (f : Option ℕ) → (t : ℕ) × (least_of entries ≡ Some t) × (t ≤ u) → (t : ℕ) × (lesser f (least_of entries) ≡ Some t) × (t ≤ u)
    by None r = r
    by (Some s) r = (min s r.0, ap (lesser (Some s)) r.1, omega (arith, r.2))

-- the least entry is one
pub among : (entries : List (Option ℕ)) (t : ℕ) → least_of entries ≡ Some t → (k : ℕ) × (k < length entries) × (slice_index_or entries k (Some t) ≡ Some t)
among [] t h = absurd (cc)
among (e ∷ entries) t h = by e (least_of entries) refl h (λ g. among entries t g)
  where
    by : (f g : Option ℕ) → least_of entries ≡ g → lesser f g ≡ Some t → (least_of entries ≡ Some t → (k : ℕ) × (k < length entries) × (slice_index_or entries k (Some t) ≡ Some t))
        → (k : ℕ) × (k < length (f ∷ entries)) × (slice_index_or (f ∷ entries) k (Some t) ≡ Some t)
    by None g is l rest = let r = rest (is ∙ l) in (suc r.0, omega (arith, r.1), r.2)
    by (Some a) None is l rest = (0, omega arith, l)
    by (Some a) (Some b) is l rest = first (nat_le a b) refl
      where
        first : (c : Bool) → nat_le a b ≡ c → (k : ℕ) × (k < length (Some a ∷ entries)) × (slice_index_or (Some a ∷ entries) k (Some t) ≡ Some t)
        first true e = let low = leb-true a b e in let m : min a b ≡ a = omega (arith, low) in (0, omega arith, ap (λ (n : ℕ). Some n) (sym m) ∙ l)
        first false e = let high = leb-false a b e in let m : min a b ≡ b = omega (arith, high) in let r = rest (is ∙ ap (λ (n : ℕ). Some n) (sym m) ∙ l) in (suc r.0, omega (arith, r.1), r.2)

pub is_least : (entries : List (Option ℕ)) (t : ℕ) → least_of entries ≡ Some t → IsLeast entries t
is_least entries t h = (among entries t h, λ u c. let r = no_more entries c.0 u c.1 c.2 in let same : r.0 ≡ t = one r.0 (sym r.1 ∙ h) in omega (arith, same, r.2))
  where
    one : (s : ℕ) → Some s ≡ Some t → s ≡ t
    one s e = cc

-- the least entry of a row is there, and as bounded as all are
pub least_bounded : (operators : ℕ) (entries : List (Option ℕ)) (t : ℕ) → IsRow operators entries → least_of entries ≡ Some t → t ≤ 1000000000
least_bounded operators entries t row h =
    let r = among entries t h in
    subst (λ (e : Option ℕ). IfSome e (λ s. s ≤ 1000000000)) r.2 (row.bounded r.0 (Some t) r.1)

pub never_none : (entries : List (Option ℕ)) → list_any is_some entries ≡ true → least_of entries ≡ None → ⊥
never_none [] some h = cc
never_none (None ∷ entries) some h = never_none entries some h
never_none (Some a ∷ entries) some h = by (least_of entries) h
  where
    by : (f : Option ℕ) → lesser (Some a) f ≡ None → ⊥
    by None e = cc
    by (Some b) e = cc
