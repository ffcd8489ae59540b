-- Numbers in lists, and which buffers an instruction reads.
use Rattle.std.proofs.Common.{◌≡◌, ℕ, Bool, true, false, ◌||◌, nat_eq, refl, sym, ap, subst, eq-eqb, ◌⊎◌, inl, inr}
use Rattle.std.specs.Prelude.{Option, Some, None}
use Rattle.std.proofs.lemmas.Bool.{false≢true, eqb-true}
use Rattle.program_walks.specs.Walks.{names}

pub or_left : (a b : Bool) → a ≡ true → (a || b) ≡ true
or_left true b h = refl
or_left false b h = absurd (false≢true h)

pub or_right : (a b : Bool) → b ≡ true → (a || b) ≡ true
or_right true b h = refl
or_right false b h = h

pub or_cases : (a b : Bool) → (a || b) ≡ true → (a ≡ true) ⊎ (b ≡ true)
or_cases true b h = inl refl
or_cases false b h = inr h

pub same_numbers : (b : ℕ) → nat_eq b b ≡ true
same_numbers b = eq-eqb b b refl

pub entry_is : (o : Option ℕ) (b : ℕ) → names o b ≡ true → o ≡ Some b
entry_is None b h = absurd (false≢true h)
entry_is (Some c) b h = ap (λ (n : ℕ). Some n) (eqb-true c b h)

pub is_entry : (o : Option ℕ) (b : ℕ) → o ≡ Some b → names o b ≡ true
is_entry o b e = subst (λ (o : Option ℕ). names o b ≡ true) (sym e) (same_numbers b)
