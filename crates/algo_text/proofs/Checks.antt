-- What a line's checks have found where the line is accepted, and that they find it again.
use Rattle.std.proofs.Common.{◌≡◌, ℕ, ◌+◌, ◌<◌, ◌≤◌, ◌==◌, nat_lt, arith, Bool, not, ◌||◌, true, false, cond, Option, Some, None, Result, Ok, Err, refl, ap, ◌∙◌}
use Rattle.text_lines.specs.Refusals.{with_some, and_then}
use Rattle.algo_text.specs.Refusals.{AlgoRefusal}

pub passed : {A : Type 0} (t : Bool) (e : AlgoRefusal) (x : Result A AlgoRefusal) (r : A) → cond t (Err e) x ≡ Ok r → (t ≡ false) × (x ≡ Ok r)
passed true e x r h = cc
passed false e x r h = (refl, h)

pub held : {A : Type 0} (t : Bool) (e : AlgoRefusal) (x : Result A AlgoRefusal) (r : A) → cond t x (Err e) ≡ Ok r → (t ≡ true) × (x ≡ Ok r)
held true e x r h = (refl, h)
held false e x r h = cc

pub found : {A B : Type 0} (o : Option A) (e : AlgoRefusal) (go : A → Result B AlgoRefusal) (r : B) → with_some o (Err e) go ≡ Ok r → (x : A) × (o ≡ Some x) × (go x ≡ Ok r)
found (Some x) e go r h = (x, refl, h)
found None e go r h = cc

pub read : {A B : Type 0} (o : Result A AlgoRefusal) (go : A → Result B AlgoRefusal) (r : B) → and_then o go ≡ Ok r → (x : A) × (o ≡ Ok x) × (go x ≡ Ok r)
read (Ok x) go r h = (x, refl, h)
read (Err e) go r h = cc

pub either : {A P : Type 0} (t : Bool) (x y : Result A AlgoRefusal) (r : A) → cond t x y ≡ Ok r → (x ≡ Ok r → P) → (y ≡ Ok r → P) → P
either true x y r h f g = f h
either false x y r h f g = g h

pub never : {A P : Type 0} (e : AlgoRefusal) (r : A) → Err e ≡ Ok r → P
never e r h = cc

pub not_false : (p : Bool) → not p ≡ false → p ≡ true
not_false true h = refl
not_false false h = cc

pub equal : (m n : ℕ) → (m == n) ≡ true → m ≡ n
equal m n h = grind arith

pub at_most : (m n : ℕ) → nat_lt m n ≡ false → n ≤ m
at_most m n h = grind arith

-- one more is not above the bound
pub fewer : (m n : ℕ) → nat_lt m (n + 1) ≡ false → n < m
fewer m n h = grind arith

pub neither : (p q : Bool) → (p || q) ≡ false → (p ≡ false) × (q ≡ false)
neither true q h = cc
neither false q h = (refl, h)

abbrev done : {A : Type 0} → A → Result A AlgoRefusal
done x = Ok x

pub same_ok : {A : Type 0} (x y : A) → done x ≡ Ok y → x ≡ y
same_ok x y h = cc

pub passes : {A : Type 0} (t : Bool) (e : AlgoRefusal) (x : Result A AlgoRefusal) (r : A) → t ≡ false → x ≡ Ok r → cond t (Err e) x ≡ Ok r
passes true e x r h g = cc
passes false e x r h g = g

pub holds : {A : Type 0} (t : Bool) (e : AlgoRefusal) (x : Result A AlgoRefusal) (r : A) → t ≡ true → x ≡ Ok r → cond t x (Err e) ≡ Ok r
holds true e x r h g = g
holds false e x r h g = cc

pub finds : {A B : Type 0} (o : Option A) (e : AlgoRefusal) (go : A → Result B AlgoRefusal) (r : B) (x : A) → o ≡ Some x → go x ≡ Ok r → with_some o (Err e) go ≡ Ok r
finds o e go r x h g = ap (λ p. with_some p (Err e) go) h ∙ g

pub reads : {A B : Type 0} (o : Result A AlgoRefusal) (go : A → Result B AlgoRefusal) (r : B) (x : A) → o ≡ Ok x → go x ≡ Ok r → and_then o go ≡ Ok r
reads o go r x h g = ap (λ p. and_then p go) h ∙ g
