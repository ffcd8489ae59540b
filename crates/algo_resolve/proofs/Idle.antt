-- A definition stands for no operation if it adds none and those that it names stand for none.
use Rattle.std.proofs.Common.{◌≡◌, ℕ, zero, suc, ◌+◌, ◌*◌, ◌≤◌, ◌==◌, Bool, true, false, ◌&&◌, List, [], ◌∷◌, ◌++◌, length, map, refl, sym, ap, ap₂, ◌∙◌, arith, mul-zero}
use Rattle.std.proofs.lemmas.Bool.{eqb-false, eqb-true, ne_eqb}
use Rattle.std.specs.List.{sum_by, list_all}
use Rattle.std.proofs.lemmas.List.Sums.{sum_by-cons}
use Rattle.std.proofs.lemmas.List.Folds.{list_all-append, list_all-map}
use Rattle.syn_base.specs.Bytes.{Bytes}
use Rattle.algo_check.specs.Linked.{named}
use Rattle.algo_laws.specs.declared.Body.{Body}
use Rattle.algo_laws.specs.declared.Body.TheVariants.{Sensor, Actuator, Constant, Delay, Function, Graph, Switch, Repeat}
use Rattle.algo_laws.specs.declared.Case.{Case}
use Rattle.algo_laws.specs.declared.Reference.{Reference}
use Rattle.algo_laws.specs.Resolved.{count_by, vertices_of_line}
use Rattle.algo_laws.specs.WellRead.{IsWellRead}
use Rattle.algo_resolve.specs.Rounds.{adds_none, is_empty}

same-number : (a b : ℕ) → a ≡ b → (a == b) ≡ true
same-number a b h = by (a == b) refl
  where
    by : (c : Bool) → (a == b) ≡ c → c ≡ true
    by true e = refl
    by false e = absurd (eqb-false a b e h)

none-of-both : (m n : ℕ) → (m + n == 0) ≡ ((m == 0) && (n == 0))
none-of-both m n = by (m == 0) refl (n == 0) refl
  where
    by : (a : Bool) → (m == 0) ≡ a → (b : Bool) → (n == 0) ≡ b → (m + n == 0) ≡ (a && b)
    by true e true f = same-number (m + n) 0 (let g = eqb-true m 0 e in let h = eqb-true n 0 f in omega (arith, g, h))
    by true e false f = ne_eqb (m + n) 0 (λ h. eqb-false n 0 f (omega (arith, h)))
    by false e b f = ne_eqb (m + n) 0 (λ h. eqb-false m 0 e (omega (arith, h)))

some-copied : (n m : ℕ) → 1 ≤ n → 1 ≤ m → 1 ≤ n * m
some-copied zero m some more = absurd (omega (arith, some))
some-copied (suc n) zero some more = absurd (omega (arith, more))
some-copied (suc zero) (suc m) some more = omega arith
some-copied (suc (suc n)) (suc m) some more = let k = some-copied (suc n) (suc m) (omega arith) more in omega (arith, k)

none-copied : (n m : ℕ) → 1 ≤ n → (n * m == 0) ≡ (m == 0)
none-copied n m some = by (m == 0) refl
  where
    more : (m == 0) ≡ false → 1 ≤ m
    more e = by-number m (eqb-false m 0 e)
      where
        by-number : (k : ℕ) → (k ≡ 0 → ⊥) → 1 ≤ k
        by-number zero not = absurd (not refl)
        by-number (suc k) not = omega arith

    by : (b : Bool) → (m == 0) ≡ b → (n * m == 0) ≡ b
    by true e = same-number (n * m) 0 (ap (λ k. n * k) (eqb-true m 0 e) ∙ mul-zero n)
    by false e = ne_eqb (n * m) 0 (λ h. let one = some-copied n m some (more e) in omega (arith, one, h))

none-in-all : {A : Type 0} (f : A → ℕ) (xs : List A) → (sum_by f xs == 0) ≡ list_all (λ x. f x == 0) xs
none-in-all f [] = refl
none-in-all f (x ∷ xs) = ap (λ n. n == 0) (sum_by-cons f x xs) ∙ none-of-both (f x) (sum_by f xs) ∙ ap (λ b. (f x == 0) && b) (none-in-all f xs)

none-named : {A : Type 0} (of : Bytes → ℕ) (f : A → Bytes) (xs : List A) → (sum_by (λ x. of (f x)) xs == 0) ≡ list_all (λ w. of w == 0) (map f xs)
none-named of f xs = none-in-all (λ x. of (f x)) xs ∙ sym (list_all-map (λ w. of w == 0) f xs)

no-output : {A : Type 0} (xs : List A) → (length xs == 0) ≡ is_empty xs
no-output [] = refl
no-output (x ∷ xs) = ne_eqb (suc (length xs)) 0 (λ h. omega (arith, h))

swapped : (a b : Bool) → (a && b) ≡ (b && a)
swapped true true = refl
swapped true false = refl
swapped false true = refl
swapped false false = refl

last : (a b : Bool) → (a && b) ≡ (a && (b && true))
last true true = refl
last true false = refl
last false b = refl

pub none-stands : (of : Bytes → ℕ) (b : Body) → IsWellRead b → (count_by of b == 0) ≡ (adds_none b && list_all (λ w. of w == 0) (named b))
none-stands of (Sensor n) h = refl
none-stands of (Actuator n) h = refl
none-stands of (Constant values) h = refl
none-stands of (Delay depth values) h = ne_eqb (2 * depth) 0 (λ e. omega (arith, e, h.some))
none-stands of (Function ins outs) h = refl
none-stands of (Graph ins outs references edges) h = none-named of (λ r. r.def) references
none-stands of (Switch on ins outs cases otherwise last-line) h =
    none-of-both (sum_by (λ c. of c.def) cases + of otherwise) (length outs)
    ∙ ap₂ (λ (x y : Bool). x && y) (none-of-both (sum_by (λ c. of c.def) cases) (of otherwise)) (no-output outs)
    ∙ swapped ((sum_by (λ c. of c.def) cases == 0) && (of otherwise == 0)) (is_empty outs)
    ∙ ap (λ (x : Bool). is_empty outs && x)
    (ap (λ (x : Bool). x && (of otherwise == 0)) (none-named of (λ (c : Case). c.def) cases)
    ∙ last (list_all (λ w. of w == 0) (map (λ (c : Case). c.def) cases)) (of otherwise == 0)
    ∙ sym (list_all-append (λ w. of w == 0) (map (λ (c : Case). c.def) cases) (otherwise ∷ [])))
none-stands of (Repeat copies def lines) h =
    none-of-both (copies * of def) (sum_by vertices_of_line lines)
    ∙ ap (λ (x : Bool). x && (sum_by vertices_of_line lines == 0)) (none-copied copies (of def) h.some)
    ∙ swapped (of def == 0) (sum_by vertices_of_line lines == 0)
    ∙ last (sum_by vertices_of_line lines == 0) (of def == 0)
