-- The places of declared numbers, one declaration after the other.
use Rattle.std.proofs.Common.{
  ◌≡◌,
  ℕ,
  zero,
  suc,
  ◌+◌,
  ◌<◌,
  inl,
  inr,
  Bool,
  true,
  false,
  cond,
  ◌||◌,
  List,
  [],
  ◌∷◌,
  ◌++◌,
  length,
  take,
  drop,
  get_or,
  set,
  Option,
  None,
  Some,
  nat_eq,
  refl,
  sym,
  ap,
  subst,
  ◌∙◌,
  arith,
  add-zero,
  drop-cons,
}
use Rattle.std.specs.Prelude.{is_some, map, nat_le}
use Rattle.std.specs.List.{range_with_len}
use Rattle.std.proofs.lemmas.Bool.{cases_eq, eq-eqb, ne_eqb, leb-true, leb-false}
use Rattle.std.proofs.lemmas.List.{length-set, length-take, get_or-set_same, get_or-set_other, take_more}
use Rattle.executive_program.specs.MicroSteps.{first_of}
use Rattle.macro_code.specs.declared.numbered.Numbered.{Numbered}
use Rattle.macro_code.specs.ReadText.{first_wrong, place_from, place_of}
use Rattle.macro_code.specs.Placed.{ArePlaced, TakesPlace}

-- one more place that is empty
pub empty_more : {X : Type 0} (xs : List (Option X)) → ((n : ℕ) → get_or xs n None ≡ None) → (n : ℕ) → get_or (xs ++ None ∷ []) n None ≡ None
empty_more [] h zero = refl
empty_more [] h (suc n) = refl
empty_more (x ∷ xs) h zero = h 0
empty_more (x ∷ xs) h (suc n) = empty_more xs (λ m. h (suc m)) n

one_first : (b : Bool) (k : ℕ) (x y z : Option ℕ) → x ≡ first_of y z → cond b (Some k) x ≡ first_of (cond b (Some k) y) z
one_first true k x y z h = refl
one_first false k x y z h = h

-- one declaration more
place_from-push : (n k : ℕ) (ds : List Numbered) (d : Numbered) → place_from n k (ds ++ d ∷ []) ≡ first_of (place_from n k ds) (cond (nat_eq d.number n) (Some (k + length ds)) None)
place_from-push n k [] d = ap (λ (i : ℕ). cond (nat_eq d.number n) (Some i) None) (sym (add-zero k))
place_from-push n k (e ∷ ds) d =
    one_first (nat_eq e.number n) k _ _ _
    (place_from-push n (k + 1) ds d ∙ ap (λ (i : ℕ). first_of (place_from n (k + 1) ds) (cond (nat_eq d.number n) (Some i) None)) (let e : k + 1 + length ds ≡ k + suc (length ds) = omega arith in e))

place_of-more : (n : ℕ) (ds : List Numbered) (i : ℕ) (d e : Numbered) → i < length ds → d ≡ get_or ds i e
    → place_of n (take (i + 1) ds) ≡ first_of (place_of n (take i ds)) (cond (nat_eq d.number n) (Some i) None)
place_of-more n ds i d e below is =
    ap (place_of n) (take_more ds i e below ∙ ap (λ (x : Numbered). take i ds ++ x ∷ []) (sym is))
    ∙ place_from-push n 0 (take i ds) d
    ∙ ap (λ (k : ℕ). first_of (place_of n (take i ds)) (cond (nat_eq d.number n) (Some k) None)) (let same : 0 + length (take i ds) ≡ i = omega (arith, length-take i ds) in same)

no_second : (x : Option ℕ) → first_of x None ≡ x
no_second None = refl
no_second (Some k) = refl

-- after a number took its place
pub placed_more : (ds : List Numbered) (i : ℕ) (d e : Numbered) (old new : List (Option ℕ)) (count : ℕ) → i < length ds → d ≡ get_or ds i e
    → ArePlaced old (take i ds) count → TakesPlace true old d.number i new → ArePlaced new (take (i + 1) ds) count
placed_more ds i d e old new count below is so_far t = record {
  many = ap length t.1.1 ∙ length-set old d.number (Some i) ∙ so_far.many;
  each = λ n h. elim (cases_eq n d.number) [
    | inl same ↦
        let here : nat_eq d.number n ≡ true = eq-eqb d.number n (sym same) in
        let inside : n < length old = omega (arith, same, t.0) in
        ap (λ (xs : List (Option ℕ)). get_or xs n None) t.1.1
        ∙ ap (λ (k : ℕ). get_or (set old k (Some i)) n None) (sym same)
        ∙ get_or-set_same old n (Some i) None inside
        ∙ sym (place_of-more n ds i d e below is
        ∙ ap (λ (b : Bool). first_of (place_of n (take i ds)) (cond b (Some i) None)) here
        ∙ ap (λ (x : Option ℕ). first_of x (Some i)) (sym (so_far.each n h) ∙ ap (λ (k : ℕ). get_or old k None) same ∙ t.1.0))
    | inr other ↦
        let there : nat_eq d.number n ≡ false = ne_eqb d.number n (λ same. other (sym same)) in
        ap (λ (xs : List (Option ℕ)). get_or xs n None) t.1.1
        ∙ get_or-set_other old d.number n (Some i) None other
        ∙ so_far.each n h
        ∙ sym (place_of-more n ds i d e below is
        ∙ ap (λ (b : Bool). first_of (place_of n (take i ds)) (cond b (Some i) None)) there
        ∙ no_second (place_of n (take i ds)))
  ];
}

-- a number is wrong where it took no place
same_test : (number count : ℕ) (old : List (Option ℕ)) (before : List Numbered) → ArePlaced old before count
    → (nat_le count number || is_some (place_of number before)) ≡ (nat_le (length old) number || is_some (get_or old number None))
same_test number count old before so_far = by (nat_le count number) refl
  where
    by : (b : Bool) → nat_le count number ≡ b → (nat_le count number || is_some (place_of number before)) ≡ (nat_le (length old) number || is_some (get_or old number None))
    by true h =
        ap (λ (c : Bool). c || is_some (place_of number before)) h
        ∙ sym (ap (λ (c : Bool). c || is_some (get_or old number None)) (ap (λ (k : ℕ). nat_le k number) so_far.many ∙ h))
    by false h =
        let inside : number < count = leb-false count number h in
        ap (λ (c : Bool). c || is_some (place_of number before)) h
        ∙ sym (ap (λ (c : Bool). c || is_some (get_or old number None)) (ap (λ (k : ℕ). nat_le k number) so_far.many ∙ h) ∙ ap is_some (so_far.each number inside))

abbrev wrong_from : ℕ → List Numbered → ℕ → Option ℕ
wrong_from count ds i = first_wrong count (take i ds) (drop i ds)

step : (ds : List Numbered) (i : ℕ) (d e : Numbered) (count : ℕ) → i < length ds → d ≡ get_or ds i e
    → wrong_from count ds i ≡ cond (nat_le count d.number || is_some (place_of d.number (take i ds))) (Some d.line) (wrong_from count ds (i + 1))
step ds i d e count below is =
    let rest : drop i ds ≡ d ∷ drop (i + 1) ds = drop-cons ds i e below ∙ ap (λ (x : Numbered). x ∷ drop (suc i) ds) (sym is)
    ∙ ap (λ (k : ℕ). d ∷ drop k ds) (let same : suc i ≡ i + 1 = omega arith in same) in
    let more : take i ds ++ d ∷ [] ≡ take (i + 1) ds = ap (λ (x : Numbered). take i ds ++ x ∷ []) is ∙ sym (take_more ds i e below) in
    ap (first_wrong count (take i ds)) rest
    ∙ ap (λ (xs : List Numbered). cond (nat_le count d.number || is_some (place_of d.number (take i ds))) (Some d.line) (first_wrong count xs (drop (i + 1) ds))) more

pub wrong_here : (ds : List Numbered) (i : ℕ) (d e : Numbered) (old new : List (Option ℕ)) (count place : ℕ) (all : Option ℕ) → i < length ds → d ≡ get_or ds i e
    → ArePlaced old (take i ds) count → TakesPlace false old d.number place new → wrong_from count ds i ≡ all → all ≡ Some d.line
wrong_here ds i d e old new count place all below is so_far t same =
    sym same ∙ step ds i d e count below is
    ∙ ap (λ (b : Bool). cond b (Some d.line) (wrong_from count ds (i + 1))) (same_test d.number count old (take i ds) so_far ∙ t.1)

pub right_here : (ds : List Numbered) (i : ℕ) (d e : Numbered) (old new : List (Option ℕ)) (count place : ℕ) (all : Option ℕ) → i < length ds → d ≡ get_or ds i e
    → ArePlaced old (take i ds) count → TakesPlace true old d.number place new → wrong_from count ds i ≡ all → wrong_from count ds (i + 1) ≡ all
right_here ds i d e old new count place all below is so_far t same =
    let inside : nat_le (length old) d.number ≡ false = not_le (length old) d.number t.0 in
    let passes : (nat_le (length old) d.number || is_some (get_or old d.number None)) ≡ false = ap (λ (b : Bool). b || is_some (get_or old d.number None)) inside ∙ ap is_some t.1.0 in
    sym (ap (λ (b : Bool). cond b (Some d.line) (wrong_from count ds (i + 1))) (same_test d.number count old (take i ds) so_far ∙ passes)) ∙ sym (step ds i d e count below is) ∙ same
  where
    not_le : (m n : ℕ) → n < m → nat_le m n ≡ false
    not_le m n h = by (nat_le m n) refl
      where
        by : (b : Bool) → nat_le m n ≡ b → nat_le m n ≡ false
        by true e = absurd (omega (arith, leb-true m n e))
        by false e = e

-- by number, what stands at the places of the numbers
pub in_order : {A : Type 0} (f : Option ℕ → A) (ds : List Numbered) (k : ℕ) (places : List (Option ℕ)) → ((i : ℕ) → i < length places → get_or places i None ≡ place_of (k + i) ds)
    → map f places ≡ map (λ n. f (place_of n ds)) (range_with_len k (length places))
in_order f ds k [] each = refl
in_order f ds k (p ∷ places) each =
    let head : p ≡ place_of k ds = each 0 (omega arith) ∙ ap (λ (n : ℕ). place_of n ds) (add-zero k) in
    let tail = in_order f ds (k + 1) places (λ i h. each (suc i) (omega arith) ∙ ap (λ (n : ℕ). place_of n ds) (let e : k + suc i ≡ k + 1 + i = omega arith in e)) in
    ap (λ (x : Option ℕ). f x ∷ map f places) head ∙ ap (λ xs. f (place_of k ds) ∷ xs) tail

pub all_placed : {A : Type 0} (f : Option ℕ → A) (ds : List Numbered) (places : List (Option ℕ)) → ArePlaced places ds (length ds)
    → map f places ≡ map (λ n. f (place_of n ds)) (range_with_len 0 (length ds))
all_placed f ds places p =
    in_order f ds 0 places (λ i h. p.each i (omega (arith, p.many)) ∙ ap (λ (n : ℕ). place_of n ds) (let e : i ≡ 0 + i = omega arith in e))
    ∙ ap (λ (n : ℕ). map (λ m. f (place_of m ds)) (range_with_len 0 n)) p.many

pub took : (r : Bool) (old : List (Option ℕ)) (number place : ℕ) (new : List (Option ℕ)) → r ≡ true → TakesPlace r old number place new → TakesPlace true old number place new
took r old number place new e t = subst (λ (b : Bool). TakesPlace b old number place new) e t
