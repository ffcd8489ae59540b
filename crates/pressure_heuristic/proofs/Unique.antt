-- An architecture has one table of least routes.
use Rattle.std.proofs.Common.{◌≡◌, ℕ, zero, suc, ◌+◌, ◌-◌, ◌*◌, ◌<◌, Bool, true, false, ◌&&◌, ◌||◌, ◌==◌, List, [], ◌∷◌, length, refl, sym, ap, subst, arith, ◌∙◌, inl, inr}
use Rattle.std.specs.Prelude.{nat_lt, slice_index_or}
use Rattle.std.proofs.lemmas.Bool.{false≢true, or_parts, ltb-false, eq-eqb, cases_lt}
use Rattle.route_table.specs.Least.{comes_before, are_equal, media_of, operators_of, is_less}
use Rattle.route_table.specs.Table.{RouteTable, route_in, IsTableOf}
use Rattle.schedule.specs.declared.Hop.{Hop}
use Rattle.schedule.specs.Archi.{Architecture}

after_and : (e x : Bool) → e ≡ true → (e && x) ≡ false → x ≡ false
after_and true x h k = k
after_and false x h k = absurd (false≢true h)

-- two lists of which neither comes first are one
neither : (xs ys : List ℕ) → comes_before xs ys ≡ false → comes_before ys xs ≡ false → xs ≡ ys
neither [] [] h k = refl
neither [] (y ∷ ys) h k = absurd (false≢true (sym h))
neither (x ∷ xs) [] h k = absurd (false≢true (sym k))
neither (x ∷ xs) (y ∷ ys) h k =
    let a = or_parts (nat_lt x y) ((x == y) && comes_before xs ys) h in
    let b = or_parts (nat_lt y x) ((y == x) && comes_before ys xs) k in
    let l = ltb-false x y a.0 in
    let m = ltb-false y x b.0 in
    let same : x ≡ y = omega arith in
    let rest = neither xs ys (after_and (x == y) (comes_before xs ys) (eq-eqb x y same) a.1) (after_and (y == x) (comes_before ys xs) (eq-eqb y x (sym same)) b.1) in
    λ i. same i ∷ rest i

equal_self : (xs ys : List ℕ) → xs ≡ ys → are_equal xs ys ≡ true
equal_self xs ys e = subst (λ (zs : List ℕ). are_equal xs zs ≡ true) e (self xs)
  where
    self : (xs : List ℕ) → are_equal xs xs ≡ true
    self [] = refl
    self (x ∷ xs) = (λ i. eq-eqb x x refl i && are_equal xs xs) ∙ self xs

hops_same : (a b : List Hop) → media_of a ≡ media_of b → operators_of a ≡ operators_of b → a ≡ b
hops_same [] [] m o = refl
hops_same [] (h ∷ b) m o = absurd cc
hops_same (h ∷ a) [] m o = absurd cc
hops_same (h ∷ a) (g ∷ b) m o =
    let first : h.medium ≡ g.medium = cc in
    let to : h.to ≡ g.to = cc in
    let ms : media_of a ≡ media_of b = cc in
    let os : operators_of a ≡ operators_of b = cc in
    let rest = hops_same a b ms os in
    λ i. record { medium = first i; to = to i } ∷ rest i

same_route : (a b : List Hop) → is_less a b ≡ false → is_less b a ≡ false → a ≡ b
same_route a b h k =
    let p = or_parts (nat_lt (length a) (length b))
    ((length a == length b) && (comes_before (media_of a) (media_of b)
    || (are_equal (media_of a) (media_of b) && comes_before (operators_of a) (operators_of b)))) h in
    let q = or_parts (nat_lt (length b) (length a))
    ((length b == length a) && (comes_before (media_of b) (media_of a)
    || (are_equal (media_of b) (media_of a) && comes_before (operators_of b) (operators_of a)))) k in
    let l = ltb-false (length a) (length b) p.0 in
    let m = ltb-false (length b) (length a) q.0 in
    let same : length a ≡ length b = omega arith in
    let u = or_parts (comes_before (media_of a) (media_of b)) (are_equal (media_of a) (media_of b) && comes_before (operators_of a) (operators_of b))
    (after_and (length a == length b)
    (comes_before (media_of a) (media_of b) || (are_equal (media_of a) (media_of b) && comes_before (operators_of a) (operators_of b)))
    (eq-eqb (length a) (length b) same) p.1) in
    let v = or_parts (comes_before (media_of b) (media_of a)) (are_equal (media_of b) (media_of a) && comes_before (operators_of b) (operators_of a))
    (after_and (length b == length a)
    (comes_before (media_of b) (media_of a) || (are_equal (media_of b) (media_of a) && comes_before (operators_of b) (operators_of a)))
    (eq-eqb (length b) (length a) (sym same)) q.1) in
    let media = neither (media_of a) (media_of b) u.0 v.0 in
    let ops = neither (operators_of a) (operators_of b)
    (after_and (are_equal (media_of a) (media_of b)) (comes_before (operators_of a) (operators_of b)) (equal_self (media_of a) (media_of b) media) u.1)
    (after_and (are_equal (media_of b) (media_of a)) (comes_before (operators_of b) (operators_of a)) (equal_self (media_of b) (media_of a) (sym media)) v.1) in
    hops_same a b media ops

-- each place of a table of rows is in a row
place_in_rows : (n rows i : ℕ) → i < rows * n → (from : ℕ) × (to : ℕ) × (from < rows) × (to < n) × (i ≡ from * n + to)
place_in_rows n zero i l = absurd (omega (arith, no_rows n))
  where
    no_rows : (n : ℕ) → 0 * n ≡ 0
    no_rows n = grind arith
place_in_rows n (suc rows) i l = elim (cases_lt i n) [
  | inl low ↦ (0, i, (omega arith), low, (let e : 0 * n ≡ 0 = grind arith in omega arith))
  | inr far ↦
      let e : suc rows * n ≡ rows * n + n = grind arith in
      let less : i - n < rows * n = omega arith in
      let r = place_in_rows n rows (i - n) less in
      let row = r.2 in
      let is = r.4 in
      let more : suc r.0 * n ≡ r.0 * n + n = grind arith in
      (suc r.0, r.1, (omega arith), r.3, (omega arith))
]

lists_same : (xs ys : List (List Hop)) → length xs ≡ length ys → ((i : ℕ) → i < length xs → slice_index_or xs i [] ≡ slice_index_or ys i []) → xs ≡ ys
lists_same [] [] e h = refl
lists_same [] (y ∷ ys) e h = absurd (omega arith)
lists_same (x ∷ xs) [] e h = absurd (omega arith)
lists_same (x ∷ xs) (y ∷ ys) e h =
    let first = h 0 (omega arith) in
    let rest = lists_same xs ys (omega arith) (λ i l. h (suc i) (omega arith)) in
    λ i. first i ∷ rest i

pub one_table : (a : Architecture) (r s : RouteTable) → IsTableOf a r → IsTableOf a s → r ≡ s
one_table a r s x y =
    let ops : r.operators ≡ s.operators = x.operators ∙ sym y.operators in
    let rows = lists_same r.routes s.routes (x.there ∙ (λ i. ops i * ops i) ∙ sym y.there) (λ i l. each ops i (place_in_rows r.operators r.operators i (let e = x.there in omega arith))) in
    λ i. record { operators = ops i; routes = rows i }
  where
    each : r.operators ≡ s.operators → (i : ℕ) → (from : ℕ) × (to : ℕ) × (from < r.operators) × (to < r.operators)
        × (i ≡ from * r.operators + to) → slice_index_or r.routes i [] ≡ slice_index_or s.routes i []
    each ops i p =
        let f = p.2 in
        let t = p.3 in
        let one = x.least p.0 p.1 p.2 p.3 in
        let other = y.least p.0 p.1 (omega arith) (omega arith) in
        ap (λ (k : ℕ). slice_index_or r.routes k []) p.4
        ∙ same_route (route_in r p.0 p.1) (route_in s p.0 p.1) (other.least (route_in r p.0 p.1) one.route) (one.least (route_in s p.0 p.1) other.route)
        ∙ (λ j. slice_index_or s.routes (p.0 * sym ops j + p.1) [])
        ∙ ap (λ (k : ℕ). slice_index_or s.routes k []) (sym p.4)
