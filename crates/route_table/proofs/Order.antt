-- Which of two routes is less: a strict order, in which not to be less goes on from route to route.
use Rattle.std.proofs.Common.{◌≡◌, ℕ, suc, ◌<◌, ◌≤◌, ◌≢◌, Bool, true, false, ◌&&◌, ◌||◌, ◌==◌, List, [], ◌∷◌, ◌++◌, length, refl, sym, ap, ◌∙◌, arith}
use Rattle.std.specs.Prelude.{nat_lt}
use Rattle.std.proofs.lemmas.Bool.{eqb-true}
use Rattle.std.proofs.lemmas.Bool.Decides.{nat_tests}
use Rattle.std.proofs.lemmas.List.{length-map}
use Rattle.archi_graph.specs.declared.medium.Hop.{Hop}
use Rattle.route_table.specs.Least.{are_equal, comes_before, is_less, media_of, operators_of}

-- the first numbers decide, or else what is answered of the others
abbrev pub first_or : ℕ → ℕ → Bool → Bool
first_or x y b = nat_lt x y || ((x == y) && b)

first_not : (x y z : ℕ) (a b c : Bool) → first_or x y a ≡ false → first_or y z b ≡ false → (a ≡ false → b ≡ false → c ≡ false) → first_or x z c ≡ false
first_not x y z false false c h k next = let e = next refl refl in grind (arith, nat_tests)
first_not x y z true b c h k next = grind (arith, nat_tests)
first_not x y z false true c h k next = grind (arith, nat_tests)

first_turned : (x y : ℕ) (a b : Bool) → first_or x y a ≡ true → (a ≡ true → b ≡ false) → first_or y x b ≡ false
first_turned x y true b h next = let e = next refl in grind (arith, nat_tests)
first_turned x y false b h next = grind (arith, nat_tests)

pub not_before : (xs ys zs : List ℕ) → comes_before xs ys ≡ false → comes_before ys zs ≡ false → comes_before xs zs ≡ false
not_before [] ys [] h k = refl
not_before (x ∷ xs) ys [] h k = refl
not_before [] [] (z ∷ zs) h k = absurd (cc)
not_before [] (y ∷ ys) (z ∷ zs) h k = absurd (cc)
not_before (x ∷ xs) [] (z ∷ zs) h k = absurd (cc)
not_before (x ∷ xs) (y ∷ ys) (z ∷ zs) h k = first_not x y z (comes_before xs ys) (comes_before ys zs) (comes_before xs zs) h k (not_before xs ys zs)

pub not_after : (xs ys : List ℕ) → comes_before xs ys ≡ true → comes_before ys xs ≡ false
not_after [] [] h = refl
not_after [] (y ∷ ys) h = refl
not_after (x ∷ xs) [] h = absurd (cc)
not_after (x ∷ xs) (y ∷ ys) h = first_turned x y (comes_before xs ys) (comes_before ys xs) h (not_after xs ys)

spread : (l e b q c : Bool) → (l || (e && (b || (q && c)))) ≡ ((l || (e && b)) || ((e && q) && c))
spread true e b q c = refl
spread false true b q c = refl
spread false false b q c = refl

-- of lists of one length, each with more after it, the first ones decide, or else what is after them
before_both : (xs ys us vs : List ℕ) → length xs ≡ length ys → comes_before (xs ++ us) (ys ++ vs) ≡ (comes_before xs ys || (are_equal xs ys && comes_before us vs))
before_both [] [] us vs e = refl
before_both [] (y ∷ ys) us vs e = absurd (omega arith)
before_both (x ∷ xs) [] us vs e = absurd (omega arith)
before_both (x ∷ xs) (y ∷ ys) us vs e =
    ap (first_or x y) (before_both xs ys us vs (omega arith))
    ∙ spread (nat_lt x y) (x == y) (comes_before xs ys) (are_equal xs ys) (comes_before us vs)

-- a route as one list: how many hops it has, then all media, then all operators
abbrev key : List Hop → List ℕ
key r = length r ∷ (media_of r ++ operators_of r)

under : (e x y : Bool) → (e ≡ true → x ≡ y) → (e && x) ≡ (e && y)
under true x y h = h refl
under false x y h = refl

less_by_key : (a b : List Hop) → is_less a b ≡ comes_before (key a) (key b)
less_by_key a b =
    ap (λ x. nat_lt (length a) (length b) || x) (under (length a == length b) _ _ (λ e.
    sym (before_both (media_of a) (media_of b) (operators_of a) (operators_of b)
    (length-map a (λ h. h.medium) ∙ eqb-true (length a) (length b) e ∙ sym (length-map b (λ h. h.medium))))))

pub less_not : (a b c : List Hop) → is_less a b ≡ false → is_less b c ≡ false → is_less a c ≡ false
less_not a b c h k = less_by_key a c ∙ not_before (key a) (key b) (key c) (sym (less_by_key a b) ∙ h) (sym (less_by_key b c) ∙ k)

pub less_turned : (a b : List Hop) → is_less a b ≡ true → is_less b a ≡ false
less_turned a b h = less_by_key b a ∙ not_after (key a) (key b) (sym (less_by_key a b) ∙ h)

pub less_self : (a : List Hop) → is_less a a ≡ false
less_self a = by (is_less a a) refl
  where
    by : (x : Bool) → is_less a a ≡ x → is_less a a ≡ false
    by true e = less_turned a a e
    by false e = e

-- the same hop before both changes nothing
same_first : (a b m o : ℕ) (x q y : Bool)
    → (nat_lt (suc a) (suc b) || ((suc a == suc b) && ((nat_lt m m || ((m == m) && x)) || (((m == m) && q) && (nat_lt o o || ((o == o) && y))))))
    ≡ (nat_lt a b || ((a == b) && (x || (q && y))))
same_first a b m o x q y = grind (arith, nat_tests)

pub less_after : (h : Hop) (r s : List Hop) → is_less (h ∷ r) (h ∷ s) ≡ is_less r s
less_after h r s =
    same_first (length r) (length s) h.medium h.to (comes_before (media_of r) (media_of s)) (are_equal (media_of r) (media_of s)) (comes_before (operators_of r) (operators_of s))

not_of_longer : (m n : ℕ) (x : Bool) → n < m → first_or m n x ≡ false
not_of_longer m n x l = grind (arith, nat_tests)

pub longer_is_not_less : (a b : List Hop) → length b < length a → is_less a b ≡ false
longer_is_not_less a b l =
    not_of_longer (length a) (length b) (comes_before (media_of a) (media_of b) || (are_equal (media_of a) (media_of b) && comes_before (operators_of a) (operators_of b))) l

not_of_shorter : (m n : ℕ) (x : Bool) → first_or m n x ≡ false → n ≤ m
not_of_shorter m n x e = grind (arith, nat_tests)

pub not_less_is_no_shorter : (a b : List Hop) → is_less a b ≡ false → length b ≤ length a
not_less_is_no_shorter a b e =
    not_of_shorter (length a) (length b) (comes_before (media_of a) (media_of b) || (are_equal (media_of a) (media_of b) && comes_before (operators_of a) (operators_of b))) e

pub equal_is_not_before : (xs ys : List ℕ) → are_equal xs ys ≡ true → comes_before xs ys ≡ false
equal_is_not_before [] [] e = refl
equal_is_not_before [] (y ∷ ys) e = absurd (cc)
equal_is_not_before (x ∷ xs) [] e = absurd (cc)
equal_is_not_before (x ∷ xs) (y ∷ ys) e = by (are_equal xs ys) (comes_before xs ys) e (equal_is_not_before xs ys)
  where
    by : (q b : Bool) → ((x == y) && q) ≡ true → (q ≡ true → b ≡ false) → first_or x y b ≡ false
    by true b h next = let f = next refl in grind (arith, nat_tests)
    by false b h next = grind (arith, nat_tests)

by_operators : (a b m n o p : ℕ) (x q y : Bool) → a ≡ b → m ≡ n → q ≡ true → x ≡ false
    → (nat_lt (suc a) (suc b) || ((suc a == suc b) && ((nat_lt m n || ((m == n) && x)) || (((m == n) && q) && first_or o p y)))) ≡ first_or o p y
by_operators a b m n o p x q y d e f g = grind (arith, nat_tests)

-- where all media are equal, operators decide
pub less_by_operators : (h g : Hop) (r s : List Hop) → length r ≡ length s → h.medium ≡ g.medium → are_equal (media_of r) (media_of s) ≡ true
    → is_less (h ∷ r) (g ∷ s) ≡ first_or h.to g.to (comes_before (operators_of r) (operators_of s))
less_by_operators h g r s d e f =
    by_operators (length r) (length s) h.medium g.medium h.to g.to (comes_before (media_of r) (media_of s)) (are_equal (media_of r) (media_of s)) (comes_before (operators_of r) (operators_of s)) d e f
    (equal_is_not_before (media_of r) (media_of s) f)

pub other_first : (x y : ℕ) (b : Bool) → x ≢ y → first_or x y b ≡ nat_lt x y
other_first x y b e = grind (arith, nat_tests)

pub same_first_number : (x y : ℕ) (b : Bool) → x ≡ y → first_or x y b ≡ b
same_first_number x y b e = grind (arith, nat_tests)
