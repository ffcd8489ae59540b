-- Over a table of the acts the tests of rates and cycles are those of the acts.
use Rattle.std.proofs.Common.{◌≡◌, ℕ, zero, suc, ◌+◌, ◌*◌, Bool, true, false, ◌&&◌, List, [], ◌∷◌, length, Option, Some, None, refl, sym, ap, ap₂, arith, ◌∙◌}
use Rattle.std.specs.Prelude.{slice_get, nat_le, ◌==◌}
use Rattle.std.specs.List.{list_all, list_any}
use Rattle.self_timed.specs.declared.Vertex.{Vertex}
use Rattle.self_timed.specs.Acts.{Act}
use Rattle.self_timed.proofs.Lists.{all_at}
use Rattle.self_timed.proofs.Reading.{any_of, any_at}
use Rattle.rates.specs.declared.table.Arc.{Arc}
use Rattle.rates.specs.Arcs.{arcs}
use Rattle.rates.specs.Rates.{begin_or, has_arc, has_room, is_critical_cycle, is_sustained, is_sustained_from, is_way_to, lags, length_over, same_arc}
use Rattle.rates.specs.Tables.{IsTableOf, is_critical_in, is_in_row, is_way_in, row_of, rows_fit, rows_fit_from}
use Rattle.rates.proofs.Tested.{all_pass}

-- each is true if the other one is
same_tests : (a b : Bool) → (a ≡ true → b ≡ true) → (b ≡ true → a ≡ true) → a ≡ b
same_tests true b f g = sym (f refl)
same_tests false true f g = g refl
same_tests false false f g = refl

-- each element of the first list is one of the second
abbrev Among : List Arc → List Arc → Type 0
Among us vs = (r : ℕ) (a : Arc) → slice_get us r ≡ Some a → (q : ℕ) × (slice_get vs q ≡ Some a)

all_among : (p : Arc → Bool) (us vs : List Arc) → Among us vs → list_all p vs ≡ true → list_all p us ≡ true
all_among p us vs f h = all_pass p us (λ r a e. let w = f r a e in all_at p vs h w.0 a w.1)

any_among : (p : Arc → Bool) (us vs : List Arc) → Among us vs → list_any p us ≡ true → list_any p vs ≡ true
any_among p us vs f h = let m = any_of p us h in let w = f m.0 m.1 m.2 in any_at p vs w.0 m.1 w.1 m.3

all_same : (p : Arc → Bool) (us vs : List Arc) → Among us vs → Among vs us → list_all p us ≡ list_all p vs
all_same p us vs f g = same_tests (list_all p us) (list_all p vs) (all_among p vs us g) (all_among p us vs f)

any_same : (p : Arc → Bool) (us vs : List Arc) → Among us vs → Among vs us → list_any p us ≡ list_any p vs
any_same p us vs f g = same_tests (list_any p us) (list_any p vs) (any_among p us vs f) (any_among p vs us g)

and_in_turn : (a b c : Bool) → ((a && b) && c) ≡ (a && (b && c))
and_in_turn true b c = refl
and_in_turn false b c = refl

-- a table has no row for an act that is not there
no_row : (table : List (List Arc)) (xs : List Act) (i : ℕ) → length table ≡ length xs → slice_get xs i ≡ None → row_of table i ≡ []
no_row [] xs i l e = refl
no_row (row ∷ table) [] i l e = absurd (omega arith)
no_row (row ∷ table) (x ∷ xs) zero l e = absurd cc
no_row (row ∷ table) (x ∷ xs) (suc i) l e = no_row table xs i (omega arith) e

module _ (depth : ℕ) (vertices : List Vertex) (xs : List Act) where
  module _ (long : ℕ → ℕ) (ticks reactions : ℕ) (offset : ℕ → ℕ) where
    rows_are : (n : ℕ) (rows : List (List Arc)) (ys : List Act) → length rows ≡ length ys
        → ((i j : ℕ) (x : Act) → j ≡ n + i → slice_get ys i ≡ Some x → Among (arcs depth vertices xs j x) (row_of rows i))
        → ((i j : ℕ) (x : Act) → j ≡ n + i → slice_get ys i ≡ Some x → Among (row_of rows i) (arcs depth vertices xs j x))
        → rows_fit_from long ticks reactions offset n rows ≡ is_sustained_from depth vertices xs long ticks reactions offset n ys
    rows_are n [] [] l f g = refl
    rows_are n [] (y ∷ ys) l f g = absurd (omega arith)
    rows_are n (row ∷ rows) [] l f g = absurd (omega arith)
    rows_are n (row ∷ rows) (y ∷ ys) l f g =
        let next : n + 1 ≡ suc n = omega arith in
        let here = all_same (has_room long ticks reactions offset n) row (arcs depth vertices xs n y) (g 0 n y (omega arith) refl) (f 0 n y (omega arith) refl) in
        let rest = rows_are (suc n) rows ys (omega arith) (λ i j x q e. f (suc i) j x (omega arith) e) (λ i j x q e. g (suc i) j x (omega arith) e) in
        and_in_turn (nat_le (reactions * long n) (offset n)) (list_all (has_room long ticks reactions offset n) row) (rows_fit_from long ticks reactions offset (n + 1) rows)
        ∙ ap₂ (λ (b c : Bool). nat_le (reactions * long n) (offset n) && (b && c)) here (ap (λ (m : ℕ). rows_fit_from long ticks reactions offset m rows) next ∙ rest)

  module _ (table : List (List Arc)) (is : IsTableOf depth vertices xs table) where
    pub rows_tested : (long : ℕ → ℕ) (ticks reactions : ℕ) (offset : ℕ → ℕ) → rows_fit long ticks reactions offset table ≡ is_sustained depth vertices xs long ticks reactions offset
    rows_tested long ticks reactions offset = rows_are long ticks reactions offset 0 table xs is.count (λ i j x q e. listed i j x (omega arith) e) (λ i j x q e. only i j x (omega arith) e)
      where
        listed : (i j : ℕ) (x : Act) → j ≡ i → slice_get xs i ≡ Some x → Among (arcs depth vertices xs j x) (row_of table i)
        listed i j x q e = λ r a h. is.listed i x e r a (ap (λ (m : ℕ). slice_get (arcs depth vertices xs m x) r) (sym q) ∙ h)

        only : (i j : ℕ) (x : Act) → j ≡ i → slice_get xs i ≡ Some x → Among (row_of table i) (arcs depth vertices xs j x)
        only i j x q e = λ r a h. let w = is.only i x e r a h in (w.0, ap (λ (m : ℕ). slice_get (arcs depth vertices xs m x) w.0) q ∙ w.1)

    in_row : (a : Arc) (i : ℕ) (o : Option Act) → slice_get xs i ≡ o → is_in_row table i a ≡ has_arc depth vertices xs a i o
    in_row a i None e = ap (list_any (same_arc a)) (no_row table xs i is.count e)
    in_row a i (Some x) e = any_same (same_arc a) (row_of table i) (arcs depth vertices xs i x) (is.only i x e) (is.listed i x e)

    way_in : (i : ℕ) (way : List Arc) → is_way_in table i way ≡ is_way_to depth vertices xs i way
    way_in i [] = refl
    way_in i (a ∷ way) = ap₂ (λ (b c : Bool). b && c) (in_row a (begin_or i way) (slice_get xs (begin_or i way)) refl) (way_in i way)

    pub critical_tested : (long : ℕ → ℕ) (ticks reactions i : ℕ) (way : List Arc) → is_critical_in table long ticks reactions i way ≡ is_critical_cycle depth vertices xs long ticks reactions i way
    critical_tested long ticks reactions i way =
        ap (λ (b : Bool). (begin_or i way == i && (b && nat_le 1 (lags way))) && reactions * length_over long way == ticks * lags way) (way_in i way)
