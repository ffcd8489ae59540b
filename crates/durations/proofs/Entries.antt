-- Each row has an entry for each operator, and where no duration is missing some entry is there.
use Rattle.std.proofs.Common.{
  ◌≡◌,
  ℕ,
  zero,
  suc,
  ◌+◌,
  ◌≤◌,
  ◌<◌,
  Bool,
  true,
  false,
  cond,
  not,
  ◌&&◌,
  ◌||◌,
  ◌==◌,
  List,
  [],
  ◌∷◌,
  length,
  map,
  nat_eq,
  nat_le,
  Option,
  Some,
  None,
  refl,
  sym,
  ap,
  subst,
  ◌∙◌,
  arith,
}
use Rattle.std.specs.Prelude.{All, IfSome, IsTrue, is_some}
use Rattle.std.specs.List.{list_all, list_any, range_with_len}
use Rattle.std.specs.Str.{bytes_eq}
use Rattle.std.proofs.lemmas.Bool.{and_parts, eqb-true, eqb-false, leb-true}
use Rattle.std.proofs.lemmas.List.Elements.{All-nil, All-cons, All-head, All-tail, All-map}
use Rattle.std.proofs.lemmas.List.FromFn.{length-map-range_with_len}
use Rattle.flat_graph.specs.declared.vertex.Vertex.{Vertex}
use Rattle.archi_defs.specs.Archi.{Architecture, is_archi, is_medium, are_joined, are_bounded, are_distinct, names_of, connections_in}
use Rattle.archi_defs.specs.declared.text.DurationLine.{DurationLine}
use Rattle.syn_base.specs.Bytes.{Bytes}
use Rattle.durations.specs.Lines.{ticks_of, is_given, IsDuration, AreDurations}
use Rattle.durations.specs.Table.{is_timed, entry, row, is_missing, missing, IsRow}
use Rattle.durations.proofs.Found.{given_at}

any_from : (f : ℕ → Option ℕ) (a n o : ℕ) → a ≤ o → o < a + n → is_some (f o) ≡ true → list_any is_some (map f (range_with_len a n)) ≡ true
any_from f a zero o low high some = absurd (omega arith)
any_from f a (suc n) o low high some = by (nat_eq a o) refl (λ l. any_from f (a + 1) n o l (omega arith) some)
  where
    by : (t : Bool) → nat_eq a o ≡ t → (a + 1 ≤ o → list_any is_some (map f (range_with_len (a + 1) n)) ≡ true) → (is_some (f a) || list_any is_some (map f (range_with_len (a + 1) n))) ≡ true
    by true e rest = ap (λ (b : Bool). b || list_any is_some (map f (range_with_len (a + 1) n))) (subst (λ (k : ℕ). is_some (f k) ≡ true) (sym (eqb-true a o e)) some)
    by false e rest = let apart = eqb-false a o e in either_way (is_some (f a)) (rest (omega (arith, apart, low)))
      where
        either_way : (b : Bool) → list_any is_some (map f (range_with_len (a + 1) n)) ≡ true → (b || list_any is_some (map f (range_with_len (a + 1) n))) ≡ true
        either_way true h = refl
        either_way false h = h

abbrev Low : Option ℕ → Type 0
Low e = IfSome e (λ t. t ≤ 1000000000)

ticks_low : (operators : ℕ) (lines : List DurationLine) (def : Bytes) (o : ℕ) → AreDurations operators lines → Low (ticks_of lines def o)
ticks_low operators [] def o known = tt
ticks_low operators (d ∷ lines) def o known =
    by (bytes_eq d.def def && (d.operator == o)) (All-head (IsDuration operators) d lines known).1 (ticks_low operators lines def o (All-tail (IsDuration operators) d lines known))
  where
    by : (t : Bool) → d.ticks ≤ 1000000000 → Low (ticks_of lines def o) → Low (cond t (Some d.ticks) (ticks_of lines def o))
    by true here rest = here
    by false here rest = rest

entry_low : (operators : ℕ) (lines : List DurationLine) (x : Vertex) (o : ℕ) → AreDurations operators lines → Low (entry lines x o)
entry_low operators lines x o known = by (is_timed x.kind) (ticks_low operators lines x.def o known)
  where
    by : (t : Bool) → Low (ticks_of lines x.def o) → Low (cond t (ticks_of lines x.def o) (Some 0))
    by true h = h
    by false h = omega arith

some_entry : (operators : ℕ) (lines : List DurationLine) (x : Vertex) → AreDurations operators lines → 1 ≤ operators → is_missing lines x ≡ false
    → list_any is_some (row operators lines x) ≡ true
some_entry operators lines x known any h = by (is_timed x.kind) (is_given lines x.def) refl refl h
  where
    by : (t g : Bool) → is_timed x.kind ≡ t → is_given lines x.def ≡ g → (t && not g) ≡ false → list_any is_some (row operators lines x) ≡ true
    by true true e k m =
        let r = given_at operators lines x.def known k in
        any_from (entry lines x) 0 operators r.0 (omega arith) (omega (arith, r.1)) (ap (λ (b : Bool). is_some (cond b (ticks_of lines x.def r.0) (Some 0))) e ∙ r.2)
    by true false e k m = absurd (cc)
    by false g e k m = any_from (entry lines x) 0 operators 0 (omega arith) (omega (arith, any)) (ap (λ (b : Bool). is_some (cond b (ticks_of lines x.def 0) (Some 0))) e)

row_valid : (operators : ℕ) (lines : List DurationLine) (x : Vertex) → AreDurations operators lines → 1 ≤ operators → is_missing lines x ≡ false → IsRow operators (row operators lines x)
row_valid operators lines x known any h = record {
  each = length-map-range_with_len (entry lines x) 0 operators;
  some = some_entry operators lines x known any h;
  bounded = All-map Low (entry lines x) (range_with_len 0 operators) (λ k o l. entry_low operators lines x _ known);
}

pub rows_valid : (operators : ℕ) (lines : List DurationLine) (xs : List Vertex) → AreDurations operators lines → 1 ≤ operators → missing lines xs ≡ None
    → All (IsRow operators) (map (row operators lines) xs)
rows_valid operators lines [] known any h = All-nil (IsRow operators)
rows_valid operators lines (x ∷ xs) known any h = by (is_missing lines x) refl h (λ g. rows_valid operators lines xs known any g)
  where
    by : (t : Bool) → is_missing lines x ≡ t → cond t (Some x.def) (missing lines xs) ≡ None → (missing lines xs ≡ None → All (IsRow operators) (map (row operators lines) xs))
        → All (IsRow operators) (map (row operators lines) (x ∷ xs))
    by true e g rest = absurd (cc)
    by false e g rest = All-cons (IsRow operators) (row operators lines x) (map (row operators lines) xs) (row_valid operators lines x known any e) (rest g)

-- an architecture has an operator
pub has_operator : (a : Architecture) → IsTrue (is_archi a.operators a.media) → 1 ≤ length a.operators
has_operator a e =
    let n = length a.operators in
    let outer = and_parts ((are_bounded a.operators a.media && list_all (is_medium n) a.media) && are_distinct (names_of a.operators a.media)) (are_joined n a.media) e in
    let inner = and_parts (are_bounded a.operators a.media && list_all (is_medium n) a.media) (are_distinct (names_of a.operators a.media)) outer.0 in
    let both = and_parts (are_bounded a.operators a.media) (list_all (is_medium n) a.media) inner.0 in
    let stands = and_parts ((nat_le 1 n && nat_le n 16) && nat_le (length a.media) 16) (nat_le (connections_in a.media) 64) both.0 in
    let sizes = and_parts (nat_le 1 n && nat_le n 16) (nat_le (length a.media) 16) stands.0 in
    leb-true 1 n (and_parts (nat_le 1 n) (nat_le n 16) sizes.0).0
