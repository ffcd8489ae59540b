-- Inputs and outputs that have the lengths of the tree pass the tests of a flat graph, kind by kind.
use Rattle.std.proofs.Common.{
  ◌≡◌,
  ℕ,
  zero,
  suc,
  ◌+◌,
  ◌≤◌,
  ◌==◌,
  ◌&&◌,
  nat_le,
  nat_lt,
  true,
  List,
  [],
  ◌∷◌,
  length,
  map,
  replicate,
  sum,
  slice_index_or,
  slice_get,
  Option,
  refl,
  sym,
  ap,
  ◌∙◌,
  subst,
  arith,
  eq-eqb,
  le-leb,
  lt-ltb,
}
use Rattle.std.specs.List.{list_all}
use Rattle.std.proofs.lemmas.Bool.{and_from}
use Rattle.std.proofs.lemmas.List.{length-replicate}
use Rattle.std.proofs.lemmas.List.Sums.{sum_by-cons}
use Rattle.algo_tree.specs.declared.Source as of_level
use Rattle.algo_tree.specs.declared.Source.TheVariants.{Own, Of}
use Rattle.algo_tree.specs.Typed.{AreLengths, AreEqual, AreGuardsTyped, AllPortsBelow}
use Rattle.flat_graph.specs.Expr.{Expr, literal, index, element, sum_over, negation, apply, select, PortsBelow}
use Rattle.flat_graph.specs.declared.vertex.Source.{Source}
use Rattle.flat_graph.specs.declared.vertex.Guard.{Guard}
use Rattle.flat_graph.specs.declared.vertex.Kind.{Kind}
use Rattle.flat_graph.specs.declared.vertex.Kind.TheVariants.{Sensor, Actuator, Function, Constant, Get, Set, Explode, Implode, Merge}
use Rattle.flat_graph.specs.declared.vertex.Vertex.{Vertex}
use Rattle.flat_graph.specs.Graph.{len_of, lens_of}
use Rattle.flat_graph.specs.Meaning.{level_source, level_guard}
use Rattle.flat_graph.specs.Valid.{is_len, is_guard, ports_below, is_body, is_only, are_equal, is_merge, fits}
use Rattle.flat_laws.specs.Flat.{Operation}
use Rattle.algo_tree.proofs.Lists.{map_map}
use Rattle.flat_laws.specs.Stands.{task_of}
use Rattle.flat_laws.proofs.Fits.{IsTaskFit}
use Rattle.flat_laws.proofs.Bounds.{IsTaskBounded}

module _ (vertices : List Vertex) where
  -- the length of a source of the flat list
  abbrev pub long : of_level.Source → ℕ
  long (Own k) = 0
  long (Of v p) = len_of vertices (record { vertex = v; port = p })

  pub lens-same : (ss : List Source) → map long (map level_source ss) ≡ lens_of vertices ss
  lens-same ss = map_map long level_source ss

  pub guards-pass : (gs : List Guard) → AreGuardsTyped long (map level_guard gs) → list_all (is_guard vertices) gs ≡ true
  guards-pass [] h = refl
  guards-pass (g ∷ gs) h =
      and_from (is_guard vertices g) (list_all (is_guard vertices) gs)
      (and_from (len_of vertices g.source == 1) (nat_le g.case (length g.values)) (eq-eqb (len_of vertices g.source) 1 h.0.0) (le-leb g.case (length g.values) h.0.1))
      (guards-pass gs h.1)

pub lens-pass : (ns : List ℕ) → AreLengths ns → list_all is_len ns ≡ true
lens-pass [] h = refl
lens-pass (n ∷ ns) h = and_from (is_len n) (list_all is_len ns) (and_from (nat_le 1 n) (nat_le n 64) (le-leb 1 n h.0.0) (le-leb n 64 h.0.1)) (lens-pass ns h.1)

pub some-pass : (ns : List ℕ) → AreLengths ns → list_all (nat_le 1) ns ≡ true
some-pass [] h = refl
some-pass (n ∷ ns) h = and_from (nat_le 1 n) (list_all (nat_le 1) ns) (le-leb 1 n h.0.0) (some-pass ns h.1)

ports-pass : (n : ℕ) (e : Expr) → PortsBelow n e → ports_below n e ≡ true
ports-pass n (literal v) h = refl
ports-pass n index h = refl
ports-pass n (element k e) h = and_from (nat_lt k n) (ports_below n e) (lt-ltb k n h.0) (ports-pass n e h.1)
ports-pass n (sum_over k) h = lt-ltb k n h
ports-pass n (negation e) h = ports-pass n e h
ports-pass n (apply op a b) h = and_from (ports_below n a) (ports_below n b) (ports-pass n a h.0) (ports-pass n b h.1)
ports-pass n (select c a b) h =
    and_from (ports_below n c) (ports_below n a && ports_below n b) (ports-pass n c h.0) (and_from (ports_below n a) (ports_below n b) (ports-pass n a h.1.0) (ports-pass n b h.1.1))

all_ports-pass : (n : ℕ) (es : List Expr) → AllPortsBelow n es → list_all (ports_below n) es ≡ true
all_ports-pass n [] h = refl
all_ports-pass n (e ∷ es) h = and_from (ports_below n e) (list_all (ports_below n) es) (ports-pass n e h.0) (all_ports-pass n es h.1)

-- a body with an output is there
body-pass : (bodies : List (List Expr)) (b n m : ℕ) → length (slice_index_or bodies b []) ≡ m → 1 ≤ m → AllPortsBelow n (slice_index_or bodies b []) → is_body n m (slice_get bodies b) ≡ true
body-pass [] b n m e some h = absurd (omega (arith, e, some))
body-pass (es ∷ bodies) zero n m e some h =
    and_from (nat_le 1 m) ((length es == m) && list_all (ports_below n) es) (le-leb 1 m some) (and_from (length es == m) (list_all (ports_below n) es) (eq-eqb (length es) m e) (all_ports-pass n es h))
body-pass (es ∷ bodies) (suc b) n m e some h = body-pass bodies b n m e some h

pub only-pass : (n : ℕ) (ns : List ℕ) → ns ≡ n ∷ [] → is_only n ns ≡ true
only-pass n ns e = ap (is_only n) e ∙ eq-eqb n n refl

same-pass : (m n : ℕ) → list_all (λ x. is_only x (n ∷ [])) (replicate m n) ≡ true
same-pass zero n = refl
same-pass (suc m) n = and_from (is_only n (n ∷ [])) (list_all (λ x. is_only x (n ∷ [])) (replicate m n)) (eq-eqb n n refl) (same-pass m n)

-- lengths of which each is the first one pass the test that all are the same
equal-pass : (ns : List ℕ) → AreEqual ns → are_equal ns ≡ true
equal-pass [] h = refl
equal-pass (n ∷ ns) h = subst (λ ms. are_equal ms ≡ true) (sym h) (all-same (length ns) n)
  where
    all-same : (m k : ℕ) → list_all (λ x. x == k) (replicate m k) ≡ true
    all-same zero k = refl
    all-same (suc m) k = and_from (k == k) (list_all (λ x. x == k) (replicate m k)) (eq-eqb k k refl) (all-same m k)

merge-pass : (cases : ℕ) (outs : List ℕ) → length outs ≡ 1 → is_merge cases (1 ∷ replicate (suc cases) (slice_index_or outs 0 0)) outs ≡ true
merge-pass cases [] e = absurd (omega (arith, e))
merge-pass cases (n ∷ (m ∷ ns)) e = absurd (omega (arith, e))
merge-pass cases (n ∷ []) e =
    let long : length (replicate (suc cases) n) ≡ cases + 1 = length-replicate (suc cases) n ∙ (let s : suc cases ≡ cases + 1 = omega arith in s) in
    and_from (length (replicate (suc cases) n) == cases + 1) (list_all (λ x. is_only x (n ∷ [])) (replicate (suc cases) n))
    (eq-eqb (length (replicate (suc cases) n)) (cases + 1) long) (same-pass (suc cases) n)

module _ (bodies : List (List Expr)) (before : Option Operation) where
  none-pass : (ns : List ℕ) → ns ≡ [] → (length ns == 0) ≡ true
  none-pass ns e = eq-eqb (length ns) 0 (ap length e)

  pub fits-pass : (k : Kind) (lens outs : List ℕ) → IsTaskFit (task_of bodies k) before lens outs → IsTaskBounded (task_of bodies k) outs → (k ≡ Set → length lens ≡ 1) → fits bodies k lens outs ≡ true
  fits-pass (Sensor i) lens outs h few set = and_from (length lens == 0) (length outs == 1) (none-pass lens h.0) (eq-eqb (length outs) 1 h.1)
  fits-pass (Actuator i) lens outs h few set = and_from (length lens == 1) (length outs == 0) (eq-eqb (length lens) 1 h.0) (none-pass outs h.1)
  fits-pass (Function b) lens outs h few set = body-pass bodies b (length lens) (length outs) h.0 few.0 h.1
  fits-pass (Constant z) lens outs h few set = and_from (length lens == 0) (is_only (length z) outs) (none-pass lens h.0) (only-pass (length z) outs h.1)
  fits-pass (Get z) lens outs h few set = and_from (length lens == 0) (is_only (length z) outs) (none-pass lens h.0) (only-pass (length z) outs h.1)
  fits-pass Set lens outs h few set = and_from (length lens == 1) (length outs == 0) (eq-eqb (length lens) 1 (set refl)) (none-pass outs h.0)
  fits-pass Explode lens outs h few set = and_from (is_only (sum outs) lens) (are_equal outs) (only-pass (sum outs) lens h.0) (equal-pass outs h.1)
  fits-pass Implode lens outs h few set = and_from (is_only (sum lens) outs) (are_equal lens) (only-pass (sum lens) outs h.0) (equal-pass lens h.1)
  fits-pass (Merge values) lens outs h few set = ap (λ ns. is_merge (length values) ns outs) h.1 ∙ merge-pass (length values) outs h.0

  -- each of several lengths is one at least
  sum-long : (ns : List ℕ) → AreLengths ns → length ns ≤ sum ns
  sum-long [] h = omega arith
  sum-long (n ∷ ns) h = let s = sum_by-cons (λ x. x) n ns in let l = sum-long ns h.1 in let one = h.0.0 in omega (arith, s, l, one)

  few-explode : (lens outs : List ℕ) → AreLengths lens → AreLengths outs → lens ≡ sum outs ∷ [] → length outs ≤ 64
  few-explode lens outs h k e = let top = (subst AreLengths e h).0.1 in let l = sum-long outs k in omega (arith, top, l)

  one-few : (outs : List ℕ) (n : ℕ) → outs ≡ n ∷ [] → length outs ≤ 64
  one-few outs n e = let l = ap length e in omega (arith, l)

  -- no operation has more than 64 outputs
  pub outs-few : (k : Kind) (lens outs : List ℕ) → AreLengths lens → AreLengths outs → IsTaskFit (task_of bodies k) before lens outs → IsTaskBounded (task_of bodies k) outs → length outs ≤ 64
  outs-few (Sensor i) lens outs hl ho h few = let l = h.1 in omega (arith, l)
  outs-few (Actuator i) lens outs hl ho h few = let l = ap length h.1 in omega (arith, l)
  outs-few (Function b) lens outs hl ho h few = few.1
  outs-few (Constant z) lens outs hl ho h few = one-few outs (length z) h.1
  outs-few (Get z) lens outs hl ho h few = one-few outs (length z) h.1
  outs-few Set lens outs hl ho h few = let l = ap length h.0 in omega (arith, l)
  outs-few Explode lens outs hl ho h few = few-explode lens outs hl ho h.0
  outs-few Implode lens outs hl ho h few = one-few outs (sum lens) h.0
  outs-few (Merge values) lens outs hl ho h few = let l = h.0 in omega (arith, l)
