-- The tests of bodies and sums, in the forms that the code has.
use Rattle.std.proofs.Common.{◌≡◌, ℕ, ◌<◌, ◌≤◌, Bool, true, false, ◌&&◌, ◌==◌, List, [], ◌∷◌, map, length, take, drop, ◌-◌, refl, sym, ap, arith, ◌∙◌}
use Rattle.std.specs.Prelude.{slice_index_or, nat_le, Some, IsTrue, sum, ◌↔◌, nat_lt}
use Rattle.std.specs.List.{list_all, sum_by}
use Rattle.std.proofs.lemmas.Bool.{and_parts, and_from, ltb-true, lt-ltb, eqb-true, false≢true}
use Rattle.std.proofs.lemmas.List.{length-map, take_all}
use Rattle.std.proofs.lemmas.List.Folds.{list_all-map}
use Rattle.std.proofs.lemmas.List.Sums.{sum-map}
use Rattle.body_lang.specs.declared.expression.Expr as declared
use Rattle.body_lang.specs.Expr.{Expr, view, literal, index, element, sum_over, negation, apply, select, PortsBelow}
use Rattle.flat_graph.specs.declared.vertex.Source.{Source}
use Rattle.flat_graph.specs.declared.vertex.Vertex.{Vertex}
use Rattle.flat_graph.specs.Graph.{len_of, lens_of}
use Rattle.flat_graph.specs.Valid.{are_equal, ports_below, is_body}

pub sum_map : {X : Type 0} (f : X → ℕ) (xs : List X) → sum (map f xs) ≡ sum_by f xs
sum_map f xs = sum-map f xs

-- sources are equally long if all those after the first are as long as it
pub equally_long : (vertices : List Vertex) (sources : List Source) (d : Source) → 1 ≤ length sources
    → list_all (λ s. len_of vertices s == len_of vertices (slice_index_or sources 0 d)) (take (length sources - 1) (drop 1 sources)) ≡ are_equal (lens_of vertices sources)
equally_long vertices [] d l = absurd (omega arith)
equally_long vertices (s ∷ sources) d l =
    ap (list_all (λ x. len_of vertices x == len_of vertices s)) (take_all (length (s ∷ sources) - 1) sources (omega arith)) ∙ sym (list_all-map (λ n. n == len_of vertices s) (len_of vertices) sources)

pub is_body_by : (ins outs : ℕ) (es : List declared.Expr)
    → is_body ins outs (Some (map view es)) ≡ (nat_le 1 outs && ((length es == outs) && list_all (λ e. ports_below ins (view e)) es))
is_body_by ins outs es = λ i. nat_le 1 outs && ((length-map es view i == outs) && list_all-map (ports_below ins) view es i)

pub ports_are_below : (n : ℕ) (e : Expr) → ports_below n e ≡ true → PortsBelow n e
ports_are_below n (literal v) h = tt
ports_are_below n index h = tt
ports_are_below n (element k e) h = let a = and_parts (nat_lt k n) (ports_below n e) h in (ltb-true k n a.0, ports_are_below n e a.1)
ports_are_below n (sum_over k) h = ltb-true k n h
ports_are_below n (negation e) h = ports_are_below n e h
ports_are_below n (apply op a b) h = let p = and_parts (ports_below n a) (ports_below n b) h in (ports_are_below n a p.0, ports_are_below n b p.1)
ports_are_below n (select c a b) h =
    let p = and_parts (ports_below n c) (ports_below n a && ports_below n b) h in
    let q = and_parts (ports_below n a) (ports_below n b) p.1 in
    (ports_are_below n c p.0, (ports_are_below n a q.0, ports_are_below n b q.1))

from_ports : (n : ℕ) (e : Expr) → PortsBelow n e → ports_below n e ≡ true
from_ports n (literal v) h = refl
from_ports n index h = refl
from_ports n (element k e) h = and_from (nat_lt k n) (ports_below n e) (lt-ltb k n h.0) (from_ports n e h.1)
from_ports n (sum_over k) h = lt-ltb k n h
from_ports n (negation e) h = from_ports n e h
from_ports n (apply op a b) h = and_from (ports_below n a) (ports_below n b) (from_ports n a h.0) (from_ports n b h.1)
from_ports n (select c a b) h =
    and_from (ports_below n c) (ports_below n a && ports_below n b) (from_ports n c h.0) (and_from (ports_below n a) (ports_below n b) (from_ports n a h.1.0) (from_ports n b h.1.1))

by_cases : (a b : Bool) → (a ≡ true → b ≡ true) → (b ≡ true → a ≡ true) → a ≡ b
by_cases true b f g = sym (f refl)
by_cases false true f g = g refl
by_cases false false f g = refl

-- the test of an expression in its two forms
pub ports_below_by : (n : ℕ) (e : Expr) (b : Bool) → IsTrue b ↔ PortsBelow n e → b ≡ ports_below n e
ports_below_by n e b h = by_cases b (ports_below n e) (λ t. from_ports n e (h.0 t)) (λ t. h.1 (ports_are_below n e t))

pub and_true : (a b : Bool) → a ≡ true → b ≡ (a && b)
and_true true b e = refl
and_true false b e = absurd (false≢true e)

pub differ : (a b : ℕ) → a < b → false ≡ (a == b)
differ a b l = by (a == b) refl
  where
    by : (c : Bool) → (a == b) ≡ c → false ≡ c
    by true e = absurd (let same = eqb-true a b e in omega arith)
    by false e = refl
