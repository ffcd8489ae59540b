-- The code's earliest starts and ends are the defined ones.
use Rattle.std.proofs.Common.{◌≡◌, ℕ, ◌+◌, ◌<◌, ◌≤◌, List, ◌++◌, map, max, length, Option, Some, None, refl, sym, ap, arith, ◌∙◌}
use Rattle.std.specs.Prelude.{slice_get, slice_index_or}
use Rattle.std.proofs.lemmas.List.{map-append}
use Rattle.std.proofs.lemmas.Option.{slice_get_read}
use Rattle.self_timed.specs.declared.Source.{Source}
use Rattle.self_timed.specs.declared.Vertex.{Vertex}
use Rattle.self_timed.specs.Graph.{with_vertex}
use Rattle.self_timed.specs.FlatOrder.{get_half}
use Rattle.self_timed.specs.declared.Medium.{Medium}
use Rattle.lower_bound.specs.Bound.{arrival, end_on, later_by, start_on}
use Rattle.lower_bound.proofs.Renewed.{greatest-append}
use Rattle.syn_base.specs.Numbers.{greatest}

module _ (operators : ℕ) (ticks : ℕ → ℕ → Option ℕ) (vertices : List Vertex) (media : List Medium) (dates : ℕ → ℕ) where
  pub end_is : (op o t start : ℕ) (x : Vertex) → op < length vertices → x ≡ slice_index_or vertices op x → Some t ≡ ticks op o → start ≡ start_on operators ticks vertices media dates o x
      → Some (t + start) ≡ end_on operators ticks vertices media dates op o
  end_is op o t start x l is e s =
      (λ i. later_by (e i) (s i)) ∙ ap
      (λ (y : Option Vertex). later_by (ticks op o) (with_vertex y 0 (start_on operators ticks vertices media dates o)))
      (sym (slice_get_read vertices (length vertices) op x refl l is))

  pub start_is : (o : ℕ) (x : Vertex) (guards inputs half start : ℕ) → guards ≡ greatest (map (arrival operators ticks vertices media dates o) (map (λ g. g.source) x.guards))
      → inputs ≡ greatest (map (arrival operators ticks vertices media dates o) x.ins) → half
      ≡ greatest (map dates (get_half x.kind x.twin)) → start ≡ max (max guards inputs) half → start ≡ start_on operators ticks vertices media dates o x
  start_is o x guards inputs half start g n h s =
      let f = arrival operators ticks vertices media dates o in
      let sources = map (λ g. g.source) x.guards in
      let e = ap greatest (map-append f sources x.ins) in
      let k = greatest-append (map f sources) (map f x.ins) in
      omega arith
