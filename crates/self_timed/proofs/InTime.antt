-- The laws of the dates, of ticks by entry.
use Rattle.std.proofs.Common.{◌≡◌, ℕ, suc, ◌+◌, ◌≤◌, List, [], ◌∷◌, map, Option, Some, None, refl, ap, arith}
use Rattle.std.specs.Prelude.{slice_get}
use Rattle.sequence_build_laws.specs.declared.Vertex.{Vertex}
use Rattle.sequence_build_laws.specs.Graph.{Graph}
use Rattle.sequence_build_laws.specs.declared.Schedule.{Schedule}
use Rattle.sequence_build_laws.specs.Acts.{Act, acts, start_of, end_of}
use Rattle.sequence_build_laws.specs.Instructions.{number_or}
use Rattle.self_timed.specs.Dates.{dates, start_by}
use Rattle.self_timed.specs.Entries.{stated, row_in, entry_of, lasting, AreWithin, dates_from}
use Rattle.self_timed.specs.Laws.{NoneLonger}

pub none_longer : (g : Graph) (s : Schedule) (ticks : List (List ℕ)) → AreWithin g.vertices (acts s) ticks → NoneLonger g s (lasting g.vertices (acts s) ticks)
none_longer g s ticks h k i x e = by (slice_get ticks k) refl
  where
    by : (o : Option (List ℕ)) → slice_get ticks k ≡ o → lasting g.vertices (acts s) ticks k i ≤ stated x
    by None q = let z = ap (λ (o : Option (List ℕ)). number_or 0 (slice_get (row_in o) (entry_of g.vertices (acts s) i))) q in omega arith
    by (Some row) q = let z = ap (λ (o : Option (List ℕ)). number_or 0 (slice_get (row_in o) (entry_of g.vertices (acts s) i))) q in let l = h k row q i x e in omega arith

module _ (depth : ℕ) (vertices : List Vertex) (xs : List Act) (lasts : ℕ → ℕ → ℕ) where
  pub chart_from : (n : ℕ) (ys : List Act)
      → ((i m : ℕ) (x : Act) → m ≡ n + i → slice_get ys i ≡ Some x
      → (start_by depth vertices xs (dates depth vertices xs lasts) 0 m x ≡ start_of x) × (dates depth vertices xs lasts 0 m ≡ end_of x))
      → dates_from depth vertices xs lasts 0 n ys ≡ map (λ x. (start_of x, end_of x)) ys
  chart_from n [] h = refl
  chart_from n (y ∷ ys) h =
      let here = h 0 n y (omega arith) refl in
      let rest = chart_from (suc n) ys (λ i m x e q. h (suc i) m x (omega arith) q) in
      λ j. (here.0 j, here.1 j) ∷ rest j
