-- Copies: when two are one, and which operations have outputs.
use Rattle.std.proofs.Common.{◌≡◌, ℕ, zero, suc, ◌+◌, ◌<◌, ◌≤◌, Bool, true, false, ◌&&◌, ◌==◌, nat_eq, List, [], ◌∷◌, ◌++◌, map, length, Some, refl, sym, ap, arith, eq-eqb, inl, inr}
use Rattle.std.specs.Prelude.{slice_get, slice_index_or, nat_le}
use Rattle.std.specs.List.{list_any, list_all}
use Rattle.std.specs.Cmp.Derive.{both_true}
use Rattle.std.proofs.lemmas.Bool.{false≢true, and_parts, or_cases, le-leb, leb-true, eqb-true}
use Rattle.durations.specs.declared.Source.{Source}
use Rattle.durations.specs.declared.Guard.{Guard}
use Rattle.durations.specs.declared.Vertex.{Vertex}
use Rattle.durations.specs.Graph.{Graph, with_vertex, len_of, lens_of}
use Rattle.durations.specs.FlatValid.{is_flat, is_len, is_path, is_guard, fits, has_twin}
use Rattle.durations.proofs.Facts.{vertex_valid}
use Rattle.schedule.specs.Acts.{Copy, copy, same_copy, outputs_from, sources_of}

pub same_bool : (a b : Bool) → (a ≡ true → b ≡ true) → (b ≡ true → a ≡ true) → a ≡ b
same_bool true true f g = refl
same_bool true false f g = sym (f refl)
same_bool false true f g = g refl
same_bool false false f g = refl

pub copy_is : (c d : Copy) → same_copy c d ≡ true → c ≡ d
copy_is c d h =
    let both = and_parts (nat_eq c.operator d.operator && nat_eq c.source.vertex d.source.vertex) (nat_eq c.source.port d.source.port) h in
    let first = and_parts (nat_eq c.operator d.operator) (nat_eq c.source.vertex d.source.vertex) both.0 in
    let o = eqb-true c.operator d.operator first.0 in
    let v = eqb-true c.source.vertex d.source.vertex first.1 in
    let k = eqb-true c.source.port d.source.port both.1 in
    λ i. record { operator = o i; source = record { vertex = v i; port = k i } }

pub same_copy_self : (c : Copy) → same_copy c c ≡ true
same_copy_self c = both_true (both_true (eq-eqb c.operator c.operator refl) (eq-eqb c.source.vertex c.source.vertex refl)) (eq-eqb c.source.port c.source.port refl)

pub copies_same : (c d : Copy) → c.operator ≡ d.operator → c.source.vertex ≡ d.source.vertex → c.source.port ≡ d.source.port → same_copy c d ≡ true
copies_same c d o v p = both_true (both_true (eq-eqb c.operator d.operator o) (eq-eqb c.source.vertex d.source.vertex v)) (eq-eqb c.source.port d.source.port p)

-- a source of some length is an output that is there
pub record Output (vertices : List Vertex) (x : Source) : Type 0 where
  pub it : Vertex
  pub is : slice_get vertices x.vertex ≡ Some it
  pub vertex : x.vertex < length vertices
  pub port : x.port < length it.outs

pub output_there : (vertices : List Vertex) (x : Source) → nat_le 1 (len_of vertices x) ≡ true → Output vertices x
output_there vertices x h =
    let r = by vertices x.vertex (leb-true 1 (len_of vertices x) h) in
    record { it = r.0; is = r.1; vertex = r.2; port = r.3 }
  where
    at_port : (ns : List ℕ) (k : ℕ) → 1 ≤ slice_index_or ns k 0 → k < length ns
    at_port [] k l = absurd (omega arith)
    at_port (n ∷ ns) zero l = omega arith
    at_port (n ∷ ns) (suc k) l = let z = at_port ns k l in omega arith

    by : (xs : List Vertex) (v : ℕ) → 1 ≤ with_vertex (slice_get xs v) 0 (λ y. slice_index_or y.outs x.port 0) → (it : Vertex)
        × (slice_get xs v ≡ Some it) × (v < length xs) × (x.port < length it.outs)
    by [] v l = absurd (omega arith)
    by (y ∷ ys) zero l = (y, refl, (omega arith), at_port y.outs x.port l)
    by (y ∷ ys) (suc v) l = let r = by ys v l in (r.0, r.1, (let z = r.2 in omega arith), r.3)

module _ (g : Graph) (flat : is_flat g ≡ true) (v : ℕ) (x : Vertex) (is : slice_get g.vertices v ≡ Some x) where
  -- what a valid operation has: lengths, guards, inputs
  pub parts : ((nat_le (length x.outs) 64 && list_all is_len x.outs) ≡ true) × (list_all (is_guard g.vertices) x.guards ≡ true) × (list_all (nat_le 1) (lens_of g.vertices x.ins) ≡ true)
  parts =
      let valid = vertex_valid g flat v x is in
      let named = is_path x.name in
      let outs = nat_le (length x.outs) 64 && list_all is_len x.outs in
      let guards = list_all (is_guard g.vertices) x.guards in
      let ins = list_all (nat_le 1) (lens_of g.vertices x.ins) in
      let fit = fits g.bodies x.kind (lens_of g.vertices x.ins) x.outs in
      let a = and_parts (named && outs && guards && ins) fit (and_parts (named && outs && guards && ins && fit) (has_twin g.vertices v x.kind x.twin) valid).0 in
      let b = and_parts (named && outs && guards) ins a.0 in
      let c = and_parts (named && outs) guards b.0 in
      ((and_parts named outs c.0).1, c.1, b.1)

  pub few_outputs : length x.outs ≤ 64
  few_outputs = leb-true (length x.outs) 64 (and_parts (nat_le (length x.outs) 64) (list_all is_len x.outs) parts.0).0

  -- each of its outputs has some length
  pub output_has_len : (j : ℕ) → j < length x.outs → nat_le 1 (slice_index_or x.outs j 0) ≡ true
  output_has_len j l = by x.outs j l (and_parts (nat_le (length x.outs) 64) (list_all is_len x.outs) parts.0).1
    where
      by : (ns : List ℕ) (j : ℕ) → j < length ns → list_all is_len ns ≡ true → nat_le 1 (slice_index_or ns j 0) ≡ true
      by [] j l h = absurd (omega arith)
      by (n ∷ ns) zero l h = (and_parts (nat_le 1 n) (nat_le n 64) (and_parts (is_len n) (list_all is_len ns) h).0).0
      by (n ∷ ns) (suc j) l h = by ns j (omega arith) (and_parts (is_len n) (list_all is_len ns) h).1

  -- and so has each of its sources
  pub sources_have_len : list_all (λ s. nat_le 1 (len_of g.vertices s)) (sources_of (Some x)) ≡ true
  sources_have_len = both (map (λ d. d.source) x.guards) x.ins (guards x.guards parts.1) (ins x.ins parts.2)
    where
      both : (xs ys : List Source) → list_all (λ s. nat_le 1 (len_of g.vertices s)) xs ≡ true
          → list_all (λ s. nat_le 1 (len_of g.vertices s)) ys ≡ true → list_all (λ s. nat_le 1 (len_of g.vertices s)) (xs ++ ys) ≡ true
      both [] ys h k = k
      both (y ∷ xs) ys h k = let r = and_parts (nat_le 1 (len_of g.vertices y)) (list_all (λ s. nat_le 1 (len_of g.vertices s)) xs) h in both_true r.0 (both xs ys r.1 k)

      guards : (gs : List Guard) → list_all (is_guard g.vertices) gs ≡ true → list_all (λ s. nat_le 1 (len_of g.vertices s)) (map (λ d. d.source) gs) ≡ true
      guards [] h = refl
      guards (d ∷ gs) h =
          let valid = and_parts (is_guard g.vertices d) (list_all (is_guard g.vertices) gs) h in
          let one = eqb-true (len_of g.vertices d.source) 1 (and_parts (len_of g.vertices d.source == 1) (nat_le d.case (length d.values)) valid.0).0 in
          both_true (le-leb 1 (len_of g.vertices d.source) (omega arith)) (guards gs valid.1)

      ins : (xs : List Source) → list_all (nat_le 1) (lens_of g.vertices xs) ≡ true → list_all (λ s. nat_le 1 (len_of g.vertices s)) xs ≡ true
      ins [] h = refl
      ins (y ∷ xs) h = let r = and_parts (nat_le 1 (len_of g.vertices y)) (list_all (nat_le 1) (lens_of g.vertices xs)) h in both_true r.0 (ins xs r.1)

-- an output that the run makes
pub made_by_run : (o : ℕ) (x : Source) (p v port : ℕ) (ns : List ℕ) → list_any (same_copy (copy o x)) (map (copy p) (outputs_from v port ns)) ≡ true
    → (x.vertex ≡ v) × (j : ℕ) × (x.port ≡ port + j) × (j < length ns)
made_by_run o x p v port [] h = absurd (false≢true h)
made_by_run o x p v port (n ∷ ns) h =
    elim (or_cases (same_copy (copy o x) (copy p (record { vertex = v; port = port }))) (list_any (same_copy (copy o x)) (map (copy p) (outputs_from v (port + 1) ns))) h) [
      | inl e ↦ (let same = copy_is (copy o x) (copy p (record { vertex = v; port = port })) e in
          (ap (λ (c : Copy). c.source.vertex) same, 0, (let q = ap (λ (c : Copy). c.source.port) same in omega arith), omega arith))
      | inr e ↦ (let r = made_by_run o x p v (port + 1) ns e in (r.0, suc r.1, (let q = r.2 in omega arith), (let l = r.3 in omega arith)))
    ]
