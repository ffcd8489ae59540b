-- The values and the next cells are what operations give that are fired on what they read.
use Rattle.std.proofs.Common.{◌≡◌, ℕ, zero, suc, ◌+◌, Bool, true, false, List, [], ◌∷◌, length, take, drop, refl, sym, ap, add-one, ◌∙◌}
use Rattle.std.specs.Prelude.{slice_get, Option, Some, if◌then◌else◌, ℤ}
use Rattle.std.proofs.Math.Seq.{take-append_seam, drop-append_seam}
use Rattle.std.proofs.lemmas.List.{length-map}
use Rattle.flat_graph.specs.declared.vertex.Source.{Source}
use Rattle.flat_graph.specs.declared.vertex.Kind.{Kind}
use Rattle.flat_graph.specs.declared.vertex.Kind.TheVariants.{Get}
use Rattle.flat_graph.specs.declared.vertex.Vertex.{Vertex}
use Rattle.flat_graph.specs.Graph.{with_vertex}
use Rattle.flat_graph.specs.Fire.{fired, kept}
use Rattle.flat_graph.specs.Meaning.{sensed, is_get, delay_number, cell_of, value_in, conditions, inputs, reads, next_cell, next_from}
use Rattle.flat_graph.specs.Laws.{IsFired, IsKept}
use Rattle.flat_graph.proofs.Settled.{fixed_point}
use Rattle.syn_base.specs.Vectors.{Vector, Values, vector_at}

module _ (look : Source → Vector) (x : Vertex) where
  pub first_reads : take (length x.ins) (reads look x) ≡ inputs look x
  first_reads =
      ap (λ (n : ℕ). take n (reads look x)) (sym (length-map x.ins look)) ∙ take-append_seam (inputs look x) (conditions look x)

  pub last_reads : drop (length x.ins) (reads look x) ≡ conditions look x
  last_reads =
      ap (λ (n : ℕ). drop n (reads look x)) (sym (length-map x.ins look)) ∙ drop-append_seam (inputs look x) (conditions look x)

pub is_fired : IsFired
is_fired g cells row h v x is =
    let look = value_in g cells row in
    let cell = cell_of g cells v in
    let seen = sensed x.kind row in
    fixed_point g cells row h v x is
    ∙ (λ i. fired g.bodies x cell seen (sym (last_reads look x) i) (sym (first_reads look x) i))
    ∙ sym (ap (λ (o : Option Vertex). with_vertex o [] (λ y. fired g.bodies y cell seen (drop (length y.ins) (reads look x)) (take (length y.ins) (reads look x)))) is)

tail_at : (cs : Values) (d : ℕ) → vector_at (drop 1 cs) d ≡ vector_at cs (d + 1)
tail_at [] d = refl
tail_at (c ∷ cs) d = rw add-one refl

-- the next cell of a get half, by the number of its delay
next_at : (vertices : List Vertex) (look : Source → Vector) (xs : List Vertex) (cs : Values) (v : ℕ) (x : Vertex) (z : List ℤ) → slice_get xs v ≡ Some x → x.kind ≡ Get z
    → vector_at (next_from vertices look xs cs) (delay_number xs v) ≡ next_cell vertices look x.twin (vector_at cs (delay_number xs v))
next_at vertices look [] cs v x z e k = absurd (cc)
next_at vertices look (y ∷ ys) cs zero x z e k =
    let same : y ≡ x = cc in
    let kind : y.kind ≡ Get z = ap (λ (u : Vertex). u.kind) same ∙ k in
    ap (λ (u : Kind). vector_at (if is_get u then next_cell vertices look y.twin (vector_at cs 0) ∷ next_from vertices look ys (drop 1 cs) else next_from vertices look ys cs) 0) kind
    ∙ ap (λ (u : Vertex). next_cell vertices look u.twin (vector_at cs 0)) same
next_at vertices look (y ∷ ys) cs (suc v) x z e k = by (is_get y.kind) (λ ds. next_at vertices look ys ds v x z e k)
  where
    by : (b : Bool) → ((ds : Values) → vector_at (next_from vertices look ys ds) (delay_number ys v) ≡ next_cell vertices look x.twin (vector_at ds (delay_number ys v)))
        → vector_at (if b then next_cell vertices look y.twin (vector_at cs 0)
        ∷ next_from vertices look ys (drop 1 cs) else next_from vertices look ys cs) (if b then delay_number ys v + 1 else delay_number ys v)
        ≡ next_cell vertices look x.twin (vector_at cs (if b then delay_number ys v + 1 else delay_number ys v))
    by true later =
        ap (vector_at (next_cell vertices look y.twin (vector_at cs 0) ∷ next_from vertices look ys (drop 1 cs))) (add-one (delay_number ys v))
        ∙ later (drop 1 cs) ∙ ap (next_cell vertices look x.twin) (tail_at cs (delay_number ys v))
    by false later = later cs

pub is_kept : IsKept
is_kept g cells row v t x y z is k twin there =
    let look = value_in g cells row in
    let cell = cell_of g cells v in
    next_at g.vertices look g.vertices cells v x z is k
    ∙ ap (λ o. next_cell g.vertices look o cell) twin
    ∙ ap (λ (o : Option Vertex). with_vertex o cell (λ u. kept u cell (conditions look u) (inputs look u))) there
    ∙ (λ i. kept y cell (sym (last_reads look y) i) (sym (first_reads look y) i))
    ∙ sym (ap (λ (o : Option Vertex). with_vertex o cell (λ u. kept u cell (drop (length u.ins) (reads look y)) (take (length u.ins) (reads look y)))) there)
