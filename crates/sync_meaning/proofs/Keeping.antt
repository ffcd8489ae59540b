-- What operations keep after a reaction.
use Rattle.std.proofs.Common.{◌≡◌, ℕ, zero, suc, ◌+◌, ◌<◌, List, [], ◌∷◌, ◌++◌, map, take, drop, length, get_or, set, Bool, true, false, ◌&&◌, refl, sym, ap, ◌∙◌, ◌≤◌, arith, ℤ, Vec, Global}
use Rattle.std.specs.Prelude.{Option, None, Some, slice_get, slice_index_or, IsTrue, nat_lt, if◌then◌else◌}
use Rattle.std.proofs.lemmas.Bool.{and_parts, false≢true}
use Rattle.std.proofs.lemmas.List.{map-set, set-get_or, length-map, get_or-map}
use Rattle.flat_graph.specs.declared.vertex.Source.{Source}
use Rattle.flat_graph.specs.declared.vertex.Kind.{Kind}
use Rattle.flat_graph.specs.declared.vertex.Kind.TheVariants.{Sensor, Actuator, Function, Constant, Get, Set, Explode, Implode, Merge}
use Rattle.flat_graph.specs.declared.vertex.Vertex.{Vertex}
use Rattle.flat_graph.specs.Graph.{Graph, with_vertex, lens_of}
use Rattle.flat_graph.specs.Valid.{is_flat, is_vertex, is_only, is_set_half_by, is_set_half_of, has_set_half, has_twin, is_number}
use Rattle.flat_graph.specs.Fire.{guards_hold, stored, kept}
use Rattle.flat_graph.specs.Meaning.{is_get, conditions, inputs, next_cell, next_from, initial_cell, initial_cells}
use Rattle.flat_graph.specs.Laws.{delay_len, delay_lens}
use Rattle.flat_graph.proofs.Facts.{vertex_valid, twin_of}
use Rattle.flat_graph.proofs.Fill.{fill, at_seam, all_written}
use Rattle.flat_graph.proofs.KindLens.{only_is}
use Rattle.sync_meaning.specs.Store.{lengths, first_kept, value_at, CellsFit, delay_cells, HasSetHalf}
use Rattle.sync_meaning.specs.Reaction.{next_kept, all_kept}
use Rattle.sync_meaning.proofs.Facts.{input_lens}
use Rattle.syn_base.specs.Vectors.{Vector, Values, vector_at}

-- a value put in a place changes no test that it passes alike
pub same_map : {A B : Type 0} (f : A → B) (l : List A) (i : ℕ) (a d : A) → f a ≡ f (get_or l i d) → map f (set l i a) ≡ map f l
same_map f l i a d e = map-set f l i a ∙ ap (set (map f l) i) e ∙ sym (map-set f l i (get_or l i d)) ∙ ap (map f) (set-get_or l i d)

set_half_by : (vertices : List Vertex) (v len : ℕ) (y : Vertex) (kind : Kind) → is_set_half_by vertices v len y kind ≡ true → (kind ≡ Set) × (lens_of vertices y.ins ≡ len ∷ [])
set_half_by vertices v len y Set h = (refl, only_is len (lens_of vertices y.ins) (and_parts (is_number y.twin v) (is_only len (lens_of vertices y.ins)) h).1)
set_half_by vertices v len y (Sensor i) h = absurd (false≢true h)
set_half_by vertices v len y (Actuator i) h = absurd (false≢true h)
set_half_by vertices v len y (Function f) h = absurd (false≢true h)
set_half_by vertices v len y (Constant z) h = absurd (false≢true h)
set_half_by vertices v len y (Get z) h = absurd (false≢true h)
set_half_by vertices v len y Explode h = absurd (false≢true h)
set_half_by vertices v len y Implode h = absurd (false≢true h)
set_half_by vertices v len y (Merge values) h = absurd (false≢true h)

-- the twin of a get half
pub set_half : (g : Graph) (table : List Values) (v t : ℕ) (x : Vertex) (z : List ℤ) → is_flat g ≡ true → map lengths table
    ≡ map (λ x. x.outs) g.vertices → slice_get g.vertices v ≡ Some x → x.kind ≡ Get z → x.twin ≡ Some t
    → HasSetHalf g.vertices table (length z) t
set_half g table v t x z valid outs is kind twin = by (slice_get g.vertices t) refl (and_parts (nat_lt v t) (with_vertex (slice_get g.vertices t) false (is_set_half_of g.vertices v (length z))) has).1
  where
    has : has_set_half g.vertices v (length z) (Some t) ≡ true
    has = (λ i. has_twin g.vertices v (sym kind i) (sym twin i)) ∙ twin_of g v x (vertex_valid g valid v x is)

    by : (o : Option Vertex) → slice_get g.vertices t ≡ o → with_vertex o false (is_set_half_of g.vertices v (length z)) ≡ true → HasSetHalf g.vertices table (length z) t
    by None e h = absurd (false≢true h)
    by (Some y) e h =
        let both = set_half_by g.vertices v (length z) y y.kind h in
        record { at = y; is = e; kind = both.0; ins = input_lens g.vertices table outs y.ins ∙ both.1 }

-- what a set half stores
pub kept_on : (y : Vertex) (cell : Vector) (cs vs : Values) → y.kind ≡ Set → guards_hold y.guards cs ≡ true → kept y cell cs vs ≡ vector_at vs 0
kept_on y cell cs vs kind on = λ i. stored (kind i) (on i) cell (vector_at vs 0)

pub kept_off : (y : Vertex) (cell : Vector) (cs vs : Values) → y.kind ≡ Set → guards_hold y.guards cs ≡ false → kept y cell cs vs ≡ cell
kept_off y cell cs vs kind off = λ i. stored (kind i) (off i) cell (vector_at vs 0)

pub next_by : (vertices : List Vertex) (look : Source → Vector) (t : ℕ) (y : Vertex) (cell : Vector) → slice_get vertices t ≡ Some y
    → next_cell vertices look (Some t) cell ≡ kept y cell (conditions look y) (inputs look y)
next_by vertices look t y cell is = ap (λ (o : Option Vertex). with_vertex o cell (λ z. kept z cell (conditions look z) (inputs look z))) is

tail_at : (cs : Values) (k : ℕ) → vector_at (drop 1 cs) k ≡ vector_at cs (suc k)
tail_at [] k = refl
tail_at (c ∷ cs) k = refl

-- place by place
pub kept_at_place : (vertices : List Vertex) (look : Source → Vector) (xs : List Vertex) (cells : Values) (v : ℕ) (x : Vertex)
    → slice_get xs v ≡ Some x → vector_at (all_kept vertices look xs cells) v ≡ next_kept vertices look x (vector_at cells v)
kept_at_place vertices look [] cells v x is = absurd (cc)
kept_at_place vertices look (y ∷ ys) cells zero x is = let same : y ≡ x = cc in ap (λ (z : Vertex). next_kept vertices look z (vector_at cells 0)) same
kept_at_place vertices look (y ∷ ys) cells (suc v) x is = kept_at_place vertices look ys (drop 1 cells) v x is ∙ ap (next_kept vertices look x) (tail_at cells v)

pub length-all_kept : (vertices : List Vertex) (look : Source → Vector) (xs : List Vertex) (cells : Values) → length (all_kept vertices look xs cells) ≡ length xs
length-all_kept vertices look [] cells = refl
length-all_kept vertices look (x ∷ xs) cells = ap suc (length-all_kept vertices look xs (drop 1 cells))

-- the cells of the delays are the next ones
pub cells_next : (vertices : List Vertex) (look : Source → Vector) (xs : List Vertex) (cells : Values)
    → delay_cells xs (all_kept vertices look xs cells) ≡ next_from vertices look xs (delay_cells xs cells)
cells_next vertices look [] cells = refl
cells_next vertices look (x ∷ xs) cells = by (is_get x.kind) (cells_next vertices look xs (drop 1 cells))
  where
    by : (b : Bool) → delay_cells xs (all_kept vertices look xs (drop 1 cells)) ≡ next_from vertices look xs (delay_cells xs (drop 1 cells))
        → (if b then (if b then next_cell vertices look x.twin (vector_at cells 0) else vector_at cells 0)
        ∷ delay_cells xs (all_kept vertices look xs (drop 1 cells)) else delay_cells xs (all_kept vertices look xs (drop 1 cells)))
        ≡ (if b then next_cell vertices look x.twin (vector_at (if b then vector_at cells 0 ∷ delay_cells xs (drop 1 cells) else delay_cells xs (drop 1 cells)) 0)
        ∷ next_from vertices look xs (drop 1 (if b then vector_at cells 0 ∷ delay_cells xs (drop 1 cells) else delay_cells xs (drop 1 cells)))
        else next_from vertices look xs (if b then vector_at cells 0 ∷ delay_cells xs (drop 1 cells) else delay_cells xs (drop 1 cells)))
    by true e = ap (λ (vs : Values). next_cell vertices look x.twin (vector_at cells 0) ∷ vs) e
    by false e = e

-- at first
pub cells_first : (xs : List Vertex) (cells : Values) → cells ≡ map (λ x. first_kept x.kind) xs → delay_cells xs cells ≡ initial_cells xs
cells_first xs cells e = ap (delay_cells xs) e ∙ all xs
  where
    by : (kind : Kind) (vs : Values) → (if is_get kind then first_kept kind ∷ vs else vs) ≡ initial_cell kind ++ vs
    by (Get z) vs = refl
    by (Sensor i) vs = refl
    by (Actuator i) vs = refl
    by (Function b) vs = refl
    by (Constant z) vs = refl
    by Set vs = refl
    by Explode vs = refl
    by Implode vs = refl
    by (Merge values) vs = refl

    all : (ys : List Vertex) → delay_cells ys (map (λ y. first_kept y.kind) ys) ≡ initial_cells ys
    all [] = refl
    all (y ∷ ys) = by y.kind (delay_cells ys (map (λ z. first_kept z.kind) ys)) ∙ ap (λ (vs : Values). initial_cell y.kind ++ vs) (all ys)

pub lens_first : (xs : List Vertex) → lengths (map (λ x. first_kept x.kind) xs) ≡ map (λ x. length (first_kept x.kind)) xs
lens_first [] = refl
lens_first (x ∷ xs) = ap (λ (ns : List ℕ). length (first_kept x.kind) ∷ ns) (lens_first xs)

-- their lengths
pub cells_lens : (xs : List Vertex) (cells : Values) → lengths cells ≡ map (λ x. length (first_kept x.kind)) xs → lengths (delay_cells xs cells) ≡ delay_lens xs
cells_lens [] cells e = refl
cells_lens (x ∷ xs) [] e = absurd (cc)
cells_lens (x ∷ xs) (c ∷ cells) e =
    let first : length c ≡ length (first_kept x.kind) = cc in
    let rest : lengths cells ≡ map (λ (y : Vertex). length (first_kept y.kind)) xs = cc in
    by x.kind first (cells_lens xs cells rest)
  where
    by : (kind : Kind) → length c ≡ length (first_kept kind) → lengths (delay_cells xs cells) ≡ delay_lens xs
        → lengths (if is_get kind then c ∷ delay_cells xs cells else delay_cells xs cells) ≡ delay_len kind ++ delay_lens xs
    by (Get z) f r = λ i. f i ∷ r i
    by (Sensor i) f r = r
    by (Actuator i) f r = r
    by (Function b) f r = r
    by (Constant z) f r = r
    by Set f r = r
    by Explode f r = r
    by Implode f r = r
    by (Merge values) f r = r

pub next_is : (vertices : List Vertex) (look : Source → Vector) (x : Vertex) (z : List ℤ) (cell : Vector) → x.kind ≡ Get z → next_kept vertices look x cell ≡ next_cell vertices look x.twin cell
next_is vertices look x z cell kind = ap (λ (k : Kind). if is_get k then next_cell vertices look x.twin cell else cell) kind

pub next_not : (vertices : List Vertex) (look : Source → Vector) (x : Vertex) (cell : Vector) → ((z : List ℤ) → x.kind ≡ Get z → ⊥) → next_kept vertices look x cell ≡ cell
next_not vertices look x cell not = by x.kind not
  where
    by : (k : Kind) → ((z : List ℤ) → k ≡ Get z → ⊥) → (if is_get k then next_cell vertices look x.twin cell else cell) ≡ cell
    by (Get z) n = absurd (n z refl)
    by (Sensor i) n = refl
    by (Actuator i) n = refl
    by (Function b) n = refl
    by (Constant z) n = refl
    by Set n = refl
    by Explode n = refl
    by Implode n = refl
    by (Merge values) n = refl

-- cells as they lie in memory
module _ (cells : List (Vec ℤ Global)) (v : ℕ) (cell : Vec ℤ Global) (lt : v < length cells) (at : cell ≡ get_or cells v cell) where
  pub beside : vector_at (map (λ c. c.items) cells) v ≡ cell.items
  beside = get_or-map (λ (c : Vec ℤ Global). c.items) cells v cell [] lt ∙ ap (λ (c : Vec ℤ Global). c.items) (sym at)

  pub cells_set : (new : Vec ℤ Global) → map (λ c. c.items) (set cells v new) ≡ set (map (λ c. c.items) cells) v new.items
  cells_set new = map-set (λ (c : Vec ℤ Global). c.items) cells v new

  -- a cell that keeps its length
  pub lengths_set : (new : Vec ℤ Global) → length new.items ≡ length cell.items → lengths (map (λ c. c.items) (set cells v new)) ≡ lengths (map (λ c. c.items) cells)
  lengths_set new same =
      ap lengths (cells_set new) ∙ same_map length (map (λ (c : Vec ℤ Global). c.items) cells) v new.items [] (same ∙ ap (λ (w : Vector). length w) (sym beside))

  -- a cell that stays
  pub cells_same : (new : Vec ℤ Global) → new.items ≡ cell.items → map (λ c. c.items) (set cells v new) ≡ map (λ c. c.items) cells
  cells_same new same = same_map (λ (c : Vec ℤ Global). c.items) cells v new cell (same ∙ ap (λ (c : Vec ℤ Global). c.items) at)

pub cells_count : (g : Graph) (cells : List (Vec ℤ Global)) → CellsFit g (map (λ c. c.items) cells) → length cells ≡ length g.vertices
cells_count g cells fits =
    sym (length-map cells (λ (c : Vec ℤ Global). c.items)) ∙ sym (length-map (map (λ (c : Vec ℤ Global). c.items) cells) length)
    ∙ ap (λ (ns : List ℕ). length ns) fits ∙ length-map g.vertices (λ (x : Vertex). length (first_kept x.kind))

-- a place more
pub kept_more : (vertices : List Vertex) (look : Source → Vector) (initial : Values) (v : ℕ) (x : Vertex) (old new : Values)
    → length initial ≡ length vertices → v < length vertices → slice_get vertices v ≡ Some x
    → old ≡ take v (all_kept vertices look vertices initial) ++ drop v initial → new
    ≡ set old v (next_kept vertices look x (vector_at old v)) → new ≡ take (v + 1) (all_kept vertices look vertices initial) ++ drop (v + 1) initial
kept_more vertices look initial v x old new count lt is old_is new_is =
    let target = all_kept vertices look vertices initial in
    let long : length target ≡ length vertices = length-all_kept vertices look vertices initial in
    let here : vector_at old v ≡ vector_at initial v = ap (λ (vs : Values). vector_at vs v) old_is ∙ at_seam target initial v [] (omega arith) (omega arith) in
    let value : next_kept vertices look x (vector_at old v) ≡ vector_at target v = ap (next_kept vertices look x) here ∙ sym (kept_at_place vertices look vertices initial v x is) in
    new_is ∙ ap (λ (vs : Values). set vs v (next_kept vertices look x (vector_at old v))) old_is
    ∙ fill target initial v [] (next_kept vertices look x (vector_at old v)) (omega arith) (omega arith) value

pub all_more : (vertices : List Vertex) (look : Source → Vector) (initial : Values) (v : ℕ) → length initial ≡ length vertices → length vertices ≤ v
    → take v (all_kept vertices look vertices initial) ++ drop v initial ≡ all_kept vertices look vertices initial
all_more vertices look initial v count le =
    let long : length (all_kept vertices look vertices initial) ≡ length vertices = length-all_kept vertices look vertices initial in
    all_written (all_kept vertices look vertices initial) initial v (omega arith) (omega arith)
