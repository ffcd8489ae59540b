-- What a valid flat graph and a store that fits it say of one operation.
use Rattle.std.proofs.Common.{◌≡◌, ℕ, zero, suc, ◌+◌, ◌<◌, List, [], ◌∷◌, ◌++◌, map, take, drop, length, get_or, set, Bool, true, false, ◌&&◌, ◌==◌, refl, sym, ap, ◌∙◌, subst, arith}
use Rattle.std.specs.Prelude.{Option, None, Some, slice_get, slice_index_or, replicate, nat_le, if◌then◌else◌}
use Rattle.std.specs.List.{list_all}
use Rattle.std.proofs.lemmas.Bool.{and_parts, eqb-true}
use Rattle.std.proofs.lemmas.List.{length-map}
use Rattle.flat_graph.specs.Expr.{Expr}
use Rattle.flat_graph.specs.declared.vertex.Source.{Source}
use Rattle.flat_graph.specs.declared.vertex.Guard.{Guard}
use Rattle.flat_graph.specs.declared.vertex.Kind.{Kind}
use Rattle.flat_graph.specs.declared.vertex.Kind.TheVariants.{Sensor, Actuator, Function, Constant, Get, Set, Explode, Implode, Merge}
use Rattle.flat_graph.specs.declared.vertex.Vertex.{Vertex}
use Rattle.flat_graph.specs.Graph.{Graph, with_vertex, len_of, lens_of}
use Rattle.flat_graph.specs.Valid.{is_flat, is_vertex, is_guard, fits, has_twin}
use Rattle.flat_graph.specs.Fire.{guards_hold, kind_outputs, fired, fired_at, kept_at, stored, kept, kind_cell_len, kind_seen_len, read_lens, cell_len, seen_len, out_lens}
use Rattle.flat_graph.specs.Laws.{sensor_lens}
use Rattle.flat_graph.specs.Meaning.{sensed, conditions, inputs}
use Rattle.flat_graph.proofs.KindLens.{length-vector_at, length-zeros, none_is, HasSeen, HasCell, kind_lens}
use Rattle.flat_graph.proofs.Facts.{sensor_at, vertex_valid, fits_of}
use Rattle.flat_graph.proofs.ReadLens.{cell_len_is, seen_len_is, out_lens_is}
use Rattle.sync_meaning.specs.Store.{lengths, lens_read, first_kept, given, value_at, HasRead}
use Rattle.syn_base.specs.Vectors.{Vector, Values, vector_at, zeros}

-- the same of two lists, place by place
pub same_at : {A X C : Type 0} (f : A → C) (h : X → C) (ts : List A) (xs : List X) (v : ℕ) (x : X) (d : A) → map f ts ≡ map h xs → slice_get xs v ≡ Some x → f (get_or ts v d) ≡ h x
same_at f h ts [] v x d e is = absurd (cc)
same_at f h [] (y ∷ xs) v x d e is = absurd (cc)
same_at f h (t ∷ ts) (y ∷ xs) zero x d e is =
    let same : y ≡ x = cc in
    let first : f t ≡ h y = cc in
    first ∙ ap h same
same_at f h (t ∷ ts) (y ∷ xs) (suc v) x d e is = let rest : map f ts ≡ map h xs = cc in same_at f h ts xs v x d rest is

pub same_count : {A X C : Type 0} (f : A → C) (h : X → C) (ts : List A) (xs : List X) → map f ts ≡ map h xs → length ts ≡ length xs
same_count {C = C} f h ts xs e = sym (length-map ts f) ∙ ap (λ (cs : List C). length cs) e ∙ length-map xs h

pub in_range : (xs : List Vertex) (v : ℕ) (x : Vertex) → slice_get xs v ≡ Some x → v < length xs
in_range [] v x e = absurd (cc)
in_range (y ∷ xs) zero x e = omega arith
in_range (y ∷ xs) (suc v) x e = let k = in_range xs v x e in omega (arith, k)

pub some_at : (xs : List Vertex) (v : ℕ) → v < length xs → (x : Vertex) × (slice_get xs v ≡ Some x)
some_at [] v lt = absurd (omega arith)
some_at (x ∷ xs) zero lt = (x, refl)
some_at (x ∷ xs) (suc v) lt = some_at xs v (omega arith)

pub same_vertex : (o : Option Vertex) (x y : Vertex) → o ≡ Some x → o ≡ Some y → x ≡ y
same_vertex None x y a b = absurd (cc)
same_vertex (Some z) x y a b = let first : z ≡ x = cc in let second : z ≡ y = cc in sym first ∙ second

-- the length of a source's value
module _ (vertices : List Vertex) (table : List Values) (outs : map lengths table ≡ map (λ x. x.outs) vertices) where
  pub value_len : (s : Source) → length (value_at table s) ≡ len_of vertices s
  value_len s = length-vector_at (given table s.vertex) s.port ∙ at table vertices s.vertex outs
    where
      at : (ts : List Values) (xs : List Vertex) (v : ℕ) → map lengths ts ≡ map (λ x. x.outs) xs
          → get_or (lengths (get_or ts v [])) s.port 0 ≡ with_vertex (slice_get xs v) 0 (λ x. slice_index_or x.outs s.port 0)
      at [] [] v e = refl
      at [] (x ∷ xs) v e = absurd (cc)
      at (t ∷ ts) [] v e = absurd (cc)
      at (t ∷ ts) (x ∷ xs) zero e = let first : lengths t ≡ x.outs = cc in ap (λ (ns : List ℕ). get_or ns s.port 0) first
      at (t ∷ ts) (x ∷ xs) (suc v) e = let rest : map lengths ts ≡ map (λ (y : Vertex). y.outs) xs = cc in at ts xs v rest

  pub input_lens : (ss : List Source) → lengths (map (value_at table) ss) ≡ lens_of vertices ss
  input_lens [] = refl
  input_lens (s ∷ ss) = λ i. value_len s i ∷ input_lens ss i

  pub condition_lens : (gs : List Guard) → list_all (is_guard vertices) gs ≡ true → lengths (map (λ g. value_at table g.source) gs) ≡ replicate (length gs) 1
  condition_lens [] h = refl
  condition_lens (d ∷ gs) h =
      let both = and_parts (is_guard vertices d) (list_all (is_guard vertices) gs) h in
      let one = eqb-true (len_of vertices d.source) 1 (and_parts (len_of vertices d.source == 1) (nat_le d.case (length d.values)) both.0).0 in
      λ i. (value_len d.source ∙ one) i ∷ condition_lens gs both.1 i

pub guards_of : (g : Graph) (v : ℕ) (x : Vertex) → is_vertex g v x ≡ true → list_all (is_guard g.vertices) x.guards ≡ true
guards_of g v x h =
    let twin = and_parts _ (has_twin g.vertices v x.kind x.twin) h in
    let form = and_parts _ (fits g.bodies x.kind (lens_of g.vertices x.ins) x.outs) twin.0 in
    let there = and_parts _ (list_all (nat_le 1) (lens_of g.vertices x.ins)) form.0 in
    (and_parts _ (list_all (is_guard g.vertices) x.guards) there.0).1

-- what an operation reads has these lengths
pub reads_are : (g : Graph) (table : List Values) (v : ℕ) (x : Vertex) → map lengths table ≡ map (λ x. x.outs) g.vertices → is_vertex g v x ≡ true
    → lens_read g.vertices x ≡ lengths (inputs (value_at table) x) ++ lengths (conditions (value_at table) x)
reads_are g table v x outs valid = λ i. sym (input_lens g.vertices table outs x.ins) i ++ sym (condition_lens g.vertices table outs x.guards (guards_of g v x valid)) i

module _ (g : Graph) (v : ℕ) (x : Vertex) (is : slice_get g.vertices v ≡ Some x) where
  pub read_lens_is : read_lens g v ≡ lens_read g.vertices x
  read_lens_is = ap (λ (o : Option Vertex). with_vertex o [] (λ y. lens_of g.vertices y.ins ++ replicate (length y.guards) 1)) is

  pub own_cell : (cell : Vector) → (x.kind ≡ Set → ⊥) → length cell ≡ length (first_kept x.kind) → length cell ≡ cell_len g v
  own_cell cell other long = long ∙ by x.kind other ∙ sym (cell_len_is g v x is)
    where
      by : (kind : Kind) → (kind ≡ Set → ⊥) → length (first_kept kind) ≡ kind_cell_len kind (lens_of g.vertices x.ins)
      by (Sensor i) n = refl
      by (Actuator i) n = refl
      by (Function b) n = refl
      by (Constant z) n = refl
      by (Get z) n = refl
      by Set n = absurd (n refl)
      by Explode n = refl
      by Implode n = refl
      by (Merge values) n = refl

  pub own_seen : (row : Values) (what : Vector) → is_flat g ≡ true → lengths row ≡ sensor_lens g.vertices → what ≡ sensed x.kind row → length what ≡ seen_len g v
  own_seen row what valid fit same = ap (λ (w : Vector). length w) same ∙ by x.kind refl ∙ sym (seen_len_is g v x is)
    where
      by : (kind : Kind) → x.kind ≡ kind → length (sensed kind row) ≡ kind_seen_len kind x.outs
      by (Sensor i) k = length-vector_at row i ∙ ap (λ (ns : List ℕ). slice_index_or ns i 0) fit ∙ sensor_at g valid v i x is k
      by (Actuator i) k = refl
      by (Function b) k = refl
      by (Constant z) k = refl
      by (Get z) k = refl
      by Set k = refl
      by Explode k = refl
      by Implode k = refl
      by (Merge values) k = refl

  -- what is fired has the lengths of the outputs
  pub fired_lens : is_flat g ≡ true → (cell seen : Vector) → length cell ≡ cell_len g v → length seen ≡ seen_len g v → (cs vs : Values)
      → lengths vs ≡ lens_of g.vertices x.ins → lengths (fired g.bodies x cell seen cs vs) ≡ x.outs
  fired_lens valid cell seen cell_fits seen_fits cs vs lens = by (guards_hold x.guards cs)
    where
      has_seen : (kind : Kind) → length seen ≡ kind_seen_len kind x.outs → HasSeen kind x.outs seen
      has_seen (Sensor i) e = e
      has_seen (Actuator i) e = tt
      has_seen (Function b) e = tt
      has_seen (Constant z) e = tt
      has_seen (Get z) e = tt
      has_seen Set e = tt
      has_seen Explode e = tt
      has_seen Implode e = tt
      has_seen (Merge values) e = tt

      has_cell : (kind : Kind) → length cell ≡ kind_cell_len kind (lens_of g.vertices x.ins) → HasCell kind cell
      has_cell (Get z) e = e
      has_cell (Sensor i) e = tt
      has_cell (Actuator i) e = tt
      has_cell (Function b) e = tt
      has_cell (Constant z) e = tt
      has_cell Set e = tt
      has_cell Explode e = tt
      has_cell Implode e = tt
      has_cell (Merge values) e = tt

      form : fits g.bodies x.kind (lengths vs) x.outs ≡ true
      form = subst (λ (ns : List ℕ). fits g.bodies x.kind ns x.outs ≡ true) (sym lens) (fits_of g v x (vertex_valid g valid v x is))

      by : (b : Bool) → lengths (if b then kind_outputs g.bodies x.kind x.outs cell seen vs else map zeros x.outs) ≡ x.outs
      by true = kind_lens g.bodies x.kind x.outs cell seen vs form (has_seen x.kind (seen_fits ∙ seen_len_is g v x is)) (has_cell x.kind (cell_fits ∙ cell_len_is g v x is))
      by false = length-zeros x.outs

  -- a set half gives nothing
  pub set_outs : is_flat g ≡ true → x.kind ≡ Set → x.outs ≡ []
  set_outs valid kind =
      let form : fits g.bodies Set (lens_of g.vertices x.ins) x.outs
      ≡ true = subst (λ (k : Kind). fits g.bodies k (lens_of g.vertices x.ins) x.outs ≡ true) kind (fits_of g v x (vertex_valid g valid v x is)) in
      none_is x.outs (and_parts (length (lens_of g.vertices x.ins) == 1) (length x.outs == 0) form).1

  pub set_fires : is_flat g ≡ true → x.kind ≡ Set → (cell seen : Vector) (cs vs : Values) → fired g.bodies x cell seen cs vs ≡ []
  set_fires valid kind cell seen cs vs = (λ i. if guards_hold x.guards cs then kind_outputs g.bodies (kind i) x.outs cell seen vs else map zeros (set_outs valid kind i)) ∙ by (guards_hold x.guards cs)
    where
      by : (b : Bool) → (if b then kind_outputs g.bodies Set x.outs cell seen vs else map zeros []) ≡ []
      by true = refl
      by false = refl

  -- what is fired on what was read
  pub fired_is : (look : Source → Vector) (cell seen : Vector) (read : Values) → HasRead look x read
      → fired_at g v cell seen read ≡ fired g.bodies x cell seen (conditions look x) (inputs look x)
  fired_is look cell seen read has =
      ap (λ (o : Option Vertex). with_vertex o [] (λ y. fired g.bodies y cell seen (drop (length y.ins) read) (take (length y.ins) read))) is
      ∙ ap (λ (cs : Values). fired g.bodies x cell seen cs (take (length x.ins) read)) has.conditions_are
      ∙ by (guards_hold x.guards (conditions look x)) has.inputs_are
    where
      by : (b : Bool) → (b ≡ true → take (length x.ins) read ≡ inputs look x)
          → (if b then kind_outputs g.bodies x.kind x.outs cell seen (take (length x.ins) read) else map zeros x.outs)
          ≡ (if b then kind_outputs g.bodies x.kind x.outs cell seen (inputs look x) else map zeros x.outs)
      by true same = ap (kind_outputs g.bodies x.kind x.outs cell seen) (same refl)
      by false same = refl

  -- an operation that is no set half keeps what it kept
  pub kept_is : (cell : Vector) (read : Values) → (x.kind ≡ Set → ⊥) → kept_at g v cell read ≡ cell
  kept_is cell read other =
      ap (λ (o : Option Vertex). with_vertex o cell (λ y. kept y cell (drop (length y.ins) read) (take (length y.ins) read))) is
      ∙ by x.kind (guards_hold x.guards (drop (length x.ins) read)) other
    where
      by : (kind : Kind) (b : Bool) → (kind ≡ Set → ⊥) → stored kind b cell (vector_at (take (length x.ins) read) 0) ≡ cell
      by (Sensor i) b n = refl
      by (Actuator i) b n = refl
      by (Function f) b n = refl
      by (Constant z) b n = refl
      by (Get z) b n = refl
      by Set b n = absurd (n refl)
      by Explode b n = refl
      by Implode b n = refl
      by (Merge values) b n = refl
