-- An operation that is made on its desk: what it read, and the lengths of what it gives and keeps.
use Rattle.std.proofs.Common.{◌≡◌, ℕ, zero, suc, ◌+◌, ◌<◌, Bool, true, false, List, [], ◌∷◌, ◌++◌, map, take, drop, length, Option, Some, None, refl, sym, ap, subst, arith, ◌∙◌, ℤ}
use Rattle.std.specs.Prelude.{slice_get, slice_index_or, replicate, if◌then◌else◌}
use Rattle.std.proofs.lemmas.List.{length-map, length-replicate}
use Rattle.std.proofs.lemmas.Bool.{and_parts, eqb-true}
use Rattle.std.proofs.Math.Seq.{take-append_seam, drop-append_seam}
use Rattle.executive_program.specs.declared.Vertex.{Vertex}
use Rattle.executive_program.specs.declared.Kind.{Kind}
use Rattle.executive_program.specs.declared.Kind.TheVariants.{Sensor, Actuator, Function, Constant, Get, Set, Explode, Implode, Merge}
use Rattle.executive_program.specs.Graph.{Graph, with_vertex, len_of, lens_of}
use Rattle.executive_program.specs.Fire.{fired, kept, stored, guards_hold, kind_outputs, fired_at, kept_at, read_lens, out_lens, cell_len, seen_len, kind_cell_len, kind_seen_len}
use Rattle.executive_program.specs.Meaning.{sensed}
use Rattle.executive_program.specs.FlatValid.{is_flat, fits}
use Rattle.executive_program.proofs.Facts.{vertex_valid, fits_of}
use Rattle.executive_program.proofs.KindLens.{kind_lens, length-zeros, length-vector_at, HasSeen, HasCell as HasKindCell}
use Rattle.executive_program.proofs.ReadLens.{out_lens_is, seen_len_is, cell_len_is, read_count}
use Rattle.operation_desks.specs.Operation.{vectors_from, conditions_in, inputs_in, lens_in, HasCell, cell_at, rows_by, delay_of}
use Rattle.operation_desks.specs.Desk.{DeskData, IsDesk, lens_of_desk, load_lens, loaded_in}
use Rattle.semaphore_core.specs.Rows.{TakesRow}
use Rattle.operation_desks.proofs.ReadVectors.{length-vector_in}
use Rattle.syn_base.specs.Vectors.{Vector, Values, vector_at, zeros}

pub vectors_lens : (row : List ℤ) (at : ℕ) (ns : List ℕ) → map length (vectors_from row at ns) ≡ ns
vectors_lens row at [] = refl
vectors_lens row at (n ∷ ns) = λ i. length-vector_in row at n i ∷ vectors_lens row (at + n) ns i

map-drop : (n : ℕ) (vs : Values) → map length (drop n vs) ≡ drop n (map length vs)
map-drop zero vs = refl
map-drop (suc n) [] = refl
map-drop (suc n) (v ∷ vs) = map-drop n vs

first-take : (n : ℕ) (vs : Values) → 0 < n → vector_at (take n vs) 0 ≡ vector_at vs 0
first-take zero vs h = absurd (omega arith)
first-take (suc n) [] h = refl
first-take (suc n) (v ∷ vs) h = refl

-- the cell of an operation has the length that its kind says
pub cell_fits : (cells : Values) (o : Option ℕ) (n : ℕ) → HasCell cells o n → length (cell_at cells o) ≡ n
cell_fits cells None n h = sym h
cell_fits cells (Some d) n h = h.1

module _ (g : Graph) (valid : is_flat g ≡ true) (v : ℕ) (x : Vertex) (is : slice_get g.vertices v ≡ Some x) where
  there : (xs : List Vertex) (v : ℕ) → slice_get xs v ≡ Some x → v < length xs
  there [] v e = absurd cc
  there (y ∷ xs) zero e = omega arith
  there (y ∷ xs) (suc v) e = let h = there xs v e in omega arith

  pub is_there : v < length g.vertices
  is_there = there g.vertices v is

  fit : fits g.bodies x.kind (lens_of g.vertices x.ins) x.outs ≡ true
  fit = fits_of g v x (vertex_valid g valid v x is)

  -- the values of its sources as they were loaded
  module _ (row : List ℤ) where
    abbrev V : Values
    V = vectors_from row 0 (lens_in g x)

    inputs_lens : map length (inputs_in x (vectors_from row 0 (lens_in g x))) ≡ lens_of g.vertices x.ins
    inputs_lens = map-drop (length x.guards) V ∙ ap (drop (length x.guards)) (vectors_lens row 0 (lens_in g x))
        ∙ ap (λ (n : ℕ). drop n (lens_in g x)) (sym (length-replicate (length x.guards) 1)) ∙ drop-append_seam (replicate (length x.guards) 1) (lens_of g.vertices x.ins)

    -- its outputs have their lengths
    pub outputs_lens : (cell seen : Vector) → length cell ≡ cell_len g v → length seen ≡ seen_len g v
        → map length (fired g.bodies x cell seen (conditions_in x (vectors_from row 0 (lens_in g x)))
        (inputs_in x (vectors_from row 0 (lens_in g x)))) ≡ out_lens g v
    outputs_lens cell seen c s = by (guards_hold x.guards (conditions_in x V)) ∙ sym (out_lens_is g v x is)
      where
        I : Values
        I = inputs_in x V

        here : (k : Kind) → k ≡ x.kind → HasSeen k x.outs seen
        here (Sensor i) e = s ∙ seen_len_is g v x is ∙ ap (λ (q : Kind). kind_seen_len q x.outs) (sym e)
        here (Actuator i) e = tt
        here (Function b) e = tt
        here (Constant z) e = tt
        here (Get z) e = tt
        here Set e = tt
        here Explode e = tt
        here Implode e = tt
        here (Merge z) e = tt

        own : (k : Kind) → k ≡ x.kind → HasKindCell k cell
        own (Sensor i) e = tt
        own (Actuator i) e = tt
        own (Function b) e = tt
        own (Constant z) e = tt
        own (Get z) e = c ∙ cell_len_is g v x is ∙ ap (λ (q : Kind). kind_cell_len q (lens_of g.vertices x.ins)) (sym e)
        own Set e = tt
        own Explode e = tt
        own Implode e = tt
        own (Merge z) e = tt

        by : (b : Bool) → map length (if b then kind_outputs g.bodies x.kind x.outs cell seen I else map zeros x.outs) ≡ x.outs
        by true = kind_lens g.bodies x.kind x.outs cell seen I (ap (λ (l : List ℕ). fits g.bodies x.kind l x.outs) inputs_lens ∙ fit) (here x.kind refl) (own x.kind refl)
        by false = length-zeros x.outs

    -- what it keeps is as long as its cell
    pub kept_len : (cell : Vector) → length cell ≡ cell_len g v
        → length (kept x cell (conditions_in x (vectors_from row 0 (lens_in g x))) (inputs_in x (vectors_from row 0 (lens_in g x)))) ≡ length cell
    kept_len cell c = by x.kind refl (guards_hold x.guards (conditions_in x V))
      where
        I : Values
        I = inputs_in x V

        by : (k : Kind) → k ≡ x.kind → (b : Bool) → length (stored k b cell (vector_at I 0)) ≡ length cell
        by Set e true = length-vector_at I 0 ∙ ap (λ (l : List ℕ). slice_index_or l 0 0) inputs_lens
            ∙ sym (c ∙ cell_len_is g v x is ∙ ap (λ (q : Kind). kind_cell_len q (lens_of g.vertices x.ins)) (sym e))
        by Set e false = refl
        by (Sensor i) e b = refl
        by (Actuator i) e b = refl
        by (Function f) e b = refl
        by (Constant z) e b = refl
        by (Get z) e b = refl
        by Explode e b = refl
        by Implode e b = refl
        by (Merge z) e b = refl

  -- its desk
  module _ (d : DeskData) (k : IsDesk g v x (lens_of_desk d)) where
    pub reads_are : map length d.read ≡ read_lens g v
    reads_are = k.reads

    pub gives_are : map length d.outs ≡ out_lens g v
    gives_are = k.gives

    pub counted : d.inputs + d.guards ≡ length d.read
    counted = (let a = k.inputs in let b = k.guards in let c = read_count g v x is d.read k.reads in omega arith)

    split : map length d.read ≡ lens_of g.vertices x.ins ++ replicate (length x.guards) 1
    split = k.reads ∙ ap (λ (o : Option Vertex). with_vertex o [] (λ y. lens_of g.vertices y.ins ++ replicate (length y.guards) 1)) is

    inputs_count : d.inputs ≡ length (lens_of g.vertices x.ins)
    inputs_count = k.inputs ∙ sym (length-map x.ins (len_of g.vertices))

    -- it is loaded in the order of its sources
    pub load_is : load_lens d ≡ lens_in g x
    load_is = (λ i. drop (inputs_count i) (split i) ++ take (inputs_count i) (split i))
        ∙ (λ i. drop-append_seam (lens_of g.vertices x.ins) (replicate (length x.guards) 1) i ++ take-append_seam (lens_of g.vertices x.ins) (replicate (length x.guards) 1) i)

    module _ (row : List ℤ) (new : Values) (conditions : drop d.inputs new ≡ take d.guards (loaded_in d row)) (inputs : take d.inputs new ≡ drop d.guards (loaded_in d row)) where
      conditions_are : drop (length x.ins) new ≡ conditions_in x (vectors_from row 0 (lens_in g x))
      conditions_are = ap (λ (n : ℕ). drop n new) (sym k.inputs) ∙ conditions ∙ (λ i. take (k.guards i) (vectors_from row 0 (load_is i)))

      inputs_are : take (length x.ins) new ≡ inputs_in x (vectors_from row 0 (lens_in g x))
      inputs_are = ap (λ (n : ℕ). take n new) (sym k.inputs) ∙ inputs ∙ (λ i. drop (k.guards i) (vectors_from row 0 (load_is i)))

      pub fired_is : (cell seen : Vector) → fired_at g v cell seen new
          ≡ fired g.bodies x cell seen (conditions_in x (vectors_from row 0 (lens_in g x))) (inputs_in x (vectors_from row 0 (lens_in g x)))
      fired_is cell seen = ap (λ (o : Option Vertex). with_vertex o []
          (λ y. fired g.bodies y cell seen (drop (length y.ins) new) (take (length y.ins) new))) is
          ∙ (λ i. fired g.bodies x cell seen (conditions_are i) (inputs_are i))

      pub kept_is : (cell : Vector) → kept_at g v cell new ≡ kept x cell (conditions_in x (vectors_from row 0 (lens_in g x))) (inputs_in x (vectors_from row 0 (lens_in g x)))
      kept_is cell = ap (λ (o : Option Vertex). with_vertex o cell (λ y. kept y cell (drop (length y.ins) new) (take (length y.ins) new))) is ∙ (λ i. kept x cell (conditions_are i) (inputs_are i))

      module _ (rows_lens : List ℕ) (fits_row : (a : ℕ) → x.kind ≡ Actuator a → (a < length rows_lens) × (slice_index_or rows_lens a 0 ≡ slice_index_or (lens_of g.vertices x.ins) 0 0)) where
        one_input : (a : ℕ) → x.kind ≡ Actuator a → length x.ins ≡ 1
        one_input a e = let f : fits g.bodies (Actuator a) (lens_of g.vertices x.ins) x.outs ≡ true = subst (λ (q : Kind). fits g.bodies q (lens_of g.vertices x.ins) x.outs ≡ true) e fit in
            sym (length-map x.ins (len_of g.vertices)) ∙ eqb-true (length (lens_of g.vertices x.ins)) 1 (and_parts _ _ f).0

        pub first_input : (a : ℕ) → x.kind ≡ Actuator a → vector_at new 0 ≡ vector_at (inputs_in x (vectors_from row 0 (lens_in g x))) 0
        first_input a e = sym (first-take (length x.ins) new (let o = one_input a e in omega arith)) ∙ ap (λ (vs : Values). vector_at vs 0) inputs_are

        -- an actuator takes a vector of its row's length
        pub takes_row : map length new ≡ map length d.read → TakesRow x rows_lens new
        takes_row same = by x.kind refl
          where
            by : (q : Kind) → x.kind ≡ q → TakesRow (record x { kind = q }) rows_lens new
            by (Actuator a) e = (let r = fits_row a e in (
              r.0,
              (let o = one_input a e in let c = read_count g v x is new (same ∙ k.reads) in omega arith),
              ap (λ (z : Vector). length z) (first_input a e) ∙ length-vector_at (inputs_in x V') 0
                  ∙ ap (λ (l : List ℕ). slice_index_or l 0 0) (inputs_lens row) ∙ sym r.1,
            ))
              where
                V' : Values
                V' = vectors_from row 0 (lens_in g x)
            by (Sensor i) e = tt
            by (Function f) e = tt
            by (Constant z) e = tt
            by (Get z) e = tt
            by Set e = tt
            by Explode e = tt
            by Implode e = tt
            by (Merge z) e = tt

        pub rows_are : (n : ℕ) (rows : List Values) → rows_by x.kind n (vector_at new 0) rows ≡ rows_by x.kind n (vector_at (inputs_in x (vectors_from row 0 (lens_in g x))) 0) rows
        rows_are n rows = by x.kind refl
          where
            by : (q : Kind) → x.kind ≡ q → rows_by q n (vector_at new 0) rows ≡ rows_by q n (vector_at (inputs_in x (vectors_from row 0 (lens_in g x))) 0) rows
            by (Actuator a) e = ap (λ (z : Vector). rows_by (Actuator a) n z rows) (first_input a e)
            by (Sensor i) e = refl
            by (Function f) e = refl
            by (Constant z) e = refl
            by (Get z) e = refl
            by Set e = refl
            by Explode e = refl
            by Implode e = refl
            by (Merge z) e = refl

  -- what it senses has its length
  pub senses : (lens : List ℕ) (seen : Vector) (row : Values) → seen ≡ sensed x.kind row → ((i : ℕ) → x.kind ≡ Sensor i → length seen ≡ slice_index_or lens i 0)
      → ((i : ℕ) → x.kind ≡ Sensor i → (i < length lens) × (slice_index_or lens i 0 ≡ seen_len g v)) → length seen ≡ seen_len g v
  senses lens seen row s n h = by x.kind refl
    where
      none : (q : Kind) → x.kind ≡ q → sensed q row ≡ [] → kind_seen_len q x.outs ≡ 0 → length seen ≡ seen_len g v
      none q e z w = ap (λ (r : Vector). length r) (s ∙ ap (λ (r : Kind). sensed r row) e ∙ z) ∙ sym (seen_len_is g v x is ∙ ap (λ (r : Kind). kind_seen_len r x.outs) e ∙ w)

      by : (q : Kind) → x.kind ≡ q → length seen ≡ seen_len g v
      by (Sensor i) e = n i e ∙ (h i e).1
      by (Actuator a) e = none (Actuator a) e refl refl
      by (Function f) e = none (Function f) e refl refl
      by (Constant z) e = none (Constant z) e refl refl
      by (Get z) e = none (Get z) e refl refl
      by Set e = none Set e refl refl
      by Explode e = none Explode e refl refl
      by Implode e = none Implode e refl refl
      by (Merge z) e = none (Merge z) e refl refl

  -- the desk after it was read and the operation computed
  module _ (d read made : DeskData) (k : IsDesk g v x (lens_of_desk d)) (row : List ℤ)
      (conditions : drop d.inputs read.read ≡ take d.guards (loaded_in d row)) (inputs : take d.inputs read.read ≡ drop d.guards (loaded_in d row))
      (lens : map length read.read ≡ map length d.read) (rest : read ≡ record d { read = read.read }) (flat : Graph) (flat_is : flat ≡ g) (cells : Values) (seen : Vector)
      (outs : made ≡ record read { outs = fired_at flat v (cell_at cells read.delay) seen read.read })
      (cell : HasCell cells (delay_of g v x) (cell_len g v)) (seen_len_is' : length seen ≡ seen_len g v) where
    pub delay_is : read.delay ≡ delay_of g v x
    delay_is = ap (λ (e : DeskData). e.delay) rest ∙ k.delay

    pub cell_long : length (cell_at cells read.delay) ≡ cell_len g v
    cell_long = ap (λ (o : Option ℕ). length (cell_at cells o)) delay_is ∙ cell_fits cells (delay_of g v x) (cell_len g v) cell

    pub given : made.outs ≡ fired g.bodies x (cell_at cells (delay_of g v x)) seen (conditions_in x (vectors_from row 0 (lens_in g x))) (inputs_in x (vectors_from row 0 (lens_in g x)))
    given = ap (λ (e : DeskData). e.outs) outs ∙ (λ i. fired_at (flat_is i) v (cell_at cells (delay_is i)) seen read.read)
        ∙ fired_is d k row read.read conditions inputs (cell_at cells (delay_of g v x)) seen

    pub given_lens : map length made.outs ≡ out_lens g v
    given_lens = ap (map length) given ∙ outputs_lens row (cell_at cells (delay_of g v x)) seen (cell_fits cells (delay_of g v x) (cell_len g v) cell) seen_len_is'

    pub read_same : made.read ≡ read.read
    read_same = ap (λ (e : DeskData). e.read) outs

    pub desk_same : lens_of_desk made ≡ lens_of_desk d
    desk_same = λ i. record {
      reads = (ap (map length) read_same ∙ lens) i;
      gives = (given_lens ∙ sym k.gives) i;
      guards = (ap (λ (e : DeskData). e.guards) outs ∙ ap (λ (e : DeskData). e.guards) rest) i;
      inputs = (ap (λ (e : DeskData). e.inputs) outs ∙ ap (λ (e : DeskData). e.inputs) rest) i;
      delay = (ap (λ (e : DeskData). e.delay) outs ∙ ap (λ (e : DeskData). e.delay) rest) i;
    }
