-- What a reaction of one operation does to the store.
use Rattle.std.proofs.Common.{◌≡◌, ◌≢◌, ℕ, ◌<◌, List, [], ◌∷◌, ◌++◌, map, take, drop, length, get_or, set, true, refl, sym, ap, subst, ◌∙◌, arith, get_or-set_same, get_or-set_other}
use Rattle.std.specs.Prelude.{Some, slice_get, ℤ, slice_index_or}
use Rattle.flat_graph.specs.declared.vertex.Source.{Source}
use Rattle.flat_graph.specs.declared.vertex.Vertex.{Vertex}
use Rattle.flat_graph.specs.Graph.{Graph}
use Rattle.flat_graph.specs.declared.vertex.Kind.TheVariants.{Set}
use Rattle.flat_graph.specs.Valid.{is_flat}
use Rattle.flat_graph.specs.Fire.{fired, fired_at}
use Rattle.flat_graph.specs.Meaning.{sensed, conditions, inputs}
use Rattle.sync_meaning.specs.Store.{lengths, given, value_at, HasRead}
use Rattle.sync_meaning.specs.declared.layout.Store.{Store}
use Rattle.sync_meaning.specs.Reaction.{kept_in, FitsStore, Gives, HasRun}
use Rattle.sync_meaning.proofs.Facts.{same_at, same_vertex, fired_is, set_outs, set_fires}
use Rattle.sync_meaning.proofs.Keeping.{same_map}
use Rattle.syn_base.specs.Vectors.{Vector, Values, vector_at}

-- the two names of one vertex
there_is : (g : Graph) (v : ℕ) (x y : Vertex) → slice_get g.vertices v ≡ Some x → slice_get g.vertices v ≡ Some y → x ≡ y
there_is g v x y a b = same_vertex (slice_get g.vertices v) x y a b

-- an operation of a table has given
pub gives : (g : Graph) (v : ℕ) (x : Vertex) (cell seen : Vector) (read : Values) (old new : List Values) (outs : Values) → slice_get g.vertices v ≡ Some x → v < length old
    → HasRead (value_at old) x read → outs ≡ fired_at g v cell seen read → lengths outs ≡ lengths (given old v) → new ≡ set old v outs → Gives g v cell seen old new
gives g v x cell seen read old new outs is lt has outs_are fit new_is = record {
  lens = ap (map lengths) new_is ∙ same_map lengths old v outs [] fit;
  here = λ y at.
      ap (λ (t : List Values). given t v) new_is ∙ get_or-set_same old v outs [] lt ∙ outs_are ∙ fired_is g v x is (value_at old) cell seen read has
      ∙ ap (λ (z : Vertex). fired g.bodies z cell seen (conditions (value_at old) z) (inputs (value_at old) z)) (there_is g v x y is at);
  others = λ u other. ap (λ (t : List Values). given t u) new_is ∙ get_or-set_other old v u outs [] other;
}

no_lengths : (vs : Values) → lengths vs ≡ [] → vs ≡ []
no_lengths [] e = refl
no_lengths (v ∷ vs) e = absurd (cc)

-- a set half leaves the store as it is
pub set_stays : (g : Graph) (row : Values) (v : ℕ) (x : Vertex) (s : Store) → slice_get g.vertices v ≡ Some x → is_flat g ≡ true → x.kind ≡ Set → FitsStore g s → HasRun g row v s s
set_stays g row v x s is valid kind fits = record {
  fits = fits;
  cells = refl;
  here = λ y at.
      let same : x ≡ y = there_is g v x y is at in
      let set_kind : y.kind ≡ Set = subst (λ (z : Vertex). z.kind ≡ Set) same kind in
      let none : lengths (given s.table.items v) ≡ [] = same_at lengths (λ (z : Vertex). z.outs) s.table.items g.vertices v y [] fits.outs_fit at ∙ set_outs g v y at valid set_kind in
      no_lengths (given s.table.items v) none
      ∙ sym (set_fires g v y at valid set_kind (vector_at (kept_in s) v) (sensed y.kind row) (conditions (value_at s.table.items) y) (inputs (value_at s.table.items) y));
  others = λ u other. refl;
}

-- any other operation gives, and what it keeps stays
pub has_run : (g : Graph) (row : Values) (v : ℕ) (x : Vertex) (old new : Store) (read : Values) → slice_get g.vertices v ≡ Some x
    → FitsStore g old → lengths read ≡ lengths (given old.reads.items v) → new.reads.items ≡ set old.reads.items v read
    → Gives g v (vector_at (kept_in old) v) (sensed x.kind row) old.table.items new.table.items → kept_in new ≡ kept_in old → HasRun g row v old new
has_run g row v x old new read is fits same reads given_is cells = record {
  fits = record {
    reads_fit = ap (map lengths) reads ∙ same_map lengths old.reads.items v read [] same ∙ fits.reads_fit;
    outs_fit = given_is.lens ∙ fits.outs_fit;
    cells_fit = ap lengths cells ∙ fits.cells_fit;
  };
  cells = cells;
  here = λ y at.
      given_is.here y at
      ∙ ap (λ (z : Vertex). fired g.bodies y (vector_at (kept_in old) v) (sensed z.kind row) (conditions (value_at old.table.items) y) (inputs (value_at old.table.items) y)) (there_is g v x y is at);
  others = given_is.others;
}
