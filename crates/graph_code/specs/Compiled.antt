-- When code is that of a flat graph.
use Rattle.std.specs.Prelude.{◌≡◌, ℕ, suc, ◌≤◌, List, [], ◌∷◌, map, length, sum, Some, slice_get, slice_index_or}
use Rattle.flat_graph.specs.Expr.{Expr, index}
use Rattle.flat_graph.specs.declared.vertex.Kind.{Kind}
use Rattle.flat_graph.specs.declared.vertex.Kind.TheVariants.{Function}
use Rattle.flat_graph.specs.declared.vertex.Vertex.{Vertex}
use Rattle.flat_graph.specs.Graph.{Graph}
use Rattle.expression_code.specs.Code.{size}
use Rattle.expression_code.specs.Compiled.{Compiled}
use Rattle.expression_code.specs.declared.step.Span.{Span}
use Rattle.graph_code.specs.declared.operation.Output.{Output}
use Rattle.graph_code.specs.declared.operation.Operation.{Operation}
use Rattle.graph_code.specs.declared.graph.GraphCode.{GraphCode}
use Rattle.graph_code.specs.Places.{width_of, start_of, span_of, output_span}

-- What holds of each of these, numbered from n on.
abbrev pub EachFrom : {A : Type 0} → (ℕ → A → Type 0) → ℕ → List A → Type 0
EachFrom P n [] = Unit {0}
EachFrom P n (x ∷ xs) = P n x × EachFrom P (suc n) xs

-- The code of an output is that of an expression over these ports, in a store of which the first words
-- are the values of the graph; it needs no more words than there is room for.
pub record IsOutput (ports : List Span) (width room : ℕ) (to : Span) (e : Expr) (o : Output) : Type 0 where
  pub to_is : o.to ≡ to
  pub code : Compiled ports to.len (record { from = width; steps = [] }) o.code e o.at
  pub fits : size o.code ≤ room

-- The code of output p of a function, whose outputs begin at a place.
abbrev pub IsOutputAt : List Span → ℕ → ℕ → ℕ → List ℕ → List Expr → ℕ → Output → Type 0
IsOutputAt ports width room start outs body p o =
    IsOutput ports width room (output_span start outs p) (slice_index_or body p index) o

-- The codes of the outputs of a function, whose outputs begin at a place.
pub record AreOutputs (ports : List Span) (width room start : ℕ) (outs : List ℕ) (body : List Expr)
    (os : List Output) : Type 0 where
  pub count : length os ≡ length outs
  pub each : EachFrom (IsOutputAt ports width room start outs body) 0 os

-- The outputs of a function, which begin at a place, have their codes over these inputs; any other
-- operation needs none.
abbrev pub HasCode : Graph → ℕ → Vertex → Kind → List Span → ℕ → List Output → Type 0
HasCode g room x (Function b) inputs start os =
    AreOutputs inputs (width_of g.vertices) room start x.outs (slice_index_or g.bodies b []) os
HasCode g room x _ inputs start os = Unit {0}

-- The outputs of operation v have their codes, whatever operation that is.
abbrev pub HasCodeAt : Graph → ℕ → ℕ → List Span → ℕ → List Output → Type 0
HasCodeAt g room v inputs start os =
    (x : Vertex) → slice_get g.vertices v ≡ Some x → HasCode g room x x.kind inputs start os

-- The inputs of operation v stand in these spans.
abbrev pub AreInputs : Graph → ℕ → List Span → Type 0
AreInputs g v spans = (x : Vertex) → slice_get g.vertices v ≡ Some x → spans ≡ map (span_of g.vertices) x.ins

-- The code of operation v, which is x: where its outputs and its sources stand, and its outputs' codes.
pub record IsOperation (g : Graph) (room v : ℕ) (x : Vertex) (o : Operation) : Type 0 where
  pub to : o.to ≡ record { start = start_of g.vertices v; len = sum x.outs }
  pub inputs : o.inputs.items ≡ map (span_of g.vertices) x.ins
  pub conditions : o.conditions.items ≡ map (λ c. span_of g.vertices c.source) x.guards
  pub code : HasCode g room x x.kind o.inputs.items o.to.start o.outputs.items

-- The code of operation v, whatever that is.
abbrev pub IsOperationAt : Graph → ℕ → ℕ → Operation → Type 0
IsOperationAt g room v o = (x : Vertex) → slice_get g.vertices v ≡ Some x → IsOperation g room v x o

-- The codes of all operations, in order.
pub record AreOperations (g : Graph) (room : ℕ) (os : List Operation) : Type 0 where
  pub count : length os ≡ length g.vertices
  pub each : EachFrom (IsOperationAt g room) 0 os

-- The code is that of a flat graph: it has that of each operation, and a store of it has room for the
-- values of all of them.
pub record IsCodeOf (g : Graph) (code : GraphCode) : Type 0 where
  pub operations : AreOperations g code.room code.operations.items
  pub width : width_of g.vertices ≤ code.room
