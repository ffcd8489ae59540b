-- The operation is made on its desk.
use Rattle.std.proofs.Common.{◌≡◌, ℕ, ◌<◌, ◌≤◌, ◌∙◌, length, map, sym, ap, subst, arith, refl, true, Some, None, List, Option}
use Rattle.std.specs.Prelude.{slice_get, slice_index_or}
use Rattle.std.specs.Option.{option_map}
use Rattle.std.specs.Vec.{with_item}
use Rattle.std.proofs.lemmas.List.{length-map}
use Rattle.std.proofs.lemmas.Option.{slice_get_read, slice_get-map, slice_get_past}
use Rattle.std.proofs.Math.Seq.{map-set_same}
use Rattle.syn_base.specs.Rows.{Reactions}
use Rattle.executive_program.specs.declared.Vertex.{Vertex}
use Rattle.executive_program.specs.Graph.{Graph}
use Rattle.executive_program.specs.FlatValid.{is_flat}
use Rattle.executive_program.proofs.ReadLens.{vertex_there}
use Rattle.semaphore_core.specs.Job.{JobData}
use Rattle.operation_desks.specs.Desk.{DeskData, DeskLens, HasDesk, lens_of_desk}
use Rattle.operation_desks.specs.Registers.{compute_by}
use Rattle.semaphore_core.specs.Parts.{Kept, own_of, with_kept, with_values}
use Rattle.semaphore_core.specs.Held.{AreReady, HasRow, IsLaid}
use Rattle.semaphore_core.proofs.Operate.{is_there}
use Rattle.semaphore_core.proofs.Ready.{has_cell}
use Rattle.semaphore_core.proofs.operations.Operations.compute.Goals as goal

found : (vs : List Vertex) (f g : Graph) (v : ℕ) (x : Vertex) → vs ≡ f.vertices → f ≡ g → v < length vs → x ≡ slice_index_or vs v x → slice_get g.vertices v ≡ Some x
found vs f g v x e q l i = let n = ap (λ (l : List Vertex). length l) (e ∙ ap (λ (h : Graph). h.vertices) q) in vertex_there vs g.vertices v x (e ∙ ap (λ (h : Graph). h.vertices) q) (omega arith) i

past : (vs : List Vertex) (f g : Graph) (v : ℕ) → vs ≡ f.vertices → f ≡ g → length vs ≤ v → slice_get g.vertices v ≡ None
past vs f g v e q l = let n = ap (λ (l : List Vertex). length l) (e ∙ ap (λ (h : Graph). h.vertices) q) in slice_get_past g.vertices v (omega arith)

-- what stands in the place of an operation that is laid out
stands : (j : JobData) (lens : List ℕ) (all : List (Option DeskLens)) (desks : List (Option DeskData)) (v : ℕ) (x : Vertex)
    (o : Option DeskData) → map (option_map lens_of_desk) desks ≡ all → IsLaid j lens all v → length all ≡ length j.graph.vertices
    → is_flat j.graph ≡ true → slice_get j.graph.vertices v ≡ Some x → o ≡ slice_index_or desks v o → HasDesk j.graph v x (option_map lens_of_desk o)
stands j lens all desks v x o e laid n valid is read =
    let there : v < length desks = let a = is_there j.graph valid v x is in let b = length-map desks (option_map lens_of_desk) in
    let l = ap (λ (l : List (Option DeskLens)). length l) e in omega arith in
    laid.desk x (option_map lens_of_desk o) is (ap (λ (l : List (Option DeskLens)). slice_get l v) (sym e) ∙ slice_get-map (option_map lens_of_desk) desks v
    ∙ ap (option_map (option_map lens_of_desk)) (slice_get_read desks (length desks) v o refl there read))

pub operate-requires-clause-desk : goal.operate-requires-clause-desk
operate-requires-clause-desk c =
    let is : slice_get c.args.job.now.graph.vertices c.args.vertex
    ≡ Some c.index-vertices-vertex.result =
    found c.vertices-vertices.result.now c.flat.result.now c.args.job.now.graph c.args.vertex c.index-vertices-vertex.result
    c.vertices-vertices.ensures.same c.flat.ensures c.if-vertex-vertices.true c.index-vertices-vertex.is in
    let r = c.requires.ready in
    subst (λ (o : Option DeskData). HasDesk c.args.job.now.graph c.args.vertex c.index-vertices-vertex.result (option_map lens_of_desk o)) c.in-Some.is
    (stands c.args.job.now c.args.self.now.lens c.args.self.now.desks c.self.inside.desks.items c.args.vertex
    c.index-vertices-vertex.result c.index_mut.result.now
    (ap (λ (k : Kept). k.desks) c.self.view_is) c.requires.laid r.desks_there r.valid is c.index_mut.ensures.value)

pub unreachable-requires : goal.unreachable-requires
unreachable-requires c =
    let is : slice_get c.args.job.now.graph.vertices c.args.vertex
    ≡ Some c.index-vertices-vertex.result =
    found c.vertices-vertices.result.now c.flat.result.now c.args.job.now.graph c.args.vertex c.index-vertices-vertex.result
    c.vertices-vertices.ensures.same c.flat.ensures c.if-vertex-vertices.true c.index-vertices-vertex.is in
    let r = c.requires.ready in
    subst (λ (o : Option DeskData). HasDesk c.args.job.now.graph c.args.vertex c.index-vertices-vertex.result (option_map lens_of_desk o)) c.in-None.is
    (stands c.args.job.now c.args.self.now.lens c.args.self.now.desks c.self.inside.desks.items c.args.vertex
    c.index-vertices-vertex.result c.index_mut.result.now
    (ap (λ (k : Kept). k.desks) c.self.view_is) c.requires.laid r.desks_there r.valid is c.index_mut.ensures.value)

pub operate-requires-clause-cell : goal.operate-requires-clause-cell
operate-requires-clause-cell c =
    let is : slice_get c.args.job.now.graph.vertices c.args.vertex
    ≡ Some c.index-vertices-vertex.result =
    found c.vertices-vertices.result.now c.flat.result.now c.args.job.now.graph c.args.vertex c.index-vertices-vertex.result
    c.vertices-vertices.ensures.same c.flat.ensures c.if-vertex-vertices.true c.index-vertices-vertex.is in
    has_cell c.args.job.now (record {
      cells = map (λ v. v.items) c.self.inside.cells.items;
      rows = c.self.inside.rows.reactions;
      lens =
          c.self.inside.rows.lens;
      desks = map (option_map lens_of_desk) c.self.inside.desks.items;
    })
    (subst (AreReady c.args.job.now) (sym c.self.view_is) c.requires.ready) c.args.vertex c.index-vertices-vertex.result is

pub operate-requires-clause-sensor : goal.operate-requires-clause-sensor
operate-requires-clause-sensor c =
    let is : slice_get c.args.job.now.graph.vertices c.args.vertex
    ≡ Some c.index-vertices-vertex.result =
    found c.vertices-vertices.result.now c.flat.result.now c.args.job.now.graph c.args.vertex c.index-vertices-vertex.result
    c.vertices-vertices.ensures.same c.flat.ensures c.if-vertex-vertices.true c.index-vertices-vertex.is in
    λ i e. c.requires.ready.sensor_fits c.args.vertex c.index-vertices-vertex.result i is e

pub operate-requires-clause-actuator : goal.operate-requires-clause-actuator
operate-requires-clause-actuator c =
    let is : slice_get c.args.job.now.graph.vertices c.args.vertex
    ≡ Some c.index-vertices-vertex.result =
    found c.vertices-vertices.result.now c.flat.result.now c.args.job.now.graph c.args.vertex c.index-vertices-vertex.result
    c.vertices-vertices.ensures.same c.flat.ensures c.if-vertex-vertices.true c.index-vertices-vertex.is in
    λ a e. (let r : HasRow c.args.job.now c.self.inside.rows.lens c.args.vertex = subst (λ (k : Kept). HasRow c.args.job.now k.lens c.args.vertex) (sym c.self.view_is) c.requires.laid.row in
    r c.index-vertices-vertex.result a is e)

pub returns-else-vertex-vertices-clause-registers : goal.returns-else-vertex-vertices-clause-registers
returns-else-vertex-vertices-clause-registers c =
    let is : slice_get c.args.job.now.graph.vertices c.args.vertex
    ≡ None = past c.vertices-vertices.result.now c.flat.result.now c.args.job.now.graph c.args.vertex c.vertices-vertices.ensures.same
    c.flat.ensures c.if-vertex-vertices.false in
    c.clear.ensures ∙ ap (λ (o : Option Vertex). with_values c.args.registers.now
    (compute_by c.args.job.now.graph c.args.job.now.sensors c.args.vertex c.args.reaction c.args.registers.now.values
    (own_of c.args.registers.now c.args.self.now) o)) (sym is)

pub returns-else-vertex-vertices-clause-kept : goal.returns-else-vertex-vertices-clause-kept
returns-else-vertex-vertices-clause-kept c =
    let is : slice_get c.args.job.now.graph.vertices c.args.vertex
    ≡ None = past c.vertices-vertices.result.now c.flat.result.now c.args.job.now.graph c.args.vertex c.vertices-vertices.ensures.same
    c.flat.ensures c.if-vertex-vertices.false in
    ap (λ (o : Option Vertex). with_kept c.args.self.now
    (compute_by c.args.job.now.graph c.args.job.now.sensors c.args.vertex c.args.reaction c.args.registers.now.values
    (own_of c.args.registers.now c.args.self.now) o)) (sym is)

pub returns-in-Some-clause-registers : goal.returns-in-Some-clause-registers
returns-in-Some-clause-registers c =
    let is : slice_get c.args.job.now.graph.vertices c.args.vertex
    ≡ Some c.index-vertices-vertex.result =
    found c.vertices-vertices.result.now c.flat.result.now c.args.job.now.graph c.args.vertex c.index-vertices-vertex.result
    c.vertices-vertices.ensures.same c.flat.ensures c.if-vertex-vertices.true c.index-vertices-vertex.is in
    c.operate.ensures.registers ∙ (λ i. with_values c.args.registers.now
    (compute_by c.args.job.now.graph c.args.job.now.sensors c.args.vertex c.args.reaction c.args.registers.now.values
    (own_of c.args.registers.now (c.self.view_is i)) (sym is i)))

pub returns-in-Some-clause-kept : goal.returns-in-Some-clause-kept
returns-in-Some-clause-kept c =
    let is : slice_get c.args.job.now.graph.vertices c.args.vertex
    ≡ Some c.index-vertices-vertex.result =
    found c.vertices-vertices.result.now c.flat.result.now c.args.job.now.graph c.args.vertex c.index-vertices-vertex.result
    c.vertices-vertices.ensures.same c.flat.ensures c.if-vertex-vertices.true c.index-vertices-vertex.is in
    let same : map (option_map lens_of_desk) (with_item c.self.inside.desks c.args.vertex (Some c.operate.new.desk)).items
    ≡ map (option_map lens_of_desk) c.self.inside.desks.items =
    map-set_same (option_map lens_of_desk) c.self.inside.desks.items c.args.vertex (Some c.operate.new.desk) c.index_mut.result.now
    (ap (λ (d : DeskLens). Some d) c.operate.ensures.desk ∙ ap (option_map lens_of_desk) (sym c.in-Some.is) ∙ ap (option_map lens_of_desk) c.index_mut.ensures.value) in
    (λ i. record {
      cells = c.operate.ensures.cells i;
      rows = ap (λ (r : Reactions). r.reactions) c.operate.ensures.rows i;
      lens =
          ap (λ (r : Reactions). r.lens) c.operate.ensures.rows i;
      desks = same i;
    })
    ∙ (λ i. with_kept (c.self.view_is i)
    (compute_by c.args.job.now.graph c.args.job.now.sensors c.args.vertex c.args.reaction c.args.registers.now.values
    (own_of c.args.registers.now (c.self.view_is i)) (sym is i)))
