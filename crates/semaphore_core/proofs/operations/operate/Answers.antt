-- An operation is made on its desk.
use Rattle.std.proofs.Common.{◌≡◌, ℕ, true, ◌<◌, ◌∙◌, length, sum, sym, ap, subst, arith, List, [], get_or, Some}
use Rattle.std.specs.Prelude.{slice_get}
use Rattle.executive_program.specs.declared.Vertex.{Vertex}
use Rattle.executive_program.specs.declared.Kind.TheVariants.{Sensor}
use Rattle.executive_program.specs.Meaning.{sensed}
use Rattle.executive_program.specs.FlatValid.{is_flat}
use Rattle.executive_program.specs.Fire.{seen_len}
use Rattle.executive_program.specs.Graph.{Graph}
use Rattle.operation_desks.specs.Operation.{rows_by}
use Rattle.semaphore_core.specs.Job.{JobData}
use Rattle.semaphore_core.specs.Rows.{TakesRow}
use Rattle.semaphore_core.proofs.RowVectors.{cells_of}
use Rattle.semaphore_core.proofs.Operate.{is_there, senses, takes_row, rows_are, given_lens, read_same, desk_same}
use Rattle.semaphore_core.proofs.operations.operate.Goals as goal
use Rattle.syn_base.specs.Vectors.{Vector, Values, vector_at}

seen : (j : JobData) (v : ℕ) (x : Vertex) (k : ℕ) (s : Vector) → is_flat j.graph ≡ true → slice_get j.graph.vertices v ≡ Some x → s
    ≡ sensed x.kind (get_or j.sensors k []) → ((i : ℕ) → x.kind ≡ Sensor i → length s ≡ get_or j.lens i 0)
    → ((i : ℕ) → x.kind ≡ Sensor i → (i < length j.lens) × (get_or j.lens i 0 ≡ seen_len j.graph v)) → length s ≡ seen_len j.graph v
seen j v x k s valid is e n h = senses j.graph valid v x is j.lens s (get_or j.sensors k []) e n h

pub sensed-requires-clause-sensor : goal.sensed-requires-clause-sensor
sensed-requires-clause-sensor c = λ i e. (c.requires.sensor i e).0

pub fire_on-requires-clause-there : goal.fire_on-requires-clause-there
fire_on-requires-clause-there c =
    subst (λ (g : Graph). c.args.call.vertex < length g.vertices) (sym c.flat.ensures)
    (is_there c.args.job.now.graph c.requires.valid c.args.call.vertex c.args.call.x.now c.requires.there)

pub fire_on-requires-clause-seen : goal.fire_on-requires-clause-seen
fire_on-requires-clause-seen c =
    seen c.args.job.now c.args.call.vertex c.args.call.x.now c.args.call.reaction c.sensed.result.now c.requires.valid c.requires.there
    c.sensed.ensures.value c.sensed.ensures.len c.requires.sensor ∙ ap (λ (g : Graph). seen_len g c.args.call.vertex) (sym c.flat.ensures)

pub give-requires : goal.give-requires
give-requires c =
    let e = ap sum (given_lens c.args.job.now.graph c.requires.valid c.args.call.vertex c.args.call.x.now c.requires.there c.args.desk.now
    c.read.new.self c.fire_on.new.desk c.requires.desk c.args.registers.now.values c.read.ensures.conditions c.read.ensures.inputs
    c.read.ensures.lens c.read.ensures.rest c.flat.result.now c.flat.ensures
    (cells_of c.args.cells.now.items) c.sensed.result.now c.fire_on.ensures.outs c.requires.cell
    (seen c.args.job.now c.args.call.vertex c.args.call.x.now c.args.call.reaction c.sensed.result.now c.requires.valid
    c.requires.there c.sensed.ensures.value c.sensed.ensures.len c.requires.sensor)) in let r = c.requires.room in omega arith

pub take_row-requires-clause-actuator : goal.take_row-requires-clause-actuator
take_row-requires-clause-actuator c =
    subst (λ (vs : Values). TakesRow c.args.call.x.now c.args.rows.now.lens vs)
    (sym (read_same c.args.job.now.graph c.requires.valid c.args.call.vertex c.args.call.x.now c.requires.there c.args.desk.now
    c.read.new.self c.fire_on.new.desk c.requires.desk c.args.registers.now.values c.read.ensures.conditions c.read.ensures.inputs
    c.read.ensures.lens c.read.ensures.rest c.flat.result.now c.flat.ensures
    (cells_of c.args.cells.now.items) c.sensed.result.now c.fire_on.ensures.outs c.requires.cell
    (seen c.args.job.now c.args.call.vertex c.args.call.x.now c.args.call.reaction c.sensed.result.now c.requires.valid
    c.requires.there c.sensed.ensures.value c.sensed.ensures.len c.requires.sensor)))
    (takes_row c.args.job.now.graph c.requires.valid c.args.call.vertex c.args.call.x.now c.requires.there c.args.desk.now c.requires.desk
    c.args.registers.now.values c.read.new.self.read c.read.ensures.conditions c.read.ensures.inputs c.args.rows.now.lens
    c.requires.actuator c.read.ensures.lens)

pub returns-clause-rows : goal.returns-clause-rows
returns-clause-rows c = c.take_row.ensures ∙ ap (λ (r : List Values). record { lens = c.args.rows.now.lens; reactions = r }) (
    ap (λ (vs : Values). rows_by c.args.call.x.now.kind c.args.call.reaction (vector_at vs 0) c.args.rows.now.reactions)
    (read_same c.args.job.now.graph c.requires.valid c.args.call.vertex c.args.call.x.now c.requires.there c.args.desk.now
    c.read.new.self c.fire_on.new.desk c.requires.desk c.args.registers.now.values c.read.ensures.conditions c.read.ensures.inputs
    c.read.ensures.lens c.read.ensures.rest c.flat.result.now c.flat.ensures
    (cells_of c.args.cells.now.items) c.sensed.result.now c.fire_on.ensures.outs c.requires.cell
    (seen c.args.job.now c.args.call.vertex c.args.call.x.now c.args.call.reaction c.sensed.result.now c.requires.valid
    c.requires.there c.sensed.ensures.value c.sensed.ensures.len c.requires.sensor))
    ∙ rows_are c.args.job.now.graph c.requires.valid c.args.call.vertex c.args.call.x.now c.requires.there c.args.desk.now c.requires.desk
    c.args.registers.now.values c.read.new.self.read c.read.ensures.conditions c.read.ensures.inputs c.args.rows.now.lens
    c.requires.actuator c.args.call.reaction c.args.rows.now.reactions)

pub returns-clause-desk : goal.returns-clause-desk
returns-clause-desk c = desk_same c.args.job.now.graph c.requires.valid c.args.call.vertex c.args.call.x.now c.requires.there
    c.args.desk.now c.read.new.self c.fire_on.new.desk c.requires.desk c.args.registers.now.values c.read.ensures.conditions
    c.read.ensures.inputs c.read.ensures.lens c.read.ensures.rest c.flat.result.now c.flat.ensures
    (cells_of c.args.cells.now.items) c.sensed.result.now c.fire_on.ensures.outs c.requires.cell
    (seen c.args.job.now c.args.call.vertex c.args.call.x.now c.args.call.reaction c.sensed.result.now c.requires.valid c.requires.there
    c.sensed.ensures.value c.sensed.ensures.len c.requires.sensor)
