use Rattle.std.proofs.Common.{◌≡◌, ℤ, List, [], ◌∷◌, ap, ◌∙◌, sym, subst}
use Rattle.std.specs.Prelude.{All}
use Rattle.syn_base.specs.Vectors.{Vector, Values}
use Rattle.flat_graph.specs.declared.vertex.Kind.{Kind}
use Rattle.flat_graph.specs.Fire.{kind_outputs}
use Rattle.flat_graph.specs.Level.{all_joined, merged}
use Rattle.graph_code.specs.declared.operation.Output.{Output}
use Rattle.graph_code.specs.Fired.{AreApart, CanRun, HavePut, IsPut, joined_outputs, rows_of}
use Rattle.expression_code.specs.Compiled.{AreBelow}
use Rattle.expression_code.specs.declared.step.Span.{Span}
use Rattle.graph_code.proofs.Firing.{all_below, can_run, cases_are, explode_is, function_put, implode_is, joined_apart, joined_fits, joined_put, none_put, only_fits, only_put}
use Rattle.graph_code.proofs.fire.fire_active.Goals as goal

pub put_row-requires : goal.put_row-requires
put_row-requires c = only_fits c.args.flat.now c.args.vertex.now c.args.operation.now c.args.cell.now c.args.seen.now c.args.store.now
    c.requires c.args.seen.now (ap (λ
    (k : Kind). kind_outputs c.args.flat.now.bodies k c.args.vertex.now.outs c.args.cell.now c.args.seen.now
    (rows_of c.args.store.now c.args.operation.now.inputs.items)) c.in-Sensor.is)

pub returns-in-Sensor : goal.returns-in-Sensor
returns-in-Sensor c = only_put c.args.flat.now c.args.vertex.now c.args.operation.now c.args.cell.now c.args.seen.now c.args.store.now
    c.requires c.args.seen.now c.put_row.new.store
    (ap (λ (k : Kind). kind_outputs c.args.flat.now.bodies k c.args.vertex.now.outs c.args.cell.now c.args.seen.now
    (rows_of c.args.store.now c.args.operation.now.inputs.items)) c.in-Sensor.is) c.put_row.ensures

pub returns-in-Actuator : goal.returns-in-Actuator
returns-in-Actuator c = none_put c.args.flat.now c.args.vertex.now c.args.operation.now c.args.cell.now c.args.seen.now c.args.store.now
    c.requires (ap (λ (k : Kind). kind_outputs c.args.flat.now.bodies k c.args.vertex.now.outs c.args.cell.now c.args.seen.now
    (rows_of c.args.store.now c.args.operation.now.inputs.items)) c.in-Actuator.is)

pub returns-in-Set : goal.returns-in-Set
returns-in-Set c = none_put c.args.flat.now c.args.vertex.now c.args.operation.now c.args.cell.now c.args.seen.now c.args.store.now
    c.requires (ap (λ (k : Kind). kind_outputs c.args.flat.now.bodies k c.args.vertex.now.outs c.args.cell.now c.args.seen.now
    (rows_of c.args.store.now c.args.operation.now.inputs.items)) c.in-Set.is)

pub run_outputs-requires : goal.run_outputs-requires
run_outputs-requires c = rw c.deref.ensures.value
    (can_run c.args.flat.now c.args.vertex.now c.args.operation.now c.args.cell.now c.args.seen.now c.args.store.now c.requires
    c.in-Function.field-0 c.in-Function.is)

pub returns-in-Function : goal.returns-in-Function
returns-in-Function c = function_put c.args.flat.now c.args.vertex.now c.args.operation.now c.args.cell.now c.args.seen.now
    c.args.store.now c.requires c.in-Function.field-0 c.in-Function.is c.run_outputs.new.store (rw c.deref.ensures.value at c.run_outputs.ensures)

pub put_row-requires-in-Constant : goal.put_row-requires-in-Constant
put_row-requires-in-Constant c =
    rw c.as_slice.ensures (only_fits c.args.flat.now c.args.vertex.now c.args.operation.now c.args.cell.now c.args.seen.now
    c.args.store.now c.requires c.in-Constant.values
    (ap (λ (k : Kind). kind_outputs c.args.flat.now.bodies k c.args.vertex.now.outs c.args.cell.now c.args.seen.now
    (rows_of c.args.store.now c.args.operation.now.inputs.items)) c.in-Constant.is))

pub returns-in-Constant : goal.returns-in-Constant
returns-in-Constant c = only_put c.args.flat.now c.args.vertex.now c.args.operation.now c.args.cell.now c.args.seen.now c.args.store.now
    c.requires c.in-Constant.values c.put_row-in-Constant.new.store
    (ap (λ (k : Kind). kind_outputs c.args.flat.now.bodies k c.args.vertex.now.outs c.args.cell.now c.args.seen.now
    (rows_of c.args.store.now c.args.operation.now.inputs.items)) c.in-Constant.is) (rw c.as_slice.ensures at c.put_row-in-Constant.ensures)

pub put_row-requires-in-Get : goal.put_row-requires-in-Get
put_row-requires-in-Get c = only_fits c.args.flat.now c.args.vertex.now c.args.operation.now c.args.cell.now c.args.seen.now
    c.args.store.now c.requires c.args.cell.now
    (ap (λ (k : Kind). kind_outputs c.args.flat.now.bodies k c.args.vertex.now.outs c.args.cell.now c.args.seen.now
    (rows_of c.args.store.now c.args.operation.now.inputs.items)) c.in-Get.is)

pub returns-in-Get : goal.returns-in-Get
returns-in-Get c = only_put c.args.flat.now c.args.vertex.now c.args.operation.now c.args.cell.now c.args.seen.now c.args.store.now
    c.requires c.args.cell.now c.put_row-in-Get.new.store
    (ap (λ (k : Kind). kind_outputs c.args.flat.now.bodies k c.args.vertex.now.outs c.args.cell.now c.args.seen.now
    (rows_of c.args.store.now c.args.operation.now.inputs.items)) c.in-Get.is) c.put_row-in-Get.ensures

pub put_joined-requires-clause-room : goal.put_joined-requires-clause-room
put_joined-requires-clause-room c =
    rw c.deref-in-Explode.ensures.value
    (joined_fits c.args.flat.now c.args.vertex.now c.args.operation.now c.args.cell.now c.args.seen.now c.args.store.now c.requires
    (explode_is c.args.flat.now c.args.vertex.now c.args.operation.now c.args.cell.now c.args.seen.now c.args.store.now c.requires c.in-Explode.is))

pub put_joined-requires-clause-below : goal.put_joined-requires-clause-below
put_joined-requires-clause-below c = rw c.deref-in-Explode.ensures.value (all_below c.args.flat.now c.args.vertex.now c.args.operation.now c.args.cell.now c.args.seen.now c.args.store.now c.requires)

pub put_joined-requires-clause-apart : goal.put_joined-requires-clause-apart
put_joined-requires-clause-apart c =
    rw c.deref-in-Explode.ensures.value
    (joined_apart c.args.flat.now c.args.vertex.now c.args.operation.now c.args.cell.now c.args.seen.now c.args.store.now c.requires
    (explode_is c.args.flat.now c.args.vertex.now c.args.operation.now c.args.cell.now c.args.seen.now c.args.store.now c.requires c.in-Explode.is))

pub returns-in-Explode : goal.returns-in-Explode
returns-in-Explode c = joined_put c.args.flat.now c.args.vertex.now c.args.operation.now c.args.cell.now c.args.seen.now c.args.store.now
    c.requires c.put_joined.new.store
    (explode_is c.args.flat.now c.args.vertex.now c.args.operation.now c.args.cell.now c.args.seen.now c.args.store.now c.requires
    c.in-Explode.is) (rw c.deref-in-Explode.ensures.value at c.put_joined.ensures)

pub put_joined-requires-in-Implode-clause-room : goal.put_joined-requires-in-Implode-clause-room
put_joined-requires-in-Implode-clause-room c =
    rw c.deref-in-Implode.ensures.value
    (joined_fits c.args.flat.now c.args.vertex.now c.args.operation.now c.args.cell.now c.args.seen.now c.args.store.now c.requires
    (implode_is c.args.flat.now c.args.vertex.now c.args.operation.now c.args.cell.now c.args.seen.now c.args.store.now c.requires c.in-Implode.is))

pub put_joined-requires-in-Implode-clause-below : goal.put_joined-requires-in-Implode-clause-below
put_joined-requires-in-Implode-clause-below c =
    rw c.deref-in-Implode.ensures.value
    (all_below c.args.flat.now c.args.vertex.now c.args.operation.now c.args.cell.now c.args.seen.now c.args.store.now c.requires)

pub put_joined-requires-in-Implode-clause-apart : goal.put_joined-requires-in-Implode-clause-apart
put_joined-requires-in-Implode-clause-apart c =
    rw c.deref-in-Implode.ensures.value
    (joined_apart c.args.flat.now c.args.vertex.now c.args.operation.now c.args.cell.now c.args.seen.now c.args.store.now c.requires
    (implode_is c.args.flat.now c.args.vertex.now c.args.operation.now c.args.cell.now c.args.seen.now c.args.store.now c.requires c.in-Implode.is))

pub returns-in-Implode : goal.returns-in-Implode
returns-in-Implode c = joined_put c.args.flat.now c.args.vertex.now c.args.operation.now c.args.cell.now c.args.seen.now c.args.store.now
    c.requires c.put_joined-in-Implode.new.store
    (implode_is c.args.flat.now c.args.vertex.now c.args.operation.now c.args.cell.now c.args.seen.now c.args.store.now c.requires
    c.in-Implode.is) (rw c.deref-in-Implode.ensures.value at c.put_joined-in-Implode.ensures)

pub put_selected-requires-clause-room : goal.put_selected-requires-clause-room
put_selected-requires-clause-room c =
    rw (c.as_slice-in-Merge.ensures, c.deref-in-Merge.ensures.value)
    (only_fits c.args.flat.now c.args.vertex.now c.args.operation.now c.args.cell.now c.args.seen.now c.args.store.now c.requires
    (merged c.in-Merge.values (rows_of c.args.store.now c.args.operation.now.inputs.items))
    (ap (λ (k : Kind). kind_outputs c.args.flat.now.bodies k c.args.vertex.now.outs c.args.cell.now c.args.seen.now
    (rows_of c.args.store.now c.args.operation.now.inputs.items)) c.in-Merge.is))
