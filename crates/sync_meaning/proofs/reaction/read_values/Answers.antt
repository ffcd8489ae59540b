use Rattle.std.proofs.Common.{◌≡◌, ◌++◌, take, length, sym, ap, ◌∙◌}
use Rattle.flat_graph.specs.Meaning.{conditions, inputs}
use Rattle.sync_meaning.specs.Store.{lengths, value_at}
use Rattle.sync_meaning.proofs.Pieces.{count_is, conditions_fit, inputs_fit, mid_lens, read_none, read_all, new_lens}
use Rattle.sync_meaning.proofs.reaction.read_values.Goals as goal

pub read_conditions-requires-clause-count : goal.read_conditions-requires-clause-count
read_conditions-requires-clause-count c =
    rw (c.as_slice-sources.ensures, c.as_slice-guards.ensures) (count_is (value_at c.args.table.now) c.args.vertex.now c.args.read.now c.requires)

pub read_conditions-requires-clause-lens : goal.read_conditions-requires-clause-lens
read_conditions-requires-clause-lens c =
    rw (c.as_slice-sources.ensures, c.as_slice-guards.ensures) (conditions_fit (value_at c.args.table.now) c.args.vertex.now c.args.read.now c.requires)

pub read_inputs-requires : goal.read_inputs-requires
read_inputs-requires c =
    let look = value_at c.args.table.now in
    let mid_is = rw (c.as_slice-sources.ensures, c.as_slice-guards.ensures) at c.read_conditions.ensures in
    rw c.as_slice-sources.ensures (inputs_fit look c.args.vertex.now c.args.read.now c.requires c.read_conditions.new.read mid_is)

pub returns-then-are_holding-clause-values : goal.returns-then-are_holding-clause-values
returns-then-are_holding-clause-values c =
    let look = value_at c.args.table.now in
    let mid_is = rw (c.as_slice-sources.ensures, c.as_slice-guards.ensures) at c.read_conditions.ensures in
    let new_is = rw c.as_slice-sources.ensures at c.read_inputs.ensures in
    read_all look c.args.vertex.now c.args.read.now c.requires c.read_conditions.new.read mid_is c.read_inputs.new.read new_is

pub returns-then-are_holding-clause-lens : goal.returns-then-are_holding-clause-lens
returns-then-are_holding-clause-lens c =
    let look = value_at c.args.table.now in
    let mid_is = rw (c.as_slice-sources.ensures, c.as_slice-guards.ensures) at c.read_conditions.ensures in
    let new_is = rw c.as_slice-sources.ensures at c.read_inputs.ensures in
    new_lens look c.args.vertex.now c.args.read.now c.requires c.read_conditions.new.read mid_is c.read_inputs.new.read new_is

pub returns-else-are_holding-clause-values : goal.returns-else-are_holding-clause-values
returns-else-are_holding-clause-values c =
    let look = value_at c.args.table.now in
    let mid_is = rw (c.as_slice-sources.ensures, c.as_slice-guards.ensures) at c.read_conditions.ensures in
    let off = rw c.as_slice-guards.ensures at c.if-are_holding.ensures in
    read_none look c.args.vertex.now c.args.read.now c.requires c.read_conditions.new.read mid_is (sym off)

pub returns-else-are_holding-clause-lens : goal.returns-else-are_holding-clause-lens
returns-else-are_holding-clause-lens c =
    let look = value_at c.args.table.now in
    let mid_is = rw (c.as_slice-sources.ensures, c.as_slice-guards.ensures) at c.read_conditions.ensures in
    mid_lens look c.args.vertex.now c.args.read.now c.requires c.read_conditions.new.read mid_is
