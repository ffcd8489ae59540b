use Rattle.std.proofs.Common.{◌≡◌, ◌<◌, ◌++◌, ℕ, length, take, drop, ap, sym, arith, ◌∙◌}
use Rattle.sync_meaning.specs.Store.{value_at}
use Rattle.sync_meaning.proofs.Reading.{there, long, written}
use Rattle.sync_meaning.proofs.Whole.{over_first, first_lens, first_at, first_more, first_whole}
use Rattle.sync_meaning.proofs.reaction.read_inputs.Goals as goal

pub put-requires-clause-port : goal.put-requires-clause-port
put-requires-clause-port c =
    let look = value_at c.args.table.now in
    let ss = c.args.sources.now in
    let old = c.args.read.now in
    let lt : c.loop-port.port < length (over_first look ss old c.requires) = omega (arith, first_more look ss old c.requires, c.loop-port-test.true) in
    there (over_first look ss old c.requires) old c.loop-port.read c.loop-port.port (first_lens look ss old c.requires) lt c.loop-port.invariant

pub put-requires-clause-len : goal.put-requires-clause-len
put-requires-clause-len c =
    let look = value_at c.args.table.now in
    let ss = c.args.sources.now in
    let old = c.args.read.now in
    let lt : c.loop-port.port < length (over_first look ss old c.requires) = omega (arith, first_more look ss old c.requires, c.loop-port-test.true) in
    long (over_first look ss old c.requires) old c.loop-port.read c.loop-port.port (first_lens look ss old c.requires) lt c.loop-port.invariant c.value_of.result.now
    (first_at look ss old c.requires c.loop-port.port _ c.value_of.result.now c.loop-port-test.true c.value_of.ensures)

pub loop-port-preserved : goal.loop-port-preserved
loop-port-preserved c =
    let look = value_at c.args.table.now in
    let ss = c.args.sources.now in
    let old = c.args.read.now in
    let lt : c.loop-port.port < length (over_first look ss old c.requires) = omega (arith, first_more look ss old c.requires, c.loop-port-test.true) in
    c.put.ensures
    ∙ written (over_first look ss old c.requires) old c.loop-port.read c.loop-port.port (first_lens look ss old c.requires) lt c.loop-port.invariant c.value_of.result.now
    (first_at look ss old c.requires c.loop-port.port _ c.value_of.result.now c.loop-port-test.true c.value_of.ensures)

pub returns : goal.returns
returns c =
    let look = value_at c.args.table.now in
    let ss = c.args.sources.now in
    let old = c.args.read.now in
    let whole = over_first look ss old c.requires in
    let end : c.loop-port.port ≡ length ss = omega arith in
    c.loop-port.invariant ∙ ap (λ (n : ℕ). take n whole ++ drop n old) end ∙ first_whole look ss old c.requires
