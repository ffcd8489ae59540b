use Rattle.std.proofs.Common.{◌≡◌, ◌+◌, ◌-◌, ◌<◌, ◌++◌, ℕ, length, take, drop, get_or, ap, sym, arith, ◌∙◌}
use Rattle.flat_graph.specs.declared.vertex.Guard.{Guard}
use Rattle.sync_meaning.specs.Store.{value_at}
use Rattle.sync_meaning.proofs.Reading.{there, long, written}
use Rattle.sync_meaning.proofs.Whole.{over_last, last_lens, last_at, last_count, last_none, last_whole}
use Rattle.sync_meaning.proofs.reaction.read_conditions.Goals as goal
use Rattle.syn_base.specs.Vectors.{Vector, vector_at}

pub put-requires-clause-port : goal.put-requires-clause-port
put-requires-clause-port c =
    let look = λ (d : Guard). value_at c.args.table.now d.source in
    let gs = c.args.guards.now in
    let old = c.args.read.now in
    let count = last_count look gs old c.args.first c.requires.count c.requires.lens in
    let lt : c.loop-port.port < length (over_last look gs old c.args.first c.requires.count c.requires.lens) = omega (arith, count) in
    there (over_last look gs old c.args.first c.requires.count c.requires.lens) old c.loop-port.read c.loop-port.port
    (last_lens look gs old c.args.first c.requires.count c.requires.lens) lt c.loop-port.invariant

pub put-requires-clause-len : goal.put-requires-clause-len
put-requires-clause-len c =
    let look = λ (d : Guard). value_at c.args.table.now d.source in
    let gs = c.args.guards.now in
    let old = c.args.read.now in
    let first = c.args.first in
    let whole = over_last look gs old first c.requires.count c.requires.lens in
    let port = c.loop-port.port in
    let count = last_count look gs old first c.requires.count c.requires.lens in
    let lt : port < length whole = omega (arith, count) in
    let back : first + (port - first) ≡ port = omega arith in
    let short : port - first < length gs = omega (arith, c.requires.count) in
    let at : c.value_of.result.now ≡ vector_at whole port =
    last_at look gs old first c.requires.count c.requires.lens (port - first) _ c.value_of.result.now short c.value_of.ensures
    ∙ ap (λ (n : ℕ). vector_at whole n) back in
    long whole old c.loop-port.read port (last_lens look gs old first c.requires.count c.requires.lens) lt c.loop-port.invariant c.value_of.result.now at

pub loop-port-init : goal.loop-port-init
loop-port-init c =
    let look = λ (d : Guard). value_at c.args.table.now d.source in
    sym (last_none look c.args.guards.now c.args.read.now c.args.first c.requires.count c.requires.lens)

pub loop-port-preserved : goal.loop-port-preserved
loop-port-preserved c =
    let look = λ (d : Guard). value_at c.args.table.now d.source in
    let gs = c.args.guards.now in
    let old = c.args.read.now in
    let first = c.args.first in
    let whole = over_last look gs old first c.requires.count c.requires.lens in
    let port = c.loop-port.port in
    let count = last_count look gs old first c.requires.count c.requires.lens in
    let lt : port < length whole = omega (arith, count) in
    let back : first + (port - first) ≡ port = omega arith in
    let short : port - first < length gs = omega (arith, c.requires.count) in
    let at : c.value_of.result.now ≡ vector_at whole port =
    last_at look gs old first c.requires.count c.requires.lens (port - first) _ c.value_of.result.now short c.value_of.ensures
    ∙ ap (λ (n : ℕ). vector_at whole n) back in
    c.put.ensures ∙ written whole old c.loop-port.read port (last_lens look gs old first c.requires.count c.requires.lens) lt c.loop-port.invariant c.value_of.result.now at

pub returns : goal.returns
returns c =
    let look = λ (d : Guard). value_at c.args.table.now d.source in
    c.loop-port.invariant ∙ last_whole look c.args.guards.now c.args.read.now c.args.first c.requires.count c.requires.lens c.loop-port.port (omega arith)
