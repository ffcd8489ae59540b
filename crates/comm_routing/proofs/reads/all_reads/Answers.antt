-- One more operation.
use Rattle.std.proofs.Common.{◌≤◌, ◌<◌, ◌+◌, ℕ, List, map, length, arith, ap, sym, subst, refl, ◌∙◌}
use Rattle.std.specs.Prelude.{slice_index_or}
use Rattle.std.proofs.lemmas.List.{with_items_is}
use Rattle.comm_routing.specs.Start.{AreThere, reads_of}
use Rattle.comm_routing.proofs.Appending.{all_appended}
use Rattle.comm_routing.proofs.Reading.{reads_more, short_more}
use Rattle.comm_routing.proofs.reads.all_reads.Goals as goal

pub reads_of-requires-clause-there : goal.reads_of-requires-clause-there
reads_of-requires-clause-there c =
    subst (AreThere (length c.args.vertices.now)) (sym c.index-vertices-op.is) (c.requires.there c.loop-op.op c.index-vertices-op.result c.loop-op-test.true)

pub reads_of-requires-clause-unmarked : goal.reads_of-requires-clause-unmarked
reads_of-requires-clause-unmarked c = λ i.
    subst (λ (l : List ℕ). slice_index_or l i 0 < c.loop-op.op + 1) (sym c.as_mut_slice.ensures.value) (let low = c.loop-op.invariant.low i in omega arith)

pub loop-op-preserved : goal.loop-op-preserved
loop-op-preserved c =
    let size = c.in_ok-reads_of.ensures.size in
    let before = c.loop-op.invariant.size in
    let same = with_items_is c.loop-op.marks c.reads_of.new.marks (omega arith) in
    record {
      size = ap (λ (l : List ℕ). length l) same ∙ size;
      low = λ i. subst (λ (l : List ℕ). slice_index_or l i 0 ≤ c.loop-op.op + 1) (sym same) (c.in_ok-reads_of.ensures.low i);
      left = reads_more c.args.vertices.now c.loop-op.op c.index-vertices-op.result c.in_ok-reads_of.field-0 c.loop-op.reads.items
          c.push.new.self.items _ c.loop-op-test.true c.index-vertices-op.is c.in_ok-reads_of.ensures.reads
          c.in_ok-push.ensures.items c.loop-op.invariant.left;
      short = short_more 131072 c.in_ok-reads_of.field-0 c.loop-op.reads.items c.push.new.self.items c.in_ok-push.ensures.items c.in_ok-reads_of.ensures.short c.loop-op.invariant.short;
    }

pub returns-clause-reads : goal.returns-clause-reads
returns-clause-reads c = all_appended (map reads_of) c.args.vertices.now c.loop-op.op c.loop-op.reads.items _ refl c.loop-op-test.false c.loop-op.invariant.left
