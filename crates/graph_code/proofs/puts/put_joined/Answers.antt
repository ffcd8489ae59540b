use Rattle.std.proofs.Common.{arith, rules, length, get_or, refl, ap}
use Rattle.std.proofs.lemmas.List.{take_all, length-map}
use Rattle.flat_graph.specs.Level.{all_joined}
use Rattle.expression_code.specs.Code.{words}
use Rattle.expression_code.specs.declared.step.Span.{Span}
use Rattle.graph_code.specs.Fired.{rows_of}
use Rattle.graph_code.proofs.Writing.{put_same}
use Rattle.graph_code.proofs.Joining.{next_inside, next_place, next_put}
use Rattle.graph_code.proofs.puts.put_joined.Goals as goal

none : Span
none = record { start = 0; len = 0 }

pub put_words-requires-clause-from : goal.put_words-requires-clause-from
unfolding none
put_words-requires-clause-from c =
    let l = c.loop-span in
    omega (arith, c.requires.below l.span-index c.loop-span-test.true, l.invariant.put.len)

pub put_words-requires-clause-to : goal.put_words-requires-clause-to
unfolding none
put_words-requires-clause-to c =
    let l = c.loop-span in
    let first = c.args.store.now in
    omega (
      arith,
      l.invariant.put.len,
      next_inside c.args.start c.args.spans.now first l.store first l.span-index l.at
          (get_or c.args.spans.now l.span-index none) c.loop-span-test.true refl c.requires.below c.requires.room c.requires.apart l.invariant.at l.invariant.put,
    )

pub overflow_add-at : goal.overflow_add-at
unfolding none
overflow_add-at c =
    let l = c.loop-span in
    let first = c.args.store.now in
    let inside = next_inside c.args.start c.args.spans.now first l.store first l.span-index l.at
    (get_or c.args.spans.now l.span-index none) c.loop-span-test.true refl c.requires.below c.requires.room c.requires.apart
    l.invariant.at l.invariant.put in
    search (rules, inside)

pub loop-span-preserved : goal.loop-span-preserved
unfolding none
loop-span-preserved c =
    let l = c.loop-span in
    let first = c.args.store.now in
    record {
      at = next_place c.args.start c.args.spans.now first l.store first l.span-index l.at
          (get_or c.args.spans.now l.span-index none) c.loop-span-test.true refl c.requires.below c.requires.room c.requires.apart
          l.invariant.at l.invariant.put;
      put = next_put c.args.start c.args.spans.now first l.store c.put_words.new.store l.span-index l.at
          (get_or c.args.spans.now l.span-index none) c.loop-span-test.true refl c.requires.below c.requires.room c.requires.apart
          l.invariant.at l.invariant.put c.put_words.ensures;
    }

pub returns : goal.returns
returns c =
    let l = c.loop-span in
    let first = c.args.store.now in
    let all = take_all l.span-index (rows_of first c.args.spans.now) (omega (arith, length-map c.args.spans.now (λ (s : Span). words first s.start s.len))) in
    put_same (length first) c.args.start _ (all_joined (rows_of first c.args.spans.now)) first l.store (ap all_joined all) l.invariant.put
